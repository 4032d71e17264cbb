use Rattle.ledger.proofs.Preserves.{stands}
use Rattle.ledger.proofs.laws.stands_law.Goals as goal

pub returns : goal.returns
returns g c = record { stands = stands g.G.Gauge g.G.Cost.Ordered }
