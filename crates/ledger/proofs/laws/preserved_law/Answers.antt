use Rattle.ledger.proofs.Preserves.{preserved}
use Rattle.ledger.proofs.laws.preserved_law.Goals as goal

pub returns : goal.returns
returns g c = record { stands = preserved g.G.Gauge g.G.Cost.Ordered }
