use Rattle.ledger.proofs.Singles.{single_valued}
use Rattle.ledger.proofs.laws.single_valued_law.Goals as goal

pub returns : goal.returns
returns g c = record { stands = single_valued g.G.Gauge g.G.Cost.Ordered }
