use Rattle.ledger.proofs.Totals.{never_stuck}
use Rattle.ledger.proofs.laws.never_stuck_law.Goals as goal

pub returns : goal.returns
returns g c = record { stands = never_stuck g.G.Gauge g.G.Cost.Ordered g.met.G.Cost.Ordered.total g.met.G.Cost.Ordered.transitive }
