use Rattle.ledger.proofs.Totals.{totals}
use Rattle.ledger.proofs.laws.total_law.Goals as goal

pub returns : goal.returns
returns g c = record { stands = totals g.G.Gauge g.G.Cost.Ordered g.met.G.Cost.Ordered.total g.met.G.Cost.Ordered.transitive g.met.G.Cost.Ordered.told }
