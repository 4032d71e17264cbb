use Rattle.ledger.proofs.Chosen.{step_in_words}
use Rattle.ledger.proofs.laws.step_in_words_law.Goals as goal

pub returns : goal.returns
returns g c = record { stands = step_in_words g.G.Gauge g.G.Cost.Ordered g.met.G.Cost.Ordered.total g.met.G.Cost.Ordered.transitive g.met.G.Cost.Ordered.told }
