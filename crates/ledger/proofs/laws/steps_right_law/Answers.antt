use Rattle.ledger.proofs.Chosen.{step_in_words}
use Rattle.ledger.proofs.Stepped.{steps_right}
use Rattle.ledger.proofs.laws.steps_right_law.Goals as goal

pub returns : goal.returns
returns g c =
    let o = g.met.G.Cost.Ordered in
    record { stands = λ s b d calls answers k. steps_right g.G.Gauge g.G.Cost.Ordered (step_in_words g.G.Gauge g.G.Cost.Ordered o.total o.transitive o.told) s k }
