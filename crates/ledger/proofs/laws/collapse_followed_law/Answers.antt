use Rattle.ledger.proofs.Accounts.{followed}
use Rattle.ledger.proofs.laws.collapse_followed_law.Goals as goal

pub returns : goal.returns
returns g c =
    let laws = g.met.G.Gauge in
    record { stands = λ s b u w K p. followed g.G.Gauge laws.opened_long laws.opened_sound laws.merged_sound laws.back s b K u w p }
