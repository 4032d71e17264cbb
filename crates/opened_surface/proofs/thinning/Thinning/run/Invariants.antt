use Rattle.std.proofs.Common.{◌≡◌, ◌≤◌, length, take, vec_items, vec_len, vec_capacity}
use Rattle.opened_surface.specs.Tied.{FollowsAll, Tied}
use Rattle.opened_surface.proofs.thinning.Thinning.run.Given as goal

abbrev pub invariant-loop-call : goal.invariant-loop-call
invariant-loop-call g l =
    (Tied g.G.Gauge g.G.Cost.Ordered l.initial.self → FollowsAll g.G.Gauge g.G.Cost.Ordered l.initial.self (take l.call-index l.calls) (vec_items l.answers) l.self)
    × (vec_len l.answers ≡ l.call-index)
    × (length l.calls ≤ vec_capacity l.answers)
