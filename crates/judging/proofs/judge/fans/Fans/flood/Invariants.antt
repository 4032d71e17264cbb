use Rattle.std.proofs.Common.{◌+◌, ◌-◌, ◌≤◌, length, vec_items, vec_len, vec_capacity}
use Rattle.judging.specs.Floods.{Level, Flooding, marked}
use Rattle.judging.proofs.judge.fans.Fans.flood.Given as goal

abbrev pub invariant-loop-x : goal.invariant-loop-x
invariant-loop-x l =
    Flooding l.self.corners.now (vec_len l.self.last) l.v l.initial.seen l.seen (vec_items l.waiting) ×
    Level (vec_len l.self.last) l.seen (vec_items l.waiting) ×
    (vec_len l.self.last ≤ vec_capacity l.waiting)

abbrev pub decreases-loop-x : goal.decreases-loop-x
decreases-loop-x l = vec_len l.self.last - marked l.seen (vec_len l.self.last) + length (vec_items l.waiting)
