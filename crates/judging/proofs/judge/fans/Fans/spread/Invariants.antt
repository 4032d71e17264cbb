use Rattle.std.proofs.Common.{◌≡◌, ◌≤◌, vec_items, vec_len, vec_capacity}
use Rattle.judging.specs.Floods.{Level, Grown, Walked}
use Rattle.judging.proofs.judge.fans.Fans.spread.Given as goal

abbrev pub invariant-loop-h : goal.invariant-loop-h
invariant-loop-h l =
    let cs = l.self.corners.now in
    Grown cs (vec_len l.self.last) l.x l.initial.seen (vec_items l.initial.waiting) l.seen (vec_items l.waiting) ×
    ((l.h-iterator.link.now ≡ vec_items l.self.link) × Walked cs l.x l.h-iterator.at l.seen) ×
    Level (vec_len l.self.last) l.seen (vec_items l.waiting) ×
    (vec_len l.self.last ≤ vec_capacity l.waiting)
