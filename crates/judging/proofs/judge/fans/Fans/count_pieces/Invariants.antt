use Rattle.std.proofs.Common.{◌≡◌, ◌≤◌, [], vec_items, vec_len, vec_capacity}
use Rattle.judging.specs.Floods.{Level, Settled, Found}
use Rattle.judging.proofs.judge.fans.Fans.count_pieces.Given as goal

abbrev pub invariant-loop-v : goal.invariant-loop-v
invariant-loop-v l =
    Found l.self.corners.now (vec_len l.self.last) l.v l.pieces (vec_items l.seen) ×
    Settled l.self.corners.now (vec_items l.seen) ×
    Level (vec_len l.self.last) (vec_items l.seen) (vec_items l.waiting) ×
    (vec_items l.waiting ≡ []) ×
    (vec_len l.self.last ≤ vec_capacity l.waiting)
