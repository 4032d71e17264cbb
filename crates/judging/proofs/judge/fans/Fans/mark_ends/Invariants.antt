use Rattle.std.proofs.Common.{◌≡◌, vec_items}
use Rattle.judging.specs.Sides.{Marking}
use Rattle.judging.proofs.judge.fans.Fans.mark_ends.Given as goal

abbrev pub invariant-loop-h : goal.invariant-loop-h
invariant-loop-h l = (l.h-iterator.link.now ≡ vec_items l.self.link) × Marking l.self.corners.now l.u l.h-iterator.at l.marks
