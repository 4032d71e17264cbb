use Rattle.std.proofs.Common.{length}
use Rattle.gathering.specs.Model.{point_of}
use Rattle.mesh.specs.Ahead.{rest}
use Rattle.sweep.proofs.Adding.{Summed}
use Rattle.sweep.proofs.walk.swept.Given as goal

abbrev pub invariant-loop-h : goal.invariant-loop-h
invariant-loop-h l = Summed l.edges (point_of l.positions) l.e l.w (rest l.initial.h-iterator) (length l.yielded) l.volume l.number
