use Rattle.std.proofs.Common.{not, eqb, length, get_or}
use Rattle.surface.specs.Euler.{count}
use Rattle.mesh.proofs.Walking.{Walking}
use Rattle.mesh.proofs.halfedges.edits.walk.Given as goal

abbrev pub invariant-loop-h : goal.invariant-loop-h
invariant-loop-h l = Walking l.initial.corners (λ h. get_or l.twin h 0) l.first l.last l.v l.h l.corners

-- the half-edges that v does not begin yet
abbrev pub decreases-loop-h : goal.decreases-loop-h
decreases-loop-h l = count (λ k. not (eqb (get_or l.corners k 0) l.v)) (length l.corners)
