use Rattle.std.proofs.Common.{◌≡◌, vec_items}
use Rattle.mesh.specs.Model.{surface}
use Rattle.drawing.specs.Places.{place}
use Rattle.drawing.specs.Drawn.{Pointed}
use Rattle.drawing.proofs.writing.write_points.Given as goal

abbrev pub invariant-loop-v : goal.invariant-loop-v
invariant-loop-v l = (l.k ≡ place (surface l.mesh) l.v) × Pointed (surface l.mesh) (vec_items l.mesh.positions) l.v l.initial.points l.points
