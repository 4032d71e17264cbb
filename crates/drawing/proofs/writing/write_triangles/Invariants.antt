use Rattle.std.proofs.Common.{◌≡◌}
use Rattle.mesh.specs.Model.{held}
use Rattle.drawing.specs.Places.{triangle_place}
use Rattle.drawing.specs.Drawn.{Cornered}
use Rattle.drawing.proofs.writing.write_triangles.Given as goal

abbrev pub invariant-loop-t : goal.invariant-loop-t
invariant-loop-t l = (l.k ≡ triangle_place (held l.edges) l.t) × Cornered (held l.edges) l.t l.initial.triangles l.triangles
