use Rattle.std.proofs.Common.{◌≡◌}
use Rattle.mesh.specs.Model.{held}
use Rattle.drawing.specs.Places.{place, Numbering}
use Rattle.drawing.proofs.places.number_vertices.Given as goal

abbrev pub invariant-loop-v : goal.invariant-loop-v
invariant-loop-v l = (l.place ≡ place (held l.edges) l.v) × Numbering (held l.edges) l.v l.places
