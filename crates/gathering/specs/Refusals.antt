-- The numbers of the refusals.
use Rattle.std.specs.Prelude.{ℕ}
use Rattle.gathering.specs.declared.refusal.VertexRefusal.{VertexRefusal}
use Rattle.gathering.specs.declared.refusal.VertexRefusal.TheVariants.{TooManyVertices, CoordinateAbove255}
use Rattle.gathering.specs.declared.refusal.TriangleRefusal.{TriangleRefusal}
use Rattle.gathering.specs.declared.refusal.TriangleRefusal.TheVariants.{TooManyTriangles, UnknownCorner, EqualCorners}

abbrev pub vertex_number : VertexRefusal → ℕ
vertex_number CoordinateAbove255 = 1
vertex_number TooManyVertices = 2

abbrev pub triangle_number : TriangleRefusal → ℕ
triangle_number TooManyTriangles = 3
triangle_number UnknownCorner = 4
triangle_number EqualCorners = 5
