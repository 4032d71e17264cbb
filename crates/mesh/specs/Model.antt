-- What half-edges and meshes stand for.
use Rattle.std.specs.Prelude.{ℕ, List, length, vec_items}
use Rattle.surface.specs.Surface.{Surface}
use Rattle.surface.specs.Geometry.{Vector}
use Rattle.surface.specs.Read.{read, whole}
use Rattle.gathering.specs.Model.{point_of}
use Rattle.mesh.specs.declared.record.Record.{Record}
use Rattle.mesh.specs.declared.halfedges.HalfEdges.{HalfEdges}
use Rattle.mesh.specs.declared.mesh.Mesh.{Mesh}

-- the surface that the lists hold
abbrev pub held : HalfEdges → Surface
held e = read (vec_items e.corners) (vec_items e.triangles) (vec_items e.vertices)

-- the surface as it is now, and as it was opened
abbrev pub surface : Mesh → Surface
surface m = held m.edges

abbrev pub opening : Mesh → Surface
opening m = whole (vec_items m.opened) (length (vec_items m.positions))

abbrev pub points : Mesh → ℕ → Vector
points m = point_of (vec_items m.positions)

abbrev pub log : Mesh → List Record
log m = vec_items m.log
