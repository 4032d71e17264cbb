-- What a gathering holds, and the surface that it stands for.
use Rattle.std.specs.Prelude.{ℕ, ◌/◌, List, length, vec_items, slice_index_or}
use Rattle.surface.specs.Surface.{Surface}
use Rattle.surface.specs.Geometry.{Vector}
use Rattle.surface.specs.Read.{whole}
use Rattle.gathering.specs.declared.gathering.Gathering.{Gathering}
use Rattle.geometry.specs.Values.{vector_of}
use Rattle.geometry.specs.declared.Position.{Position}

-- the positions of the vertices, by number
abbrev pub positions : Gathering → List Position
positions g = vec_items g.positions

-- the corners of the triangles, three each, one triangle after the other
abbrev pub corners : Gathering → List ℕ
corners g = vec_items g.corners

-- how many triangles those corners make
abbrev pub triangle_count : List ℕ → ℕ
triangle_count cs = length cs / 3

-- the point of vertex v
abbrev pub point_of : List Position → ℕ → Vector
point_of ps v = vector_of (slice_index_or ps v (record { x = 0; y = 0; z = 0 }))

-- all gathered triangles and vertices, live
abbrev pub surface_of : List Position → List ℕ → Surface
surface_of ps cs = whole cs (length ps)
