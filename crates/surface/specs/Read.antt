-- Surfaces read from lists.
use Rattle.std.specs.Prelude.{ℕ, ◌/◌, Bool, true, false, List, length, replicate, slice_index, slice_index_or}
use Rattle.surface.specs.Surface.{Surface}

-- the corners of the triangles one after the other, three each, and which triangles and which vertices are live
unfoldable pub read : List ℕ → List Bool → List Bool → Surface
read corners live vertices = record { corner = λ h. slice_index corners h; alive = λ t. slice_index_or live t false; present = λ v. slice_index_or vertices v false }

-- the triangles of the corners and n vertices, all live
abbrev pub whole : List ℕ → ℕ → Surface
whole corners n = read corners (replicate (length corners / 3) true) (replicate n true)
