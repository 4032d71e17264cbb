-- What one more vertex or triangle does to a gathering.
use Rattle.std.specs.Prelude.{◌≡◌, ℕ, ◌<◌, ◌≤◌, ◌≢◌, ◌⊎◌, [], ◌∷◌, ◌++◌, length, Ok, Err, Result}
use Rattle.gathering.specs.declared.gathering.Gathering.{Gathering}
use Rattle.gathering.specs.declared.refusal.VertexRefusal.{VertexRefusal}
use Rattle.gathering.specs.declared.refusal.VertexRefusal.TheVariants.{TooManyVertices, CoordinateAbove255}
use Rattle.gathering.specs.declared.refusal.TriangleRefusal.{TriangleRefusal}
use Rattle.gathering.specs.declared.refusal.TriangleRefusal.TheVariants.{TooManyTriangles, UnknownCorner, EqualCorners}
use Rattle.gathering.specs.Model.{positions, corners, triangle_count}

-- at h the gathering holds what it held at g
pub record Unchanged (g h : Gathering) : Type 0 where
  pub positions_same : positions h ≡ positions g
  pub corners_same : corners h ≡ corners g

-- a coordinate is above 255
abbrev pub Far : ℕ → ℕ → ℕ → Type 0
Far x y z = (255 < x) ⊎ ((255 < y) ⊎ (255 < z))

-- vertex (x, y, z) stands at the end
pub record VertexTaken (g : Gathering) (x y z : ℕ) (h : Gathering) : Type 0 where
  pub room : length (positions g) < 1024
  pub near : (x ≤ 255) × (y ≤ 255) × (z ≤ 255)
  pub appended : positions h ≡ positions g ++ record { x = x; y = y; z = z } ∷ []
  pub corners_same : corners h ≡ corners g

-- from g to h, by the vertex (x, y, z) and the answer
abbrev pub AddedVertex : Gathering → ℕ → ℕ → ℕ → Result Unit VertexRefusal → Gathering → Type 0
AddedVertex g x y z (Ok r) h = VertexTaken g x y z h
AddedVertex g x y z (Err TooManyVertices) h = (1024 ≤ length (positions g)) × Unchanged g h
AddedVertex g x y z (Err CoordinateAbove255) h = (length (positions g) < 1024) × Far x y z × Unchanged g h

-- a corner is no gathered vertex
abbrev pub Unknown : ℕ → ℕ → ℕ → ℕ → Type 0
Unknown n a b c = (n ≤ a) ⊎ ((n ≤ b) ⊎ (n ≤ c))

-- two corners are equal
abbrev pub Equal : ℕ → ℕ → ℕ → Type 0
Equal a b c = (a ≡ b) ⊎ ((b ≡ c) ⊎ (c ≡ a))

abbrev pub AllKnown : ℕ → ℕ → ℕ → ℕ → Type 0
AllKnown n a b c = (a < n) × (b < n) × (c < n)

-- triangle (a, b, c) stands at the end
pub record TriangleTaken (g : Gathering) (a b c : ℕ) (h : Gathering) : Type 0 where
  pub room : triangle_count (corners g) < 2048
  pub gathered : AllKnown (length (positions g)) a b c
  pub differ : (a ≢ b) × (b ≢ c) × (c ≢ a)
  pub appended : corners h ≡ corners g ++ a ∷ b ∷ c ∷ []
  pub positions_same : positions h ≡ positions g

-- from g to h, by the triangle (a, b, c) and the answer
abbrev pub AddedTriangle : Gathering → ℕ → ℕ → ℕ → Result Unit TriangleRefusal → Gathering → Type 0
AddedTriangle g a b c (Ok r) h = TriangleTaken g a b c h
AddedTriangle g a b c (Err TooManyTriangles) h = (2048 ≤ triangle_count (corners g)) × Unchanged g h
AddedTriangle g a b c (Err UnknownCorner) h = (triangle_count (corners g) < 2048) × Unknown (length (positions g)) a b c × Unchanged g h
AddedTriangle g a b c (Err EqualCorners) h =
    (triangle_count (corners g) < 2048) × AllKnown (length (positions g)) a b c × Equal a b c × Unchanged g h
