-- What drawing a mesh writes.
use Rattle.std.specs.Prelude.{◌≡◌, ℕ, ◌<◌, ◌≤◌, Bool, true, ◌⊎◌, List, [], length, Ok, Err, vec_items, Result, slice_index_or}
use Rattle.surface.specs.Surface.{Surface}
use Rattle.surface.specs.Euler.{count, vertices, triangles}
use Rattle.geometry.specs.declared.Position.{Position}
use Rattle.mesh.specs.Model.{surface}
use Rattle.mesh.specs.Laws.{vertex_slots, triangle_slots}
use Rattle.mesh.specs.declared.mesh.Mesh.{Mesh}
use Rattle.drawing.specs.Places.{place, triangle_place, corners_at}
use Rattle.drawing.specs.Points.{Placed}
use Rattle.drawing.specs.declared.point.Point.{Point}
use Rattle.drawing.specs.declared.refusal.TooShort.{TooShort}

-- the position of vertex v
abbrev pub position_at : List Position → ℕ → Position
position_at qs v = slice_index_or qs v (record { x = 0; y = 0; z = 0 })

-- of the first n numbers, each live one has its entry at its place, and what lies beyond is as it was
pub record Filled (X : Type 0) (live : ℕ → Bool) (Right : ℕ → X → Type 0) (n : ℕ) (old new : List X) : Type 0 where
  pub entered : (i : ℕ) (x : X) → i < n → live i ≡ true → Right i (slice_index_or new (count live i) x)
  pub beyond : (k : ℕ) (x : X) → count live n ≤ k → slice_index_or new k x ≡ slice_index_or old k x

-- the live ones of the first n vertices, at the positions qs
abbrev pub Pointed : Surface → List Position → ℕ → List Point → List Point → Type 0
Pointed S qs n old new = Filled Point S.present (λ v p. Placed (position_at qs v) p) n old new

-- the live ones of the first n triangles, by the places of their corners
abbrev pub Cornered : Surface → ℕ → List (List ℕ) → List (List ℕ) → Type 0
Cornered S n old new = Filled (List ℕ) S.alive (λ t e. e ≡ corners_at S t) n old new

-- a vertices and b triangles were written: each live one stands at its place, and the entries beyond are as they were
pub record Drawn (m : Mesh) (ps : List Point) (ts : List (List ℕ)) (a b : ℕ) (ps' : List Point) (ts' : List (List ℕ)) : Type 0 where
  pub vertices_counted : a ≡ vertices (surface m) (vertex_slots m)
  pub triangles_counted : b ≡ triangles (surface m) (triangle_slots m)
  pub room : (a ≤ length ps) × (b ≤ length ts)
  pub lengths_same : (length ps' ≡ length ps) × (length ts' ≡ length ts)
  pub at_vertex : (v : ℕ) (p : Point) → (surface m).present v ≡ true → Placed (position_at (vec_items m.positions) v) (slice_index_or ps' (place (surface m) v) p)
  pub at_triangle : (t : ℕ) → (surface m).alive t ≡ true → slice_index_or ts' (triangle_place (surface m) t) [] ≡ corners_at (surface m) t
  pub points_beyond : (k : ℕ) (p : Point) → a ≤ k → slice_index_or ps' k p ≡ slice_index_or ps k p
  pub triangles_beyond : (k : ℕ) → b ≤ k → slice_index_or ts' k [] ≡ slice_index_or ts k []

-- a list is too short, and both are as they were
pub record Short (m : Mesh) (ps : List Point) (ts : List (List ℕ)) (ps' : List Point) (ts' : List (List ℕ)) : Type 0 where
  pub no_room : (length ps < vertices (surface m) (vertex_slots m)) ⊎ (length ts < triangles (surface m) (triangle_slots m))
  pub points_same : ps' ≡ ps
  pub triangles_same : ts' ≡ ts

-- from ps and ts to ps' and ts', by the answer
abbrev pub Draws : Mesh → List Point → List (List ℕ) → Result (ℕ × ℕ) TooShort → List Point → List (List ℕ) → Type 0
Draws m ps ts (Ok r) ps' ts' = Drawn m ps ts r.0 r.1 ps' ts'
Draws m ps ts (Err e) ps' ts' = Short m ps ts ps' ts'
