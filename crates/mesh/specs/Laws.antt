-- What holds of every mesh, wherever it stands on its log.
use Rattle.std.specs.Prelude.{◌≡◌, ℕ, ◌/◌, true, ◌↔◌, length, vec_items, ◌≢◌}
use Rattle.surface.specs.Surface.{Surface}
use Rattle.surface.specs.Closed.{Closed}
use Rattle.surface.specs.Euler.{euler}
use Rattle.surface.specs.Pieces.{Pieces}
use Rattle.surface.specs.Geometry.{Vector, normal_at, null}
use Rattle.mesh.specs.Model.{surface, opening, points}
use Rattle.mesh.specs.declared.mesh.Mesh.{Mesh}

-- the triangles and the vertices of the opening, live and dead
abbrev pub triangle_slots : Mesh → ℕ
triangle_slots m = length (vec_items m.opened) / 3

abbrev pub vertex_slots : Mesh → ℕ
vertex_slots m = length (vec_items m.positions)

-- no live triangle has a zero normal
abbrev pub NoZeroNormal : Surface → (ℕ → Vector) → Type 0
NoZeroNormal S P = (t : ℕ) → S.alive t ≡ true → normal_at S P t ≢ null

-- N is closed and has the Euler number and the pieces of S, and no zero normal if S has none
pub record Kin (S N : Surface) (P : ℕ → Vector) (T V : ℕ) : Type 0 where
  pub closed : Closed N
  pub euler_same : euler N T V ≡ euler S T V
  pub pieces_same : (n : ℕ) → Pieces S n ↔ Pieces N n
  pub normals : NoZeroNormal S P → NoZeroNormal N P

-- so is the surface of a mesh to its opening
abbrev pub AlwaysKin : Type 0
AlwaysKin = (m : Mesh) → Kin (opening m) (surface m) (points m) (triangle_slots m) (vertex_slots m)
