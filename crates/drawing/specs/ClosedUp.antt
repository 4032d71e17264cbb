-- A surface with its numbers closed up is the same surface.
use Rattle.std.specs.Prelude.{◌≡◌, ℕ, ◌+◌, ◌*◌, ◌<◌, true, ◌↔◌, nat_lt}
use Rattle.surface.specs.Surface.{Surface, Within}
use Rattle.surface.specs.Closed.{Closed}
use Rattle.surface.specs.Euler.{vertices, triangles, euler}
use Rattle.surface.specs.Pieces.{Pieces}
use Rattle.surface.specs.Geometry.{Vector}
use Rattle.mesh.specs.Laws.{NoZeroNormal}
use Rattle.drawing.specs.Places.{place, triangle_place}

-- N is S with each live vertex and each live triangle at its place, and no others; S has no live number of T or V on
pub record ClosedUp (S N : Surface) (T V : ℕ) : Type 0 where
  pub vertices_up : (v : ℕ) → N.present v ≡ nat_lt v (vertices S V)
  pub triangles_up : (t : ℕ) → N.alive t ≡ nat_lt t (triangles S T)
  pub corners_up : (t k : ℕ) → S.alive t ≡ true → k < 3 → N.corner (3 * triangle_place S t + k) ≡ place S (S.corner (3 * t + k))

-- each live vertex has at its place the point that it had
abbrev pub SamePoints : Surface → (ℕ → Vector) → (ℕ → Vector) → Type 0
SamePoints S P Q = (v : ℕ) → S.present v ≡ true → Q (place S v) ≡ P v

-- N is closed, with as many vertices and triangles, the Euler number and the pieces of S, and no zero normal if S has none
pub record SameShape (S N : Surface) (T V : ℕ) : Type 0 where
  pub closed : Closed N
  pub within : Within N (triangles S T) (vertices S V)
  pub vertices_same : vertices N (vertices S V) ≡ vertices S V
  pub triangles_same : triangles N (triangles S T) ≡ triangles S T
  pub euler_same : euler N (triangles S T) (vertices S V) ≡ euler S T V
  pub pieces_same : (n : ℕ) → Pieces S n ↔ Pieces N n
  pub normals : (P Q : ℕ → Vector) → SamePoints S P Q → NoZeroNormal S P → NoZeroNormal N Q

abbrev pub ClosingUp : Type 0
ClosingUp = (S N : Surface) (T V : ℕ) → Closed S → Within S T V → ClosedUp S N T V → SameShape S N T V
