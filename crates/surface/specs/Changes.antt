-- What a collapse leaves as it was: the star of a vertex, and what is told from the stars of two vertices alone.
use Rattle.std.specs.Prelude.{ℕ, ◌≢◌, ◌↔◌}
use Rattle.surface.specs.Surface.{Surface, Tri, Side}
use Rattle.surface.specs.Closed.{Closed}
use Rattle.surface.specs.Geometry.{Vector}
use Rattle.surface.specs.Collapse.{collapse}
use Rattle.surface.specs.Permitted.{Permitted}

-- the live triangles with the corner x are the same in S and in N, with the same corners
pub record SameStar (S N : Surface) (x : ℕ) : Type 0 where
  pub there : (h a b : ℕ) → Tri S h x a b → Tri N h x a b
  pub back : (h a b : ℕ) → Tri N h x a b → Tri S h x a b

-- the collapse of u to w keeps the star of each vertex but u, w and the neighbours of u
abbrev pub StarKept : Type 0
StarKept =
    (S : Surface) → Closed S → (u w : ℕ) → Side S u w →
    (x : ℕ) → x ≢ u → x ≢ w → (Side S u x → ⊥) → SameStar S (collapse S u w) x

-- whether x may be collapsed to y is told from the stars of x and y
abbrev pub PermittedLocal : Type 0
PermittedLocal =
    (S N : Surface) → Closed S → Closed N → (P : ℕ → Vector) (x y : ℕ) →
    SameStar S N x → SameStar S N y → Permitted S P x y ↔ Permitted N P x y
