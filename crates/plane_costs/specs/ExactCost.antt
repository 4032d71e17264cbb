-- What a collapse costs on the gauge by planes, in whole numbers.
use Rattle.std.specs.Prelude.{◌≡◌, ℕ, ◌^◌, ◌<◌, Bool, ◌||◌, Some, None, Option, ◌==◌}
use Rattle.surface.specs.Surface.{Side}
use Rattle.mesh.specs.Model.{surface}
use Rattle.mesh.specs.declared.mesh.Mesh.{Mesh}
use Rattle.planes.specs.Exact.{standing, squares}
use Rattle.ledger.specs.Book.{Book}
use Rattle.opened_surface.specs.Tied.{book_of}

-- whether a corner at the opened vertex c stands in u or w, after the done records in order
abbrev pub stands_in : Book → ℕ → ℕ → ℕ → Bool
stands_in b u w c = standing b.log b.position c == u || standing b.log b.position c == w

-- k is the sum, over the opened triangles and those of their corners that stand in u or w, of the square of the triangle's six-volume
-- at the point of w, as opened; nothing of it is lost modulo 2 ^ 64
pub record ExactCost (b : Book) (u w k : ℕ) : Type 0 where
  pub sum_is : k ≡ squares b.opened b.points (stands_in b u w) (b.points w)
  pub below : k < 2 ^ 64

-- what is answered of the collapse of u to w: its cost where (u, w) is a side of the surface as it is now, and nothing where it is none
abbrev pub CostNow : Mesh → ℕ → ℕ → Option ℕ → Type 0
CostNow m u w (Some k) = Side (surface m) u w × ExactCost (book_of m) u w k
CostNow m u w None = Side (surface m) u w → ⊥
