-- What stays of a surface through all calls on it.
use Rattle.std.specs.Prelude.{◌≡◌, ℕ, ◌↔◌}
use Rattle.surface.specs.Closed.{Closed}
use Rattle.surface.specs.Euler.{euler}
use Rattle.surface.specs.Pieces.{Pieces}
use Rattle.ledger.specs.Book.{Book, surface_now}

-- the two books are of one opened surface
pub record SameOpening (b d : Book) : Type 0 where
  pub opened_same : d.opened ≡ b.opened
  pub points_same : d.points ≡ b.points
  pub triangles_same : d.triangles ≡ b.triangles
  pub vertices_same : d.vertices ≡ b.vertices

-- the triangle list is closed and has the Euler number and the number of pieces of the opened surface
pub record Standing (b : Book) : Type 0 where
  pub closed : Closed (surface_now b)
  pub euler_kept : euler (surface_now b) b.triangles b.vertices ≡ euler b.opened b.triangles b.vertices
  pub pieces_kept : (k : ℕ) → Pieces b.opened k ↔ Pieces (surface_now b) k
