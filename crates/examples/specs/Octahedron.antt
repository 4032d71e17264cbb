-- An octahedron, opened, and the books after its first two steps by planes.
use Rattle.std.specs.Prelude.{ℕ, List, [], ◌∷◌, length}
use Rattle.geometry.specs.declared.Position.{Position}
use Rattle.gathering.specs.Model.{surface_of, point_of, triangle_count}
use Rattle.ledger.specs.Book.{Book}
use Rattle.ledger.specs.Ledger.{noted}

-- a position by its coordinates
abbrev pub at : ℕ → ℕ → ℕ → Position
at x y z = record { x = x; y = y; z = z }

-- vertices 0 and 2, 1 and 3, 4 and 5 lie opposite, each 10 from the middle
unfoldable pub positions : List Position
positions = at 20 10 10 ∷ at 10 20 10 ∷ at 0 10 10 ∷ at 10 0 10 ∷ at 10 10 20 ∷ at 10 10 0 ∷ []

-- the corners of the eight triangles
unfoldable pub corners : List ℕ
corners = 0 ∷ 1 ∷ 4 ∷ 1 ∷ 2 ∷ 4 ∷ 2 ∷ 3 ∷ 4 ∷ 3 ∷ 0 ∷ 4 ∷ 1 ∷ 0 ∷ 5 ∷ 2 ∷ 1 ∷ 5 ∷ 3 ∷ 2 ∷ 5 ∷ 0 ∷ 3 ∷ 5 ∷ []

-- as it is opened: all is live, and nothing is done
abbrev pub octahedron : Book
octahedron =
    record {
      opened = surface_of positions corners;
      points = point_of positions;
      triangles = triangle_count corners;
      vertices = length positions;
      log = [];
      position = 0;
    }

-- after the collapse of 0 to 1, and after that of 2 to 4 too
abbrev pub once : Book
once = noted octahedron 0 1

abbrev pub twice : Book
twice = noted once 2 4
