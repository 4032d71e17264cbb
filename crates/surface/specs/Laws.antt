-- What is proved of closed surfaces and their collapses.
use Rattle.std.specs.Prelude.{◌≡◌, ℕ, ◌+◌, ◌*◌, true, ◌↔◌, ◌≢◌}
use Rattle.surface.specs.Surface.{Surface, Tri, Side, Within}
use Rattle.surface.specs.Closed.{Closed}
use Rattle.surface.specs.Euler.{triangles, vertices, edges, euler}
use Rattle.surface.specs.Pieces.{Pieces}
use Rattle.surface.specs.Geometry.{Vector, normal_at, null}
use Rattle.surface.specs.Collapse.{collapse}
use Rattle.surface.specs.Permitted.{Permitted, Link}

-- the outcome of a collapse is closed just where the local test passes
abbrev pub LocalTest : Type 0
LocalTest =
    (S : Surface) → Closed S →
    (e f u w a b : ℕ) → Tri S e u w a → Tri S f w u b →
    Closed (collapse S u w) ↔ Link S u w a b

-- twice the unordered sides are three times the live triangles
abbrev pub SidesCounted : Type 0
SidesCounted = (S : Surface) → Closed S → (T V : ℕ) → Within S T V → 2 * edges S T V ≡ 3 * triangles S T

-- a collapse with a closed outcome takes two triangles and one vertex, and keeps the Euler number
pub record Thinned (S N : Surface) (T V : ℕ) : Type 0 where
  pub triangles_taken : triangles N T + 2 ≡ triangles S T
  pub vertices_taken : vertices N V + 1 ≡ vertices S V
  pub euler_kept : euler N T V ≡ euler S T V

abbrev pub EulerKept : Type 0
EulerKept =
    (S : Surface) → Closed S → (T V : ℕ) → Within S T V →
    (u w : ℕ) → Side S u w → Closed (collapse S u w) → Thinned S (collapse S u w) T V

-- there is one number of pieces
abbrev pub PiecesUnique : Type 0
PiecesUnique = (S : Surface) (m n : ℕ) → Pieces S m → Pieces S n → m ≡ n

-- a collapse with a closed outcome keeps the number of pieces
abbrev pub PiecesKept : Type 0
PiecesKept =
    (S : Surface) → Closed S →
    (u w : ℕ) → Side S u w → Closed (collapse S u w) →
    (n : ℕ) → Pieces S n ↔ Pieces (collapse S u w) n

-- a permitted collapse makes no normal zero
abbrev pub NormalsKept : Type 0
NormalsKept =
    (S : Surface) → Closed S → (P : ℕ → Vector) (u w : ℕ) → Permitted S P u w →
    ((t : ℕ) → S.alive t ≡ true → normal_at S P t ≢ null) →
    (t : ℕ) → (collapse S u w).alive t ≡ true → normal_at (collapse S u w) P t ≢ null
