-- The pieces of a surface: live vertices joined by a chain of sides are in one piece.
use Rattle.std.specs.Prelude.{◌≡◌, ℕ, ◌<◌, true, List, length, slice_index}
use Rattle.surface.specs.Surface.{Surface, Tri}

-- from vertex to vertex along sides
pub data Chain (S : Surface) : ℕ → ℕ → Type 0 where
  end : {x : ℕ} → Chain S x x
  along : {h x y z k : ℕ} → Tri S h x y z → Chain S y k → Chain S x k

-- there are n pieces: n live vertices, no two of them in one piece, and each live vertex in the piece of one of them
pub record Pieces (S : Surface) (n : ℕ) : Type 0 where
  pub roots : List ℕ
  pub many : length roots ≡ n
  pub live : (i : ℕ) → i < n → S.present (slice_index roots i) ≡ true
  pub apart : (i j : ℕ) → i < n → j < n → Chain S (slice_index roots i) (slice_index roots j) → i ≡ j
  pub reached : (v : ℕ) → S.present v ≡ true → (i : ℕ) × (i < n) × Chain S v (slice_index roots i)
