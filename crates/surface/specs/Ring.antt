-- The ring of triangles round a vertex.
use Rattle.std.specs.Prelude.{◌≡◌, ℕ, suc, ◌-◌, ◌<◌, ◌≤◌, List, length, slice_index}
use Rattle.surface.specs.Surface.{Surface, Tri}

-- h and g begin at v, and the triangle of h, which holds the side (b, v), is followed by that of g, which holds (v, b)
abbrev pub Turn : Surface → ℕ → ℕ → ℕ → Type 0
Turn S v h g = (a : ℕ) × (b : ℕ) × (c : ℕ) × Tri S h v a b × Tri S g v b c

-- l is a ring round v: from each triangle to the one that follows it, back to the first after three or more, and no live
-- triangle with the corner v is left out or met twice. A triangle stands here by its half-edge that begins at v.
pub record Ring (S : Surface) (v : ℕ) (l : List ℕ) : Type 0 where
  pub three : 3 ≤ length l
  pub turns : (i : ℕ) → suc i < length l → Turn S v (slice_index l i) (slice_index l (suc i))
  pub closing : Turn S v (slice_index l (length l - 1)) (slice_index l 0)
  pub distinct : (i j : ℕ) → i < length l → j < length l → slice_index l i ≡ slice_index l j → i ≡ j
  pub full : (h a b : ℕ) → Tri S h v a b → (i : ℕ) × (i < length l) × (slice_index l i ≡ h)

-- there is one ring round v
abbrev pub Ringed : Surface → ℕ → Type 0
Ringed S v = (l : List ℕ) × Ring S v l
