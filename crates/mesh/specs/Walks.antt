-- The walk round a vertex, from twin to twin.
use Rattle.std.specs.Prelude.{◌≡◌, ℕ, ◌+◌, ◌*◌, ◌/◌, ◌<◌, ◌≤◌, ◌≢◌, List, [], ◌∷◌, length, slice_index}
use Rattle.surface.specs.Surface.{prev}

-- from a half-edge to the twin of the one before it, up to last: the half-edges on the way
pub data Walk (twin : ℕ → ℕ) (last : ℕ) : ℕ → List ℕ → Type 0 where
  done : Walk twin last last (last ∷ [])
  more : {h : ℕ} {l : List ℕ} → h ≢ last → Walk twin last (twin (prev h)) l → Walk twin last h (h ∷ l)

-- the walk comes from first to last, and v does not begin there yet
pub record Walkable (corners twin : List ℕ) (first last v : ℕ) : Type 0 where
  pub way : List ℕ
  pub walk : Walk (λ h. slice_index twin h) last first way
  pub free : (i : ℕ) → i < length way → slice_index corners (slice_index way i) ≢ v
  pub low : (i : ℕ) → i < length way → 3 * (slice_index way i / 3) + 2 < length corners
  pub linked : length twin ≡ length corners
  pub few : length corners ≤ 6144

-- v begins at each half-edge of the walk, and elsewhere nothing has changed
pub record Moved (corners twin : List ℕ) (first last v : ℕ) (after : List ℕ) : Type 0 where
  pub there : (l : List ℕ) → Walk (λ h. slice_index twin h) last first l → (i : ℕ) → i < length l → slice_index after (slice_index l i) ≡ v
  pub elsewhere : (l : List ℕ) → Walk (λ h. slice_index twin h) last first l →
      (h : ℕ) → ((i : ℕ) → i < length l → slice_index l i ≢ h) → slice_index after h ≡ slice_index corners h
