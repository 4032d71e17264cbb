-- Numbers on seats.
use Rattle.std.specs.Prelude.{◌≡◌, ℕ, ◌<◌, List, length, slice_index}

-- the second list leads back from where the first one leads
abbrev pub Inverse : List ℕ → List ℕ → Type 0
Inverse xs ys = (k : ℕ) → k < length xs → (slice_index xs k < length ys) × (slice_index ys (slice_index xs k) ≡ k)
