-- Which seats have a candidate with a key.
use Rattle.std.specs.Prelude.{◌≡◌, ℕ, ◌<◌, List, length, is_some, None, Option, nat_lt, slice_index, slice_index_or}

-- the first `count` seats and no others
abbrev pub Filled : {X : Type 0} → ℕ → List ℕ → List (Option X) → Type 0
Filled count numbers keys = (i : ℕ) → i < length numbers → is_some (slice_index_or keys (slice_index numbers i) None) ≡ nat_lt i count
