-- Turning round a vertex, from half-edge to half-edge.
use Rattle.std.specs.Prelude.{◌≡◌, ℕ, zero, suc, ◌<◌, Bool, List, length, Some, None, Option, ◌==◌, ◌≢◌, slice_index, slice_index_or}
use Rattle.std.specs.Option.{unwrap_or}
use Rattle.surface.specs.Surface.{Surface, prev}
use Rattle.surface.specs.Closed.{AllRinged}
use Rattle.surface.specs.Euler.{count}
use Rattle.judging.specs.Flaws.{Lowest, Unringed}

-- the half-edge h begins at v
abbrev pub begins : List ℕ → ℕ → ℕ → Bool
begins cs v h = slice_index cs h == v

-- how many half-edges begin at v
abbrev pub degree_of : List ℕ → ℕ → ℕ
degree_of cs v = count (begins cs v) (length cs)

-- the half-edge across the side before h: it begins where h begins, in the triangle that follows round that vertex
abbrev pub turned : List (Option ℕ) → ℕ → ℕ
turned twin h = unwrap_or (slice_index_or twin (prev h) None) 0

-- where k turns from h lead
unfoldable pub turns : List (Option ℕ) → ℕ → ℕ → ℕ
turns twin h zero = h
turns twin h (suc k) = turned twin (turns twin h k)

-- there is a half-edge across each side
abbrev pub Turning : List (Option ℕ) → Type 0
Turning twin = (h : ℕ) → h < length twin → (g : ℕ) × (slice_index_or twin (prev h) None ≡ Some g) × (g < length twin)

-- k turns from h lead back to h, and no fewer do
pub record Around (twin : List (Option ℕ)) (h k : ℕ) : Type 0 where
  pub back : turns twin h k ≡ h
  pub first : (j : ℕ) → 0 < j → j < k → turns twin h j ≢ h

-- the lowest live vertex without a ring, if there is one
abbrev pub FirstUnringed : Surface → Option ℕ → Type 0
FirstUnringed S None = AllRinged S
FirstUnringed S (Some v) = Lowest (Unringed S) v
