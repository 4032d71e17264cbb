-- What a gathering's lists keep to.
use Rattle.std.specs.Prelude.{ℕ, ◌<◌, ◌≢◌, List, length, slice_index}
use Rattle.surface.specs.Surface.{next}

-- each corner is one of the first n vertices
abbrev pub Numbered : List ℕ → ℕ → Type 0
Numbered corners n = (h : ℕ) → h < length corners → slice_index corners h < n

-- the corners of a triangle differ
abbrev pub Differing : List ℕ → Type 0
Differing corners = (h : ℕ) → h < length corners → slice_index corners h ≢ slice_index corners (next h)
