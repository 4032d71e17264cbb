-- The place of a vertex or a triangle among the live ones: how many live ones have a lower number.
use Rattle.std.specs.Prelude.{◌≡◌, ℕ, ◌+◌, ◌*◌, ◌<◌, List, [], ◌∷◌, slice_index}
use Rattle.surface.specs.Surface.{Surface}
use Rattle.surface.specs.Euler.{count}

abbrev pub place : Surface → ℕ → ℕ
place S v = count S.present v

abbrev pub triangle_place : Surface → ℕ → ℕ
triangle_place S t = count S.alive t

-- the list has the place of each of the first n vertices
abbrev pub Numbering : Surface → ℕ → List ℕ → Type 0
Numbering S n l = (v : ℕ) → v < n → slice_index l v ≡ place S v

-- the places of the corners of triangle t
abbrev pub corners_at : Surface → ℕ → List ℕ
corners_at S t = place S (S.corner (3 * t)) ∷ place S (S.corner (3 * t + 1)) ∷ place S (S.corner (3 * t + 2)) ∷ []
