-- Where a collapse and its undoing may change the keys of candidates.
use Rattle.std.specs.Prelude.{◌≡◌, ℕ, ◌/◌, true, ◌⊎◌}
use Rattle.surface.specs.Surface.{Surface, next, Side}

-- h is a half-edge of a live triangle that begins or ends at x
abbrev pub Touches : Surface → ℕ → ℕ → Type 0
Touches S x h = (S.alive (h / 3) ≡ true) × ((S.corner h ≡ x) ⊎ (S.corner (next h) ≡ x))

-- x is w or a neighbour of w
abbrev pub Beside : Surface → ℕ → ℕ → Type 0
Beside S w x = (x ≡ w) ⊎ Side S w x

-- h is a half-edge of a live triangle that begins or ends at w or at a neighbour of w
abbrev pub Around : Surface → ℕ → ℕ → Type 0
Around S w h = (S.alive (h / 3) ≡ true) × (Beside S w (S.corner h) ⊎ Beside S w (S.corner (next h)))
