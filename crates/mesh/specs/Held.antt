-- What the lists of the half-edges keep to, S being the surface that they hold.
use Rattle.std.specs.Prelude.{◌≡◌, ℕ, ◌/◌, Bool, true, ◌&&◌, List, ◌==◌, slice_index}
use Rattle.surface.specs.Surface.{Surface, next}

-- g is a half-edge of a live triangle and runs opposite to h
unfoldable pub opposite : Surface → ℕ → ℕ → Bool
opposite S h g = S.alive (g / 3) && (S.corner g == S.corner (next h) && S.corner (next g) == S.corner h)

-- each half-edge of a live triangle has its opposite one for twin
abbrev pub TwinsLive : Surface → List ℕ → Type 0
TwinsLive S twin = (h : ℕ) → S.alive (h / 3) ≡ true → opposite S h (slice_index twin h) ≡ true

-- from each live vertex its outgoing half-edge leads, in a live triangle
abbrev pub OutLive : Surface → List ℕ → Type 0
OutLive S out = (v : ℕ) → S.present v ≡ true → (S.alive (slice_index out v / 3) ≡ true) × (S.corner (slice_index out v) ≡ v)
