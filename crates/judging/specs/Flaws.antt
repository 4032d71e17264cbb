-- Where a surface breaks a rule.
use Rattle.std.specs.Prelude.{◌≡◌, ℕ, ◌/◌, ◌<◌, true, ◌≢◌, Some, None, Option}
use Rattle.surface.specs.Surface.{Surface, Tri, Side}
use Rattle.surface.specs.Ring.{Ringed}
use Rattle.surface.specs.Closed.{Single, Matched}
use Rattle.surface.specs.Geometry.{Vector, normal_at, null}

-- n is the lowest number of which P holds
pub record Lowest (P : ℕ → Type 0) (n : ℕ) : Type 0 where
  pub here : P n
  pub below : (m : ℕ) → m < n → P m → ⊥

-- a side of triangle t is a side once more
abbrev pub Doubled : Surface → ℕ → Type 0
Doubled S t = (h : ℕ) × (g : ℕ) × (a : ℕ) × (b : ℕ) × (c : ℕ) × (d : ℕ) × (h / 3 ≡ t) × (h ≢ g) × Tri S h a b c × Tri S g a b d

-- triangle t has a side (a, b), and (b, a) is no side
abbrev pub Unmet : Surface → ℕ → Type 0
Unmet S t = (h : ℕ) × (a : ℕ) × (b : ℕ) × (c : ℕ) × (h / 3 ≡ t) × Tri S h a b c × (Side S b a → ⊥)

-- the live vertex v has no ring
abbrev pub Unringed : Surface → ℕ → Type 0
Unringed S v = (S.present v ≡ true) × (Ringed S v → ⊥)

-- the live triangle t has a zero normal
abbrev pub Flat : Surface → (ℕ → Vector) → ℕ → Type 0
Flat S P t = (S.alive t ≡ true) × (normal_at S P t ≡ null)

-- the lowest triangle with a side that is a side once more, if there is one
abbrev pub FirstTwice : Surface → Option ℕ → Type 0
FirstTwice S None = Single S
FirstTwice S (Some t) = Lowest (Doubled S) t

-- the lowest triangle with a side that is not met, if there is one
abbrev pub FirstUnmet : Surface → Option ℕ → Type 0
FirstUnmet S None = Matched S
FirstUnmet S (Some t) = Lowest (Unmet S) t
