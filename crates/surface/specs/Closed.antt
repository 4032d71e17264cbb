-- Closed surfaces, rule by rule.
use Rattle.std.specs.Prelude.{◌≡◌, ℕ, true, ◌≢◌}
use Rattle.surface.specs.Surface.{Surface, Tri, Side}
use Rattle.surface.specs.Ring.{Ringed}

-- the corners of each live triangle differ
abbrev pub Proper : Surface → Type 0
Proper S = (h a b c : ℕ) → Tri S h a b c → a ≢ b

-- no ordered pair is a side twice
abbrev pub Single : Surface → Type 0
Single S = (h g a b c d : ℕ) → Tri S h a b c → Tri S g a b d → h ≡ g

-- where (a, b) is a side, (b, a) is a side
abbrev pub Matched : Surface → Type 0
Matched S = (h a b c : ℕ) → Tri S h a b c → Side S b a

-- there is one ring round each live vertex
abbrev pub AllRinged : Surface → Type 0
AllRinged S = (v : ℕ) → S.present v ≡ true → Ringed S v

-- the corners of live triangles are live
abbrev pub Known : Surface → Type 0
Known S = (h a b c : ℕ) → Tri S h a b c → S.present a ≡ true

pub record Closed (S : Surface) : Type 0 where
  pub some : (h : ℕ) × (a : ℕ) × (b : ℕ) × (c : ℕ) × Tri S h a b c
  pub proper : Proper S
  pub single : Single S
  pub matched : Matched S
  pub ring : AllRinged S
  pub known : Known S
