-- The number of the refusal.
use Rattle.std.specs.Prelude.{ℕ}
use Rattle.drawing.specs.declared.refusal.TooShort.{TooShort}

abbrev pub too_short_number : TooShort → ℕ
too_short_number e = 20
