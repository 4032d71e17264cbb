-- The numbers of the flaws, and the place that stands with each.
use Rattle.std.specs.Prelude.{ℕ}
use Rattle.judging.specs.declared.verdict.Flaw.{Flaw}
use Rattle.judging.specs.declared.verdict.Flaw.TheVariants.{NoTriangle, SideTwice, SideUnmet, NoRing, ZeroNormal}

abbrev pub flaw_number : Flaw → ℕ
flaw_number NoTriangle = 6
flaw_number (SideTwice t) = 7
flaw_number (SideUnmet t) = 8
flaw_number (NoRing v) = 9
flaw_number (ZeroNormal t) = 10

-- the lowest triangle or vertex concerned
abbrev pub flaw_place : Flaw → ℕ
flaw_place NoTriangle = 0
flaw_place (SideTwice t) = t
flaw_place (SideUnmet t) = t
flaw_place (NoRing v) = v
flaw_place (ZeroNormal t) = t
