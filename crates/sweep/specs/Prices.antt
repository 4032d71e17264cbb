-- The price of a collapse.
use Rattle.std.specs.Prelude.{ℕ, ◌≤◌, Option}
use Rattle.std.proofs.Math.Decide.{dec_le}
use Rattle.std.proofs.Common.{lit≤}
use Rattle.surface.specs.Geometry.{Vector}
use Rattle.gauge.specs.Near.{Placed}
use Rattle.fraction.specs.declared.Fraction.{Fraction}
use Rattle.sweep.specs.Sweeps.{volume_swept, number_moved}

-- a over m, by whether m is from 1 to 2,048; if not, 0 over 1
abbrev pub chosen : (a m : ℕ) → Dec (1 ≤ m) → Dec (m ≤ 2048) → Fraction
chosen a m (yes p) (yes q) = record { amount = a; divisor = m; divides = (p, q) }
chosen a m (yes p) (no q) = record { amount = 0; divisor = 1; divides = (lit≤ tt, lit≤ tt) }
chosen a m (no p) q = record { amount = 0; divisor = 1; divides = (lit≤ tt, lit≤ tt) }

unfoldable pub over : ℕ → ℕ → Fraction
over a m = chosen a m (dec_le 1 m) (dec_le m 2048)

-- the volume swept over the number of moved triangles, p being the point of w; of a side that number is from 1 to 2,048
abbrev pub price : ℕ → ℕ → Vector → (ℕ → Option Placed) → Fraction
price u w p near = over (volume_swept u w p near) (number_moved u w near)
