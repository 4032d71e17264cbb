-- Fractions and their order.
use Rattle.std.specs.Prelude.{ℕ, ◌*◌, ◌<◌, ◌≤◌}

-- a divisor that a fraction may have
abbrev pub Divides : ℕ → Type 0
Divides m = (1 ≤ m) × (m ≤ 2048)

-- a over m is at most b over n
abbrev pub AtMost : ℕ → ℕ → ℕ → ℕ → Type 0
AtMost a m b n = a * n ≤ b * m

-- a over m is below b over n
abbrev pub Below : ℕ → ℕ → ℕ → ℕ → Type 0
Below a m b n = a * n < b * m
