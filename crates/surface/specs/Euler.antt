-- The Euler number: live vertices, less unordered sides, plus live triangles.
use Rattle.std.specs.Prelude.{ℕ, zero, suc, ◌+◌, ◌*◌, ◌/◌, Bool, false, cond, ◌&&◌, ◌||◌, ℤ, pos, ◌+ℤ◌, ◌-ℤ◌, ◌==◌}
use Rattle.surface.specs.Surface.{Surface, next}

-- how many of the numbers below n pass the test f
unfoldable pub count : (ℕ → Bool) → ℕ → ℕ
count f zero = 0
count f (suc n) = cond (f n) 1 0 + count f n

-- the sum of f over the numbers below n
unfoldable pub total : (ℕ → ℕ) → ℕ → ℕ
total f zero = 0
total f (suc n) = f n + total f n

-- a number below n passes the test f
unfoldable pub any : (ℕ → Bool) → ℕ → Bool
any f zero = false
any f (suc n) = f n || any f n

-- of the first T triangles and V vertices, those that are live
abbrev pub triangles : Surface → ℕ → ℕ
triangles S T = count S.alive T

abbrev pub vertices : Surface → ℕ → ℕ
vertices S V = count S.present V

-- the half-edge h is a side from a to b
unfoldable pub leads : Surface → ℕ → ℕ → ℕ → Bool
leads S a b h = S.alive (h / 3) && (S.corner h == a && S.corner (next h) == b)

-- among the sides of the first T triangles is (a, b) or (b, a)
unfoldable pub joined : Surface → ℕ → ℕ → ℕ → Bool
joined S T a b = any (λ h. leads S a b h || leads S b a h) (3 * T)

-- the unordered sides: the pairs a < b, b among the first V vertices, that are joined
unfoldable pub edges : Surface → ℕ → ℕ → ℕ
edges S T V = total (λ b. count (λ a. joined S T a b) b) V

unfoldable pub euler : Surface → ℕ → ℕ → ℤ
euler S T V = (pos (vertices S V) -ℤ pos (edges S T V)) +ℤ pos (triangles S T)
