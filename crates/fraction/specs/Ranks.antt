-- Fractions are ranked by their whole parts and then by their rests.
use Rattle.std.specs.Prelude.{◌≡◌, ℕ, ◌+◌, ◌*◌, ◌/◌, ◌%◌, ◌<◌, ◌≤◌, ◌⊎◌, Decides, nat_le}
use Rattle.std.specs.declared.cmp.Ordering.TheVariants.{Less, Equal, Greater}
use Rattle.std.specs.declared.cmp.Ordering.{Ordering}
use Rattle.std.proofs.Common.{sym, ◌∙◌, ap, inl, inr, ⊎_elim, mul_right_comm, add-mul, mul-le-mul_right, mul-lt-mul_of_pos_right, le_of_mul-le-mul_right, div-add-mod', div-mul-le_self, arith}
use Rattle.std.proofs.Math.Nat.{lt-div-mul-add}
use Rattle.std.specs.Ordering.{MatchOrdering}
use Rattle.std.proofs.lemmas.Bool.{cases_lt, leb-true, le-leb}
use Rattle.fraction.specs.Fractions.{AtMost, Below}

pub total : (a m b n : ℕ) → AtMost a m b n ⊎ AtMost b n a m
total a m b n = ⊎_elim (λ h. inl (omega arith)) inr (cases_lt (a * n) (b * m))

pub transitive : (a m b n c p : ℕ) → 1 ≤ n → AtMost a m b n → AtMost b n c p → AtMost a m c p
transitive a m b n c p pos h k =
    let first : a * n * p ≤ b * m * p = mul-le-mul_right p h in
    let second : b * p * m ≤ c * n * m = mul-le-mul_right m k in
    le_of_mul-le-mul_right {k = n} (omega (arith, first, second, mul_right_comm a p n, mul_right_comm b m p, mul_right_comm c n m)) pos

-- the lesser whole part decides
below : (a m b n : ℕ) → 1 ≤ m → 1 ≤ n → a / m < b / n → Below a m b n
below a m b n pos pos' h =
    let q = a / m in
    let top : a < (q + 1) * m = omega (arith, lt-div-mul-add {a = a} pos, add-mul q 1 m) in
    let first : a * n < (q + 1) * m * n = mul-lt-mul_of_pos_right top pos' in
    let step : (q + 1) * n ≤ b / n * n = mul-le-mul_right n (omega arith) in
    let second : (q + 1) * n * m ≤ b * m = mul-le-mul_right m (omega (arith, step, div-mul-le_self b n)) in
    omega (arith, first, second, mul_right_comm (q + 1) m n)

-- where the whole parts are equal, both products have the same part besides the rests
split : (a m n : ℕ) → a * n ≡ a / m * m * n + a % m * n
split a m n = ap (λ x. x * n) (sym (div-add-mod' a m)) ∙ add-mul (a / m * m) (a % m) n

level : (a m b n : ℕ) → a / m ≡ b / n → (common : ℕ) × (a * n ≡ common + a % m * n) × (b * m ≡ common + b % n * m)
level a m b n e = (a / m * m * n, split a m n, split b n m ∙ ap (λ q. q + b % n * m) (ap (λ q. q * n * m) (sym e) ∙ mul_right_comm (a / m) n m))

-- the test of the rests, where the whole parts are equal
pub level_tells : (a m b n : ℕ) → a / m ≡ b / n → Decides (nat_le (a % m * n) (b % n * m)) (AtMost a m b n)
level_tells a m b n e =
    let (common, left, right) = level a m b n e in
    (λ t. omega (arith, left, right, leb-true (a % m * n) (b % n * m) t), λ h. le-leb (a % m * n) (b % n * m) (omega (arith, left, right)))

-- what the whole parts tell
pub wholes_tell : (a m b n : ℕ) → 1 ≤ m → 1 ≤ n → (r : Ordering) → MatchOrdering r (a / m < b / n) (a / m ≡ b / n) (b / n < a / m) → MatchOrdering r (Below a m b n) (a / m ≡ b / n) (Below b n a m)
wholes_tell a m b n pos pos' Less h = below a m b n pos pos' h
wholes_tell a m b n pos pos' Equal h = h
wholes_tell a m b n pos pos' Greater h = below b n a m pos' pos h
