-- Tests of every number below a bound.
use Rattle.std.proofs.Common.{◌≡◌, ℕ, zero, suc, ◌<◌, Bool, true, false, not, ◌&&◌, ◌||◌, refl, ap, ◌∙◌, arith}
use native.Mathlib.Decide.{ℕ_discrete}
use Rattle.std.proofs.lemmas.Bool.{both_ways, and_parts}

-- all below n pass the test f
unfoldable pub every : (ℕ → Bool) → ℕ → Bool
every f zero = true
every f (suc n) = f n && every f n

pub every_at : (f : ℕ → Bool) (n : ℕ) → every f n ≡ true → (k : ℕ) → k < n → f k ≡ true
unfolding every
every_at f zero p k l = absurd (omega arith)
every_at f (suc n) p k l = go (ℕ_discrete k n) (and_parts (f n) (every f n) p) (λ q m. every_at f n q k m)
  where
    go : Dec (k ≡ n) → (f n ≡ true) × (every f n ≡ true) → (every f n ≡ true → k < n → f k ≡ true) → f k ≡ true
    go (yes i) (a, b) r = ap f i ∙ a
    go (no i) (a, b) r = r b (omega arith)

-- if x, then y
pub if_so : (x y : Bool) → (not x || y) ≡ true → x ≡ true → y ≡ true
if_so true y p q = p
if_so false y p q = absurd (both_ways false refl q)
