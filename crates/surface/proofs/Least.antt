-- There is at most one least number that passes a test, so that the bare fact that some number passes gives one.
use Rattle.std.proofs.Common.{◌≡◌, ℕ, zero, suc, ◌<◌, Bool, true, false, ◌⊎◌, inl, inr, arith}
use mathlib.Core.Bool.{Bool-set}
use mathlib.Core.Logic.{∥∥₁_elim}
use mathlib.Core.HLevel.{Π_prop, ×_prop, Σ_prop_path}
use native.Mathlib.Decide.{ℕ_discrete}
use Rattle.std.proofs.lemmas.Bool.{cases_Bool, cases_order, both_ways}

-- k passes the test f, and nothing below it does
abbrev Least : (ℕ → Bool) → ℕ → Type 0
Least f k = (f k ≡ true) × ((j : ℕ) → j < k → f j ≡ false)

least_one : (f : ℕ → Bool) (j k : ℕ) → Least f j → Least f k → j ≡ k
least_one f j k (p, q) (r, s) = go (cases_order j k)
  where
    go : (j ≡ k) ⊎ ((j < k) ⊎ (k < j)) → j ≡ k
    go (inl i) = i
    go (inr (inl l)) = absurd (both_ways (f j) (s j l) p)
    go (inr (inr l)) = absurd (both_ways (f k) (q k l) r)

least_prop : (f : ℕ → Bool) → IsProp ((k : ℕ) × Least f k)
least_prop f u v = Σ_prop_path (λ k. ×_prop (Bool-set (f k) true) (Π_prop (λ j. Π_prop (λ _. Bool-set (f j) false)))) (least_one f u.0 v.0 u.1 v.1)

-- nothing below n passes, or there is a least number that does
below : (f : ℕ → Bool) (n : ℕ) → ((j : ℕ) → j < n → f j ≡ false) ⊎ ((k : ℕ) × Least f k)
below f zero = inl (λ j l. absurd (omega arith))
below f (suc n) = go (below f n) (cases_Bool (f n))
  where
    go : ((j : ℕ) → j < n → f j ≡ false) ⊎ ((k : ℕ) × Least f k) → (f n ≡ true) ⊎ (f n ≡ false) → ((j : ℕ) → j < suc n → f j ≡ false) ⊎ ((k : ℕ) × Least f k)
    go (inr k) c = inr k
    go (inl s) (inl p) = inr (n, (p, s))
    go (inl s) (inr p) = inl (λ j l. by j l (ℕ_discrete j n))
      where
        by : (j : ℕ) → j < suc n → Dec (j ≡ n) → f j ≡ false
        by j l (yes i) = rw i p
        by j l (no i) = s j (omega arith)

least : (f : ℕ → Bool) (k : ℕ) → f k ≡ true → (k : ℕ) × Least f k
least f k p = go (below f (suc k))
  where
    go : ((j : ℕ) → j < suc k → f j ≡ false) ⊎ ((k : ℕ) × Least f k) → (k : ℕ) × Least f k
    go (inl s) = absurd (both_ways (f k) (s k (omega arith)) p)
    go (inr l) = l

pub least_witness : (f : ℕ → Bool) → ∥ ((k : ℕ) × (f k ≡ true)) ∥₁ → (k : ℕ) × (f k ≡ true)
least_witness f s = let (k, l) = ∥∥₁_elim s (least_prop f) (λ (k, p). least f k p) in (k, l.0)
