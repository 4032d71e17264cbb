-- Sums over numbers that are reached one by one.
use Rattle.std.proofs.Common.{◌≡◌, ℕ, zero, suc, ◌+◌, ◌<◌, ◌≤◌, Bool, true, false, cond, eqb, ◌≢◌, sym, refl, ap, ◌∙◌, arith}
use native.Mathlib.Decide.{ℕ_discrete}
use Rattle.std.proofs.lemmas.Bool.{eq-eqb, ne_eqb, cond-true, cond-false}
use Rattle.surface.specs.Euler.{count, total}
use Rattle.surface.proofs.Counting.{count_but}
use Rattle.surface.proofs.Sums.{total_same, total_add, total_none, total_one}

pub total_more : (f : ℕ → ℕ) (n : ℕ) → total f (suc n) ≡ f n + total f n
unfolding total
total_more f n = refl

pub total_zero : (f : ℕ → ℕ) → total f 0 ≡ 0
unfolding total
total_zero f = refl

pub count_some : (f : ℕ → Bool) (k n : ℕ) → k < n → f k ≡ true → 1 ≤ count f n
count_some f k n l p = omega (arith, count_but f k n p l)

pub count_most : (f : ℕ → Bool) (n : ℕ) → count f n ≤ n
unfolding count
count_most f zero = omega arith
count_most f (suc n) = let r = count_most f n in let b = one (f n) in omega arith
  where
    one : (b : Bool) → cond b 1 0 ≤ 1
    one true = omega arith
    one false = omega arith

-- f at k alone, and f without k
only : (ℕ → ℕ) → ℕ → ℕ → ℕ
only f k t = cond (eqb t k) (f t) 0

without : (ℕ → ℕ) → ℕ → ℕ → ℕ
without f k t = cond (eqb t k) 0 (f t)

without_at : (f : ℕ → ℕ) (k t : ℕ) → t ≡ k → without f k t ≡ 0
unfolding without
without_at f k t i = cond-true (eqb t k) 0 (f t) (eq-eqb t k i)

without_else : (f : ℕ → ℕ) (k t : ℕ) → t ≢ k → without f k t ≡ f t
unfolding without
without_else f k t i = cond-false (eqb t k) 0 (f t) (ne_eqb t k i)

total_without : (f : ℕ → ℕ) (k n : ℕ) → k < n → total f n ≡ f k + total (without f k) n
unfolding only without
total_without f k n l =
    total_same f (λ t. only f k t + without f k t) n (λ t m. parts (eqb t k) (f t)) ∙ total_add (only f k) (without f k) n
    ∙ ap (λ x. x + total (without f k) n) (total_one (only f k) k n l (λ t i. cond-false (eqb t k) (f t) 0 (ne_eqb t k i)) ∙ cond-true (eqb k k) (f k) 0 (eq-eqb k k refl))
  where
    parts : (b : Bool) (x : ℕ) → x ≡ cond b x 0 + cond b 0 x
    parts true x = omega arith
    parts false x = omega arith

-- where different numbers s 0, s 1, .. below N are all at which f is not zero, f is summed over them
pub total_along : (f s : ℕ → ℕ) (N n : ℕ) → ((j : ℕ) → j < n → s j < N) → ((i j : ℕ) → i < n → j < n → s i ≡ s j → i ≡ j) →
    ((t : ℕ) → ((j : ℕ) → j < n → s j ≢ t) → f t ≡ 0) → total f N ≡ total (λ j. f (s j)) n
total_along f s N zero low apart else = total_none f N (λ t l. else t (λ j k. absurd (omega arith))) ∙ sym (total_zero (λ j. f (s j)))
total_along f s N (suc n) low apart else =
    total_without f (s n) N (low n (omega arith))
    ∙ ap (λ x. f (s n) + x) (total_along (without f (s n)) s N n (λ j l. low j (omega arith)) (λ i j k l. apart i j (omega arith) (omega arith)) rest ∙ total_same (λ j. without f (s n) (s j)) (λ j. f (s j)) n kept)
    ∙ sym (total_more (λ j. f (s j)) n)
  where
    kept : (j : ℕ) → j < n → without f (s n) (s j) ≡ f (s j)
    kept j l = without_else f (s n) (s j) (λ i. let z = apart j n (omega arith) (omega arith) i in omega arith)

    rest : (t : ℕ) → ((j : ℕ) → j < n → s j ≢ t) → without f (s n) t ≡ 0
    rest t away = by (ℕ_discrete t (s n))
      where
        by : Dec (t ≡ s n) → without f (s n) t ≡ 0
        by (yes i) = without_at f (s n) t i
        by (no i) = without_else f (s n) t i ∙ else t (λ j l. out j l (ℕ_discrete j n))
          where
            out : (j : ℕ) → j < suc n → Dec (j ≡ n) → s j ≢ t
            out j l (yes k) m = i (sym m ∙ ap s k)
            out j l (no k) m = away j (omega arith) m
