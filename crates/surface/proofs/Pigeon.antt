-- Where each number below m has one below n of its own, m is at most n.
use Rattle.std.proofs.Common.{◌≡◌, ℕ, zero, suc, ◌<◌, ◌≤◌, true, List, [], ◌∷◌, length, get_or, refl, ap, subst, arith}
use Rattle.surface.specs.Euler.{count}
use Rattle.surface.proofs.Counting.{distinct_count, count_all}

-- a number below n for each one below m, as a list
listed : (m n : ℕ) (R : ℕ → ℕ → Type 0) → ((i : ℕ) → i < m → (j : ℕ) × (j < n) × R i j) →
    (l : List ℕ) × (length l ≡ m) × ((i : ℕ) → i < m → (get_or l i 0 < n) × R i (get_or l i 0))
listed zero n R f = ([], refl, λ i p. absurd (omega arith))
listed (suc m) n R f =
    let (j, q, r) = f 0 (omega arith) in
    let (l, e, g) = listed m n (λ i k. R (suc i) k) (λ i p. f (suc i) (omega arith)) in
    (j ∷ l, ap suc e, at j q r l g)
  where
    at : (j : ℕ) → j < n → R 0 j → (l : List ℕ) → ((i : ℕ) → i < m → (get_or l i 0 < n) × R (suc i) (get_or l i 0)) →
        (i : ℕ) → i < suc m → (get_or (j ∷ l) i 0 < n) × R i (get_or (j ∷ l) i 0)
    at j q r l g zero p = (q, r)
    at j q r l g (suc i) p = g i (omega arith)

-- where no number below n serves two below m
pub pigeon : (m n : ℕ) (R : ℕ → ℕ → Type 0) → ((i : ℕ) → i < m → (j : ℕ) × (j < n) × R i j) →
    ((i k j : ℕ) → i < m → k < m → R i j → R k j → i ≡ k) → m ≤ n
pigeon m n R f one =
    let (l, e, g) = listed m n R f in
    let c : length l ≤ count (λ _. true) n =
    distinct_count (λ _. true) n l (λ i p. (g i (omega arith)).0) (λ i p. refl)
    (λ i k p q s. one i k (get_or l k 0) (omega arith) (omega arith) (subst (λ x. R i x) s (g i (omega arith)).1) (g k (omega arith)).1) in
    omega (arith, count_all n)
