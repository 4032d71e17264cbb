-- The least of the numbers below a bound that have a property, by an order that may be told in steps of any kind M.
use Rattle.std.proofs.Common.{ℕ, zero, suc, ◌<◌, ◌⊎◌, inl, inr, arith}
use Rattle.ledger.proofs.Finite.{one_more}

-- none below n has P, or i has it and comes at or before all that do
abbrev pub Found : (ℕ → Type 0) → (ℕ → ℕ → Type 0) → ℕ → Type 0
Found P L n = ((k : ℕ) → k < n → P k → ⊥) ⊎ ((i : ℕ) × P i × ((k : ℕ) → k < n → P k → L i k))

module _ (M : Type 0 → Type 0) (pure : (A : Type 0) → A → M A) (bind : (A B : Type 0) → M A → (A → M B) → M B)
    (P : ℕ → Type 0) (has? : (k : ℕ) → Dec (P k))
    (L : ℕ → ℕ → Type 0) (self : (k : ℕ) → L k k) (chain : (i j k : ℕ) → L i j → L j k → L i k) (either : (i j : ℕ) → M (L i j ⊎ L j i)) where
  choose : (n i : ℕ) → P i → ((k : ℕ) → k < n → P k → L i k) → P n → L i n ⊎ L n i → Found P L (suc n)
  choose n i p f q (inl a) = inr (i, p, one_more (λ k. P k → L i k) n f (λ _. a))
  choose n i p f q (inr a) = inr (n, q, one_more (λ k. P k → L n k) n (λ k l r. chain n i k a (f k l r)) (λ _. self n))

  more : (n : ℕ) → Found P L n → Dec (P n) → M (Found P L (suc n))
  more n (inl f) (no q) = pure (Found P L (suc n)) (inl (one_more (λ k. P k → ⊥) n f q))
  more n (inl f) (yes q) = pure (Found P L (suc n)) (inr (n, q, one_more (λ k. P k → L n k) n (λ k l r. absurd (f k l r)) (λ _. self n)))
  more n (inr (i, p, f)) (no q) = pure (Found P L (suc n)) (inr (i, p, one_more (λ k. P k → L i k) n f (λ r. absurd (q r))))
  more n (inr (i, p, f)) (yes q) = bind (L i n ⊎ L n i) (Found P L (suc n)) (either i n) (λ a. pure (Found P L (suc n)) (choose n i p f q a))

  pub least : (n : ℕ) → M (Found P L n)
  least zero = pure (Found P L 0) (inl (λ k l p. absurd (omega arith)))
  least (suc n) = bind (Found P L n) (Found P L (suc n)) (least n) (λ f. more n f (has? n))
