-- Decisions, and searches below a bound.
use Rattle.std.proofs.Common.{◌≡◌, ℕ, zero, suc, ◌<◌, Bool, true, false, T, ◌⊎◌, sym, refl, subst, inl, inr, arith}
use native.Mathlib.Decide.{ℕ_discrete}
use Rattle.std.proofs.lemmas.Bool.{both_ways}

pub flag? : (x : Bool) → Dec (x ≡ true)
flag? true = yes refl
flag? false = no (λ p. both_ways false refl p)

pub told? : (x : Bool) → Dec (T x)
told? true = yes tt
told? false = no (λ t. absurd t)

pub both? : {A B : Type 0} → Dec A → Dec B → Dec (A × B)
both? (yes a) (yes b) = yes (a, b)
both? (yes a) (no n) = no (λ p. n p.1)
both? (no n) d = no (λ p. n p.0)

pub either? : {A B : Type 0} → Dec A → Dec B → Dec (A ⊎ B)
either? (yes a) d = yes (inl a)
either? (no n) (yes b) = yes (inr b)
either? (no n) (no k) = no (elim [ inl a ↦ n a | inr b ↦ k b ])

pub then? : {A B : Type 0} → Dec A → Dec B → Dec (A → B)
then? (no n) d = yes (λ a. absurd (n a))
then? (yes a) (yes b) = yes (λ _. b)
then? (yes a) (no k) = no (λ f. k (f a))

pub not? : {A : Type 0} → Dec A → Dec (A → ⊥)
not? (yes a) = no (λ f. f a)
not? (no n) = yes n

-- what holds below n and at n holds below n + 1
pub one_more : (P : ℕ → Type 0) (n : ℕ) → ((k : ℕ) → k < n → P k) → P n → (k : ℕ) → k < suc n → P k
one_more P n f p k l = by (ℕ_discrete k n)
  where
    by : Dec (k ≡ n) → P k
    by (yes i) = subst P (sym i) p
    by (no i) = f k (omega arith)

module _ (P : ℕ → Type 0) (d : (k : ℕ) → Dec (P k)) where
  pub all? : (n : ℕ) → Dec ((k : ℕ) → k < n → P k)
  all? zero = yes (λ k l. absurd (omega arith))
  all? (suc n) = go (d n) (all? n)
    where
      go : Dec (P n) → Dec ((k : ℕ) → k < n → P k) → Dec ((k : ℕ) → k < suc n → P k)
      go (no q) r = no (λ f. q (f n (omega arith)))
      go (yes p) (no r) = no (λ f. r (λ k l. f k (omega arith)))
      go (yes p) (yes r) = yes (one_more P n r p)

  pub some? : (n : ℕ) → Dec ((k : ℕ) × (k < n) × P k)
  some? zero = no (λ (k, l, p). omega arith)
  some? (suc n) = go (d n) (some? n)
    where
      go : Dec (P n) → Dec ((k : ℕ) × (k < n) × P k) → Dec ((k : ℕ) × (k < suc n) × P k)
      go (yes p) r = yes (n, omega arith, p)
      go (no q) (yes (k, l, p)) = yes (k, omega arith, p)
      go (no q) (no r) = no (λ (k, l, p). one_more (λ k. P k → ⊥) n (λ k l p. r (k, l, p)) q k l p)
