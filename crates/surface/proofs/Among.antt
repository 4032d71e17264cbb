-- The test that a number is in a list, and its places there.
use Rattle.std.proofs.Common.{◌≡◌, ℕ, zero, suc, ◌<◌, Bool, true, false, ◌||◌, eqb, ◌⊎◌, List, [], ◌∷◌, length, get_or, sym, refl, inl, inr, arith}
use Rattle.std.proofs.lemmas.Bool.{both_ways, eqb-true, eq-eqb, or_cases, or_left, or_right}

unfoldable pub among : ℕ → List ℕ → Bool
among h [] = false
among h (x ∷ l) = eqb h x || among h l

pub among_cases : (h x : ℕ) (l : List ℕ) → among h (x ∷ l) ≡ true → (h ≡ x) ⊎ (among h l ≡ true)
unfolding among
among_cases h x l p = elim (or_cases (eqb h x) (among h l) p) [ inl i ↦ inl (eqb-true h x i) | inr i ↦ inr i ]

pub among_none : (h : ℕ) → among h [] ≡ true → ⊥
unfolding among
among_none h p = both_ways false refl p

pub among_head : (h x : ℕ) (l : List ℕ) → h ≡ x → among h (x ∷ l) ≡ true
unfolding among
among_head h x l i = or_left (eqb h x) (among h l) (eq-eqb h x i)

pub among_tail : (h x : ℕ) (l : List ℕ) → among h l ≡ true → among h (x ∷ l) ≡ true
unfolding among
among_tail h x l i = or_right (eqb h x) (among h l) i

pub among_place : (h : ℕ) (l : List ℕ) → among h l ≡ true → (i : ℕ) × (i < length l) × (get_or l i 0 ≡ h)
among_place h [] m = absurd (among_none h m)
among_place h (x ∷ l) m = go (among_cases h x l m) (λ k. among_place h l k)
  where
    go : (h ≡ x) ⊎ (among h l ≡ true) → (among h l ≡ true → (i : ℕ) × (i < length l) × (get_or l i 0 ≡ h)) → (i : ℕ) × (i < length (x ∷ l)) × (get_or (x ∷ l) i 0 ≡ h)
    go (inl k) f = (zero, omega arith, sym k)
    go (inr k) f = let (i, p, q) = f k in (suc i, omega arith, q)

pub place_among : (l : List ℕ) (i : ℕ) → i < length l → among (get_or l i 0) l ≡ true
place_among [] i p = absurd (omega arith)
place_among (x ∷ l) zero p = among_head x x l refl
place_among (x ∷ l) (suc i) p = among_tail (get_or l i 0) x l (place_among l i (omega arith))
