-- Three neighbours of a vertex that has no more.
use Rattle.std.proofs.Common.{◌≡◌, ℕ, ◌≢◌, ◌⊎◌, sym, ◌∙◌, inl, inr, arith}
use native.Mathlib.Decide.{ℕ_discrete}
use Rattle.surface.specs.Surface.{Surface, Side}

-- n is one of three
abbrev pub One-of : ℕ → ℕ → ℕ → ℕ → Type 0
One-of n x y z = (n ≡ x) ⊎ ((n ≡ y) ⊎ (n ≡ z))

rot3 : {n x y z : ℕ} → One-of n x y z → One-of n y z x
rot3 (inl i) = inr (inr i)
rot3 (inr (inl i)) = inl i
rot3 (inr (inr i)) = inr (inl i)

not_first : {n p x y z : ℕ} → p ≡ x → n ≢ p → One-of n x y z → (n ≡ y) ⊎ (n ≡ z)
not_first e d (inl i) = absurd (d (i ∙ sym e))
not_first e d (inr i) = i

of_two : {q r n y z : ℕ} → (q ≡ y) ⊎ (q ≡ z) → (r ≡ y) ⊎ (r ≡ z) → (n ≡ y) ⊎ (n ≡ z) → q ≢ r → n ≢ q → n ≡ r
of_two {q} {r} {n} {y} {z} i j k d c = omega arith

first_is : {p q r n x y z : ℕ} → p ≡ x → One-of q x y z → One-of r x y z → One-of n x y z → p ≢ q → q ≢ r → r ≢ p → n ≢ p → n ≢ q → n ≡ r
first_is e j k l pq qr rp np nq = of_two (not_first e (λ i. pq (sym i)) j) (not_first e rp k) (not_first e np l) qr nq

same_three : (x y z p q r n : ℕ) → One-of p x y z → One-of q x y z → One-of r x y z → One-of n x y z → p ≢ q → q ≢ r → r ≢ p → One-of n p q r
same_three x y z p q r n i j k l pq qr rp = go (ℕ_discrete n p) (ℕ_discrete n q)
  where
    third : One-of p x y z → n ≢ p → n ≢ q → n ≡ r
    third (inl e) = first_is e j k l pq qr rp
    third (inr (inl e)) = first_is e (rot3 j) (rot3 k) (rot3 l) pq qr rp
    third (inr (inr e)) = first_is e (rot3 (rot3 j)) (rot3 (rot3 k)) (rot3 (rot3 l)) pq qr rp

    go : Dec (n ≡ p) → Dec (n ≡ q) → One-of n p q r
    go (yes s) _ = inl s
    go (no s) (yes t) = inr (inl t)
    go (no s) (no t) = inr (inr (third i s t))

-- v has no neighbours but these
abbrev pub Only : Surface → ℕ → ℕ → ℕ → ℕ → Type 0
Only S v x y z = (n : ℕ) → Side S v n → One-of n x y z

-- three different neighbours are all, where there are no more than three
pub those : {S : Surface} {v x y z p q r : ℕ} → Only S v x y z → Side S v p → Side S v q → Side S v r → p ≢ q → q ≢ r → r ≢ p → Only S v p q r
those {x = x} {y = y} {z = z} {p = p} {q = q} {r = r} o i j k pq qr rp n l = same_three x y z p q r n (o p i) (o q j) (o r k) (o n l) pq qr rp
