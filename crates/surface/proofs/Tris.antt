-- The three half-edges of a triangle.
use Rattle.std.proofs.Common.{◌≡◌, ℕ, zero, suc, ◌+◌, ◌-◌, ◌*◌, ◌/◌, ◌%◌, ◌<◌, Bool, true, false, cond, eqb, ◌≢◌, ◌⊎◌, refl, ap, ◌∙◌, subst, inl, inr, arith}
use Rattle.std.proofs.lemmas.Bool.{eqb-true, eqb-false}
use Rattle.surface.specs.Surface.{Surface, next, prev, Tri}

pub next_cases : (h : ℕ) → ((h % 3 ≡ 2) × (next h ≡ h - 2)) ⊎ ((h % 3 ≢ 2) × (next h ≡ h + 1))
unfolding next
next_cases h = go (eqb (h % 3) 2) refl
  where
    go : (t : Bool) → eqb (h % 3) 2 ≡ t → ((h % 3 ≡ 2) × (cond t (h - 2) (h + 1) ≡ h - 2)) ⊎ ((h % 3 ≢ 2) × (cond t (h - 2) (h + 1) ≡ h + 1))
    go true e = inl (eqb-true (h % 3) 2 e, refl)
    go false e = inr (eqb-false (h % 3) 2 e, refl)

pub next_third : (h : ℕ) → next (next (next h)) ≡ h
next_third h = omega (arith, next_cases h, next_cases (next h), next_cases (next (next h)))

pub next_triangle : (h : ℕ) → next h / 3 ≡ h / 3
next_triangle h = omega (arith, next_cases h)

-- the second and the third half-edge of triangle t
pub second_is : (t : ℕ) → next (3 * t) ≡ 3 * t + 1
second_is t = omega (arith, next_cases (3 * t))

pub third_is : (t : ℕ) → prev (3 * t) ≡ 3 * t + 2
third_is t = omega (arith, next_cases (3 * t), next_cases (next (3 * t)))

-- a half-edge is the first of its triangle, or the next is, or the one before
pub first_cases : (h : ℕ) → (h ≡ 3 * (h / 3)) ⊎ ((next h ≡ 3 * (h / 3)) ⊎ (prev h ≡ 3 * (h / 3)))
first_cases h = go (h % 3) refl (omega arith)
  where
    go : (r : ℕ) → h % 3 ≡ r → r < 3 → (h ≡ 3 * (h / 3)) ⊎ ((next h ≡ 3 * (h / 3)) ⊎ (prev h ≡ 3 * (h / 3)))
    go zero i l = inl (omega arith)
    go (suc zero) i l = inr (inr (omega (arith, next_cases h, next_cases (next h))))
    go (suc (suc zero)) i l = inr (inl (omega (arith, next_cases h)))
    go (suc (suc (suc r))) i l = absurd (omega arith)

module _ {S : Surface} where
  pub spin : {h a b c : ℕ} → Tri S h a b c → Tri S (next h) b c a
  spin {h} t = record { lives = ap S.alive (next_triangle h) ∙ t.lives; from = t.to; to = t.third; third = ap S.corner (next_third h) ∙ t.from }

  pub spin2 : {h a b c : ℕ} → Tri S h a b c → Tri S (prev h) c a b
  spin2 t = spin (spin t)

  pub moved : {h a b c a' b' c' : ℕ} → a ≡ a' → b ≡ b' → c ≡ c' → Tri S h a b c → Tri S h a' b' c'
  moved p q r t = record { lives = t.lives; from = t.from ∙ p; to = t.to ∙ q; third = t.third ∙ r }

  -- a half-edge has one triangle
  pub same_from : {h a b c x y z : ℕ} → Tri S h a b c → Tri S h x y z → a ≡ x
  same_from s t = cc

  pub same_to : {h a b c x y z : ℕ} → Tri S h a b c → Tri S h x y z → b ≡ y
  same_to s t = cc

  pub same_third : {h a b c x y z : ℕ} → Tri S h a b c → Tri S h x y z → c ≡ z
  same_third s t = cc

  pub renumber : {h g a b c : ℕ} → h ≡ g → Tri S h a b c → Tri S g a b c
  renumber {a = a} {b = b} {c = c} p t = subst (λ n. Tri S n a b c) p t

  -- a triangle from its first half-edge on
  pub from_first : {h a b c : ℕ} → Tri S h a b c → Tri S (3 * (h / 3)) a b c ⊎ (Tri S (3 * (h / 3)) b c a ⊎ Tri S (3 * (h / 3)) c a b)
  from_first {h} {a} {b} {c} t = go (first_cases h)
    where
      go : (h ≡ 3 * (h / 3)) ⊎ ((next h ≡ 3 * (h / 3)) ⊎ (prev h ≡ 3 * (h / 3))) → Tri S (3 * (h / 3)) a b c ⊎ (Tri S (3 * (h / 3)) b c a ⊎ Tri S (3 * (h / 3)) c a b)
      go (inl p) = inl (renumber p t)
      go (inr (inl p)) = inr (inl (renumber p (spin t)))
      go (inr (inr p)) = inr (inr (renumber p (spin2 t)))

  -- two half-edges of one triangle
  pub shares : {h g a b c x y z : ℕ} → Tri S h a b c → Tri S g x y z → g / 3 ≡ h / 3 → ((x ≡ a) × (y ≡ b)) ⊎ (((x ≡ b) × (y ≡ c)) ⊎ ((x ≡ c) × (y ≡ a)))
  shares {h} {g} {a} {b} {c} {x} {y} {z} s t p = go (from_first s) (from_first t)
    where
      at : {x y z : ℕ} → Tri S (3 * (g / 3)) x y z → Tri S (3 * (h / 3)) x y z
      at t = renumber (ap (λ n. 3 * n) p) t

      go : Tri S (3 * (h / 3)) a b c ⊎ (Tri S (3 * (h / 3)) b c a ⊎ Tri S (3 * (h / 3)) c a b) →
          Tri S (3 * (g / 3)) x y z ⊎ (Tri S (3 * (g / 3)) y z x ⊎ Tri S (3 * (g / 3)) z x y) →
          ((x ≡ a) × (y ≡ b)) ⊎ (((x ≡ b) × (y ≡ c)) ⊎ ((x ≡ c) × (y ≡ a)))
      go (inl i) (inl j) = inl (same_from (at j) i, same_to (at j) i)
      go (inl i) (inr (inl j)) = inr (inr (same_third (at j) i, same_from (at j) i))
      go (inl i) (inr (inr j)) = inr (inl (same_to (at j) i, same_third (at j) i))
      go (inr (inl i)) (inl j) = inr (inl (same_from (at j) i, same_to (at j) i))
      go (inr (inl i)) (inr (inl j)) = inl (same_third (at j) i, same_from (at j) i)
      go (inr (inl i)) (inr (inr j)) = inr (inr (same_to (at j) i, same_third (at j) i))
      go (inr (inr i)) (inl j) = inr (inr (same_from (at j) i, same_to (at j) i))
      go (inr (inr i)) (inr (inl j)) = inr (inl (same_third (at j) i, same_from (at j) i))
      go (inr (inr i)) (inr (inr j)) = inl (same_to (at j) i, same_third (at j) i)

-- the corners of a live half-edge, and those of a live triangle from its first half-edge on
pub tri_at : (S : Surface) (h : ℕ) → S.alive (h / 3) ≡ true → Tri S h (S.corner h) (S.corner (next h)) (S.corner (prev h))
tri_at S h l = record { lives = l; from = refl; to = refl; third = refl }

pub first_of : (S : Surface) (t : ℕ) → S.alive t ≡ true → Tri S (3 * t) (S.corner (3 * t)) (S.corner (3 * t + 1)) (S.corner (3 * t + 2))
first_of S t l =
    let p : (3 * t) / 3 ≡ t = omega arith in
    record { lives = ap S.alive p ∙ l; from = refl; to = ap S.corner (second_is t); third = ap S.corner (third_is t) }
