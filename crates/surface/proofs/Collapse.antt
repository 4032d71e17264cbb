-- What a collapse makes of each triangle, corner and vertex.
use Rattle.std.proofs.Common.{◌≡◌, ℕ, ◌+◌, ◌*◌, ◌/◌, Bool, true, false, not, ◌&&◌, ◌||◌, eqb, ◌≢◌, ◌⊎◌, ◌↔◌, sym, refl, ap, ◌∙◌, inl, inr}
use native.Mathlib.Decide.{ℕ_discrete}
use Rattle.std.proofs.lemmas.Bool.{both_ways, eqb-true, eqb-false, eq-eqb, ne_eqb, cond-true, cond-false, and_parts, and_from, not-true, not_from_false, or_parts, or_from}
use Rattle.surface.specs.Surface.{Surface, next, prev, Tri}
use Rattle.surface.specs.Collapse.{rename, falls, collapse}
use Rattle.surface.proofs.Tris.{next_triangle, second_is, third_is, from_first}

pub rename_hit : (u w x : ℕ) → x ≡ u → rename u w x ≡ w
unfolding rename
rename_hit u w x i = cond-true (eqb x u) w x (eq-eqb x u i)

pub rename_miss : (u w x : ℕ) → x ≢ u → rename u w x ≡ x
unfolding rename
rename_miss u w x n = cond-false (eqb x u) w x (ne_eqb x u n)

pub rename_to : (u w x : ℕ) → x ≡ w → rename u w x ≡ w
rename_to u w x i = go (ℕ_discrete x u)
  where
    go : Dec (x ≡ u) → rename u w x ≡ w
    go (yes j) = rename_hit u w x j
    go (no j) = rename_miss u w x j ∙ i

-- no two of three tests pass
not_both : (x y : Bool) → (x && y) ≡ false → x ≡ true → y ≡ true → ⊥
not_both x y p i j = both_ways (x && y) p (and_from x y i j)

both_not : (x y : Bool) → (x ≡ true → y ≡ true → ⊥) → (x && y) ≡ false
both_not true true n = absurd (n refl refl)
both_not true false n = refl
both_not false y n = refl

module _ (S : Surface) (u w : ℕ) where
  -- at most one of the three is w, with w for u
  abbrev pub Once : ℕ → ℕ → ℕ → Type 0
  Once a b c = (rename u w a ≡ w → rename u w b ≡ w → ⊥) × (rename u w b ≡ w → rename u w c ≡ w → ⊥) × (rename u w c ≡ w → rename u w a ≡ w → ⊥)

  first_falls : (t a b c : ℕ) → Tri S (3 * t) a b c → falls S u w t ≡
      ((eqb (rename u w a) w && eqb (rename u w b) w) || ((eqb (rename u w b) w && eqb (rename u w c) w) || (eqb (rename u w c) w && eqb (rename u w a) w)))
  unfolding falls
  first_falls t a b c k =
      let p : S.corner (3 * t + 1) ≡ b = ap S.corner (sym (second_is t)) ∙ k.to in
      let q : S.corner (3 * t + 2) ≡ c = ap S.corner (sym (third_is t)) ∙ k.third in
      rw (k.from, p, q)

  pub first_once : (t a b c : ℕ) → Tri S (3 * t) a b c → (falls S u w t ≡ false) ↔ Once a b c
  first_once t a b c k = (there, back)
    where
      there : falls S u w t ≡ false → Once a b c
      there p =
          let (i, q) = or_parts _ _ (sym (first_falls t a b c k) ∙ p) in
          let (j, l) = or_parts _ _ q in (
            λ m n. not_both _ _ i (eq-eqb _ _ m) (eq-eqb _ _ n),
            λ m n. not_both _ _ j (eq-eqb _ _ m) (eq-eqb _ _ n),
            λ m n. not_both _ _ l (eq-eqb _ _ m) (eq-eqb _ _ n),
          )

      no_two : (x y : ℕ) → (rename u w x ≡ w → rename u w y ≡ w → ⊥) → (eqb (rename u w x) w && eqb (rename u w y) w) ≡ false
      no_two x y n = both_not _ _ (λ i j. n (eqb-true _ _ i) (eqb-true _ _ j))

      back : Once a b c → falls S u w t ≡ false
      back (i, j, l) = first_falls t a b c k ∙ or_from _ _ (no_two a b i) (or_from _ _ (no_two b c j) (no_two c a l))

  -- a triangle stays just where at most one corner becomes w
  pub falls_once : {h a b c : ℕ} → Tri S h a b c → (falls S u w (h / 3) ≡ false) ↔ Once a b c
  falls_once {h} {a} {b} {c} t = go (from_first t)
    where
      go : Tri S (3 * (h / 3)) a b c ⊎ (Tri S (3 * (h / 3)) b c a ⊎ Tri S (3 * (h / 3)) c a b) → (falls S u w (h / 3) ≡ false) ↔ Once a b c
      go (inl k) = first_once (h / 3) a b c k
      go (inr (inl k)) = let (p, q) = first_once (h / 3) b c a k in (λ i. let (x, y, z) = p i in (z, x, y), λ (x, y, z). q (y, z, x))
      go (inr (inr k)) = let (p, q) = first_once (h / 3) c a b k in (λ i. let (x, y, z) = p i in (y, z, x), λ (x, y, z). q (z, x, y))

  pub alive_parts : (t : ℕ) → (collapse S u w).alive t ≡ true → (S.alive t ≡ true) × (falls S u w t ≡ false)
  unfolding collapse
  alive_parts t l = let (i, j) = and_parts (S.alive t) (not (falls S u w t)) l in (i, not-true _ j)

  pub alive_from : (t : ℕ) → S.alive t ≡ true → falls S u w t ≡ false → (collapse S u w).alive t ≡ true
  unfolding collapse
  alive_from t i j = and_from (S.alive t) (not (falls S u w t)) i (not_from_false _ j)

  pub corner_is : (h : ℕ) → (collapse S u w).alive (h / 3) ≡ true → (collapse S u w).corner h ≡ rename u w (S.corner h)
  unfolding collapse
  corner_is h l = cond-true (S.alive (h / 3) && not (falls S u w (h / 3))) _ _ l

  pub corner_dead : (h : ℕ) → (collapse S u w).alive (h / 3) ≡ false → (collapse S u w).corner h ≡ S.corner h
  unfolding collapse
  corner_dead h l = cond-false (S.alive (h / 3) && not (falls S u w (h / 3))) _ _ l

  pub corners_are : (h : ℕ) → (collapse S u w).alive (h / 3) ≡ true →
      Tri (collapse S u w) h (rename u w (S.corner h)) (rename u w (S.corner (next h))) (rename u w (S.corner (prev h)))
  corners_are h l =
      let m : (collapse S u w).alive (next h / 3) ≡ true = ap (collapse S u w).alive (next_triangle h) ∙ l in
      let n : (collapse S u w).alive (prev h / 3) ≡ true = ap (collapse S u w).alive (next_triangle (next h)) ∙ m in
      record { lives = l; from = corner_is h l; to = corner_is (next h) m; third = corner_is (prev h) n }

  pub present_is : (v : ℕ) → (collapse S u w).present v ≡ (S.present v && not (eqb v u))
  unfolding collapse
  present_is v = refl

  pub present_parts : (v : ℕ) → (collapse S u w).present v ≡ true → (S.present v ≡ true) × (v ≢ u)
  present_parts v p = let (i, j) = and_parts (S.present v) (not (eqb v u)) (sym (present_is v) ∙ p) in (i, eqb-false v u (not-true _ j))

  pub present_from : (v : ℕ) → S.present v ≡ true → v ≢ u → (collapse S u w).present v ≡ true
  present_from v i j = present_is v ∙ and_from (S.present v) (not (eqb v u)) i (not_from_false _ (ne_eqb v u j))
