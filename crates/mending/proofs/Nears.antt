-- The live triangles at two vertices are told from the stars of the two.
use Rattle.std.proofs.Common.{◌≡◌, ℕ, ◌+◌, ◌*◌, Bool, true, false, cond, ◌&&◌, ◌||◌, eqb, ◌⊎◌, Some, None, sym, ap, ◌∙◌, inl, inr}
use Rattle.std.proofs.lemmas.Bool.{cases_Bool, cond-true, cond-false, and_parts, and_from, or_cases, or_left, or_right, eqb-true, eq-eqb}
use Rattle.surface.specs.Surface.{Surface}
use Rattle.surface.specs.Geometry.{Vector}
use Rattle.surface.specs.Collapse.{Holds}
use Rattle.surface.specs.Changes.{SameStar}
use Rattle.surface.proofs.Alike.{Alike, alike, alike_holds, same_star_swap}
use Rattle.surface.proofs.Flags.{flag_same}
use Rattle.gauge.specs.Near.{has, placed, near}

has_holds : (S : Surface) (t v : ℕ) → has S t v ≡ true → Holds S t v
unfolding has
has_holds S t v p =
    elim (or_cases _ _ p) [
      | inl i ↦ inl (eqb-true _ _ i)
      | inr q ↦ inr (elim (or_cases _ _ q) [ inl i ↦ inl (eqb-true _ _ i) | inr i ↦ inr (eqb-true _ _ i) ])
    ]

holds_has : (S : Surface) (t v : ℕ) → Holds S t v → has S t v ≡ true
unfolding has
holds_has S t v (inl i) = or_left _ _ (eq-eqb _ _ i)
holds_has S t v (inr (inl i)) = or_right (eqb (S.corner (3 * t)) v) _ (or_left _ _ (eq-eqb _ _ i))
holds_has S t v (inr (inr i)) = or_right (eqb (S.corner (3 * t)) v) _ (or_right (eqb (S.corner (3 * t + 1)) v) _ (eq-eqb _ _ i))

-- triangle t is live and at x or y
abbrev near_test : Surface → ℕ → ℕ → ℕ → Bool
near_test S x y t = S.alive t && (has S t x || has S t y)

module _ {S N : Surface} {x y : ℕ} (Q : SameStar S N x) (R : SameStar S N y) where
  tested : (t : ℕ) → near_test S x y t ≡ true → Alike S N t
  tested t p =
      let (l, q) = and_parts (S.alive t) _ p in
      elim (or_cases (has S t x) (has S t y) q) [ inl i ↦ alike S N x t Q l (has_holds S t x i) | inr i ↦ alike S N y t R l (has_holds S t y i) ]

  test_there : (t : ℕ) → near_test S x y t ≡ true → near_test N x y t ≡ true
  test_there t p =
      let A : Alike S N t = tested t p in
      let (l, q) = and_parts (S.alive t) _ p in
      and_from _ _ A.two
      (elim (or_cases (has S t x) (has S t y) q) [
        | inl i ↦ or_left _ _ (holds_has N t x (alike_holds A x (has_holds S t x i)))
        | inr i ↦ or_right _ _ (holds_has N t y (alike_holds A y (has_holds S t y i)))
      ])

placed_same : (S N : Surface) (P : ℕ → Vector) (t : ℕ) → Alike S N t → placed S P t ≡ placed N P t
unfolding placed
placed_same S N P t A = rw (A.first, A.second, A.third)

module _ (S N : Surface) (P : ℕ → Vector) (x y : ℕ) (Q : SameStar S N x) (R : SameStar S N y) where
  near_at : (t : ℕ) → near S P x y t ≡ near N P x y t
  unfolding near
  near_at t = go (cases_Bool (near_test S x y t))
    where
      same : near_test S x y t ≡ near_test N x y t
      same = flag_same _ _ (test_there Q R t) (test_there (same_star_swap Q) (same_star_swap R) t)

      go : (near_test S x y t ≡ true) ⊎ (near_test S x y t ≡ false) → cond (near_test S x y t) (Some (placed S P t)) None ≡ cond (near_test N x y t) (Some (placed N P t)) None
      go (inl i) = cond-true _ _ _ i ∙ ap Some (placed_same S N P t (tested Q R t i)) ∙ sym (cond-true _ _ _ (sym same ∙ i))
      go (inr i) = cond-false _ _ _ i ∙ sym (cond-false _ _ _ (sym same ∙ i))

  pub near_same : near S P x y ≡ near N P x y
  near_same = λ i t. near_at t i
