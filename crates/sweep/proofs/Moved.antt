-- Which triangles the collapse of u to w moves, and what they add, told by their half-edges at u.
use Rattle.std.proofs.Common.{◌≡◌, ℕ, ◌+◌, ◌*◌, ◌/◌, ◌≤◌, Bool, true, false, cond, not, ◌&&◌, ◌||◌, eqb, ◌≢◌, ◌⊎◌, nat_abs, Some, None, Option, sym, refl, ap, ◌∙◌, inl, inr, arith}
use Rattle.std.proofs.lemmas.Bool.{eq-eqb, ne_eqb, eqb-true, cond-true, cond-false, both_ways, cases_Bool, and_from, and_parts, and_right, or_left, or_right, or_from, or_cases, not_from_true, not_from_false}
use Rattle.surface.specs.Surface.{Surface, next, prev, Tri}
use Rattle.surface.specs.Geometry.{Vector, six_volume}
use Rattle.surface.specs.Euler.{total}
use Rattle.surface.proofs.Tris.{spin, spin2, moved, second_is, third_is, from_first, first_of, next_triangle}
use Rattle.surface.proofs.FromRings.{sealed}
use Rattle.surface.proofs.Sums.{count_total}
use Rattle.mesh.specs.Model.{held}
use Rattle.mesh.specs.declared.halfedges.HalfEdges.{HalfEdges}
use Rattle.mesh.proofs.Round.{closed_held}
use Rattle.gauge.specs.Near.{Placed, has, placed, near}
use Rattle.sweep.specs.Sweeps.{holds, moves, size, volume_swept, number_moved}
use Rattle.sweep.proofs.Volumes.{volume_turned}
use Rattle.sweep.proofs.Totals.{count_some, count_most}
use Rattle.sweep.proofs.Ways.{low_triangle}

-- what is the same from each corner on
turned : {X : Type 0} (f : ℕ → ℕ → ℕ → X) → ((a b c : ℕ) → f a b c ≡ f b c a) → {S : Surface} {h a b c : ℕ} → Tri S h a b c →
    f (S.corner (3 * (h / 3))) (S.corner (3 * (h / 3) + 1)) (S.corner (3 * (h / 3) + 2)) ≡ f a b c
turned f turn {S} {h} {a} {b} {c} t = go (from_first t)
  where
    at : {x y z : ℕ} → Tri S (3 * (h / 3)) x y z → f (S.corner (3 * (h / 3))) (S.corner (3 * (h / 3) + 1)) (S.corner (3 * (h / 3) + 2)) ≡ f x y z
    at k =
        let i = k.from in
        let j = ap S.corner (sym (second_is (h / 3))) ∙ k.to in
        let l = ap S.corner (sym (third_is (h / 3))) ∙ k.third in
        rw (i, j, l)

    go : Tri S (3 * (h / 3)) a b c ⊎ (Tri S (3 * (h / 3)) b c a ⊎ Tri S (3 * (h / 3)) c a b) →
        f (S.corner (3 * (h / 3))) (S.corner (3 * (h / 3) + 1)) (S.corner (3 * (h / 3) + 2)) ≡ f a b c
    go (inl k) = at k
    go (inr (inl k)) = at k ∙ sym (turn a b c)
    go (inr (inr k)) = at k ∙ turn c a b

-- v is one of three
abbrev among : ℕ → ℕ → ℕ → ℕ → Bool
among v a b c = eqb a v || (eqb b v || eqb c v)

or_turned : (x y z : Bool) → (x || (y || z)) ≡ (y || (z || x))
or_turned true true z = refl
or_turned true false true = refl
or_turned true false false = refl
or_turned false true z = refl
or_turned false false true = refl
or_turned false false false = refl

has_is : {S : Surface} {h a b c : ℕ} (v : ℕ) → Tri S h a b c → has S (h / 3) v ≡ among v a b c
unfolding has
has_is v t = turned (among v) (λ a b c. or_turned (eqb a v) (eqb b v) (eqb c v)) t

among_not : {v a b c : ℕ} → a ≢ v → b ≢ v → c ≢ v → among v a b c ≡ false
among_not {v} {a} {b} {c} i j k = or_from (eqb a v) _ (ne_eqb a v i) (or_from (eqb b v) (eqb c v) (ne_eqb b v j) (ne_eqb c v k))

module _ (S : Surface) (P : ℕ → Vector) (u w : ℕ) where
  module _ {h x y : ℕ} (t : Tri S h u x y) where
    has_u : has S (h / 3) u ≡ true
    has_u = has_is u t ∙ or_left (eqb u u) _ (eq-eqb u u refl)

    near_is : near S P u w (h / 3) ≡ Some (placed S P (h / 3))
    unfolding near
    near_is = cond-true (S.alive (h / 3) && (has S (h / 3) u || has S (h / 3) w)) _ _ (and_from _ _ t.lives (or_left _ _ has_u))

    moves_is : moves u w (near S P u w (h / 3)) ≡ (has S (h / 3) u && not (has S (h / 3) w))
    unfolding moves holds placed has
    moves_is = ap (moves u w) near_is

    pub moves_yes : u ≢ w → x ≢ w → y ≢ w → moves u w (near S P u w (h / 3)) ≡ true
    moves_yes i j k = moves_is ∙ and_from _ _ has_u (not_from_false _ (has_is w t ∙ among_not i j k))

    pub moves_no : (x ≡ w) ⊎ (y ≡ w) → moves u w (near S P u w (h / 3)) ≡ false
    moves_no i =
        moves_is ∙ and_right (has S (h / 3) u) _ (not_from_true _ (has_is w t ∙ or_right (eqb u w) _
        (elim i [ inl j ↦ or_left (eqb x w) _ (eq-eqb x w j) | inr j ↦ or_right (eqb x w) _ (eq-eqb y w j) ])))

    pub size_is : (p : Vector) → size p (near S P u w (h / 3)) ≡ nat_abs (six_volume (P u) (P x) (P y) p)
    unfolding size placed
    size_is p = ap (size p) near_is ∙ turned (λ a b c. nat_abs (six_volume (P a) (P b) (P c) p)) (λ a b c. ap nat_abs (volume_turned (P a) (P b) (P c) p)) t

  -- a moved triangle has a half-edge at u
  moves_found : (t : ℕ) → moves u w (near S P u w t) ≡ true → (h : ℕ) × (x : ℕ) × (y : ℕ) × Tri S h u x y × (h / 3 ≡ t)
  unfolding near moves holds placed
  moves_found t m = go (cases_Bool (S.alive t && (has S t u || has S t w)))
    where
      third_of : (t : ℕ) → (3 * t) / 3 ≡ t
      third_of t = omega arith

      of : S.alive t ≡ true → (eqb (S.corner (3 * t)) u ≡ true) ⊎ ((eqb (S.corner (3 * t + 1)) u || eqb (S.corner (3 * t + 2)) u) ≡ true) →
          (h : ℕ) × (x : ℕ) × (y : ℕ) × Tri S h u x y × (h / 3 ≡ t)
      of l (inl i) = (3 * t, _, _, moved (eqb-true _ _ i) refl refl (first_of S t l), third_of t)
      of l (inr i) = elim (or_cases _ _ i) [
        | inl j ↦ (next (3 * t), _, _, moved (eqb-true _ _ j) refl refl (spin (first_of S t l)), next_triangle (3 * t) ∙ third_of t)
        | inr j ↦ (prev (3 * t), _, _, moved (eqb-true _ _ j) refl refl (spin2 (first_of S t l)), next_triangle (next (3 * t)) ∙ next_triangle (3 * t) ∙ third_of t)
      ]

      go : ((S.alive t && (has S t u || has S t w)) ≡ true) ⊎ ((S.alive t && (has S t u || has S t w)) ≡ false) → (h : ℕ) × (x : ℕ) × (y : ℕ) × Tri S h u x y × (h / 3 ≡ t)
      go (inr i) = absurd (both_ways _ (ap (moves u w) (cond-false _ (Some (placed S P t)) None i)) m)
      go (inl i) =
          let n = sym (ap (moves u w) (cond-true _ (Some (placed S P t)) None i)) ∙ m in
          of (and_parts _ _ i).0 (or_cases _ _ (and_parts _ _ n).0)

  -- what triangle t adds, f being what a moved one does
  unfoldable pub share : (Option Placed → ℕ) → ℕ → ℕ
  share f t = cond (moves u w (near S P u w t)) (f (near S P u w t)) 0

  pub share_yes : (f : Option Placed → ℕ) (t : ℕ) → moves u w (near S P u w t) ≡ true → share f t ≡ f (near S P u w t)
  unfolding share
  share_yes f t m = cond-true _ _ _ m

  pub share_no : (f : Option Placed → ℕ) (t : ℕ) → moves u w (near S P u w t) ≡ false → share f t ≡ 0
  unfolding share
  share_no f t m = cond-false _ _ _ m

  pub share_only : (f : Option Placed → ℕ) (t : ℕ) → ((h x y : ℕ) → Tri S h u x y → h / 3 ≢ t) → share f t ≡ 0
  share_only f t away = elim (cases_Bool (moves u w (near S P u w t))) [
    | inl m ↦ let (h, x, y, s, i) = moves_found t m in absurd (away h x y s i)
    | inr m ↦ share_no f t m
  ]

  pub volume_is : (p : Vector) → total (share (size p)) 2048 ≡ volume_swept u w p (near S P u w)
  unfolding share volume_swept
  volume_is p = refl

  pub number_is : total (share (λ _. 1)) 2048 ≡ number_moved u w (near S P u w)
  unfolding share number_moved
  number_is = sym (count_total (λ t. moves u w (near S P u w t)) 2048)

-- a collapse moves some triangle, and at most 2,048
module _ (e : HalfEdges) (P : ℕ → Vector) {h u w a : ℕ} (t : Tri (held e) h u w a) where
  pub number_some : 1 ≤ number_moved u w (near (held e) P u w)
  unfolding number_moved
  number_some =
      let R = closed_held e in
      let (g, c, s) = R.matched _ _ _ _ (spin2 t) in
      let a≢w : a ≢ w = λ i. R.proper _ _ _ _ (spin t) (sym i) in
      let c≢w : c ≢ w = λ i. (sealed R).apart t (spin2 (moved refl refl i s)) refl in
      count_some (λ n. moves u w (near (held e) P u w n)) (g / 3) 2048 (low_triangle e s) (moves_yes (held e) P u w s (R.proper _ _ _ _ t) a≢w c≢w)

  pub number_most : number_moved u w (near (held e) P u w) ≤ 2048
  unfolding number_moved
  number_most = count_most (λ n. moves u w (near (held e) P u w n)) 2048
