-- The price after merges, as an exact sum.
use Rattle.std.proofs.Common.{◌≡◌, ℕ, zero, suc, ◌+◌, ◌*◌, ◌/◌, ◌%◌, ◌^◌, ◌<◌, ◌≤◌, Bool, true, false, cond, ◌&&◌, ◌||◌, eqb, ◌≢◌, ◌⊎◌, List, length, get_or, set, nat_abs, sym, refl, ap, ◌∙◌, subst, inl, inr, arith}
use Rattle.std.proofs.lemmas.Nat.{mul-le}
use Rattle.std.proofs.lemmas.List.FromFn.{length-map-range_with_len, get_or-map-range_with_len}
use Rattle.std.proofs.lemmas.List.{length-set, get_or-set_same, get_or-set_other}
use Rattle.std.proofs.lemmas.Bool.{cases_eq, eq-eqb, ne_eqb}
use Rattle.surface.specs.Surface.{Surface}
use Rattle.surface.specs.Geometry.{Vector, six_volume}
use Rattle.surface.specs.Euler.{total}
use Rattle.surface.specs.Collapse.{rename}
use Rattle.surface.proofs.Sums.{total_same, total_add}
use Rattle.surface.proofs.Collapse.{rename_hit, rename_miss}
use Rattle.mesh.specs.Stages.{record_at}
use Rattle.mesh.specs.declared.record.Record.{Record}
use Rattle.gauge.specs.Accounts.{changed}
use Rattle.planes.specs.declared.quadric.Quadric.{Quadric}
use Rattle.planes.specs.Quadrics as quadrics
use Rattle.planes.specs.Quadrics.{plus, sum, at_point}
use Rattle.planes.specs.Accounts.{quadric_at, gathered, opening}
use Rattle.planes.specs.Exact.{merged, standing, Stays, Orderly, Bytes, square_at, squares, ExactSum}
use Rattle.planes.proofs.Values.{at_plus, at_zero, at_quadric}
use Rattle.planes.proofs.Volumes.{volume_small}

-- what one corner adds: q, where b holds and its vertex is the one that is asked for
one_moved : (b : Bool) (x u w q : ℕ) → u ≢ w → cond (b && eqb (rename u w x) w) q 0 ≡ cond (b && eqb x w) q 0 + cond (b && eqb x u) q 0
one_moved false x u w q d = refl
one_moved true x u w q d = go (cases_eq x u)
  where
    go : (x ≡ u) ⊎ (x ≡ u → ⊥) → cond (eqb (rename u w x) w) q 0 ≡ cond (eqb x w) q 0 + cond (eqb x u) q 0
    go (inl i) = rw (eq-eqb (rename u w x) w (rename_hit u w x i), ne_eqb x w (λ j. d (sym i ∙ j)), eq-eqb x u i) (omega arith)
    go (inr n) = rw (rename_miss u w x n, ne_eqb x u n) (omega arith)

one_kept : (b : Bool) (x u w v q : ℕ) → v ≢ u → v ≢ w → cond (b && eqb (rename u w x) v) q 0 ≡ cond (b && eqb x v) q 0
one_kept b x u w v q du dw = ap (λ t. cond (b && t) q 0) (go (cases_eq x u))
  where
    go : (x ≡ u) ⊎ (x ≡ u → ⊥) → eqb (rename u w x) v ≡ eqb x v
    go (inl i) = ne_eqb (rename u w x) v (λ j. dw (sym j ∙ rename_hit u w x i)) ∙ sym (ne_eqb x v (λ j. du (sym j ∙ i)))
    go (inr n) = ap (λ y. eqb y v) (rename_miss u w x n)

one_either : (b : Bool) (x u w q : ℕ) → u ≢ w → cond (b && (eqb x u || eqb x w)) q 0 ≡ cond (b && eqb x u) q 0 + cond (b && eqb x w) q 0
one_either false x u w q d = refl
one_either true x u w q d = go (cases_eq x u)
  where
    go : (x ≡ u) ⊎ (x ≡ u → ⊥) → cond (eqb x u || eqb x w) q 0 ≡ cond (eqb x u) q 0 + cond (eqb x w) q 0
    go (inl i) = rw (eq-eqb x u i, ne_eqb x w (λ j. d (sym i ∙ j))) (omega arith)
    go (inr n) = rw (ne_eqb x u n) (omega arith)

total_small : (f : ℕ → ℕ) (n : ℕ) → ((h : ℕ) → f h ≤ 2474477972015625) → total f n ≤ n * 2474477972015625
unfolding total
total_small f zero l = omega arith
total_small f (suc n) l = omega (arith, l n, total_small f n l)

module _ (S : Surface) (P : ℕ → Vector) (p : Vector) where
  -- the sum of the squares at p over the first H corners that stand in v, f telling where each stands
  abbrev part : (ℕ → ℕ) → ℕ → ℕ → ℕ
  part f v H = total (λ h. cond (S.alive (h / 3) && eqb (f (S.corner h)) v) (square_at S P (h / 3) p) 0) H

  at_triangle : (t : ℕ) → at_point (quadric_at S P t) p ≡ square_at S P t p % 2 ^ 64
  unfolding quadric_at square_at
  at_triangle t = at_quadric (P (S.corner (3 * t))) (P (S.corner (3 * t + 1))) (P (S.corner (3 * t + 2))) p

  gathered_at : (c H : ℕ) → at_point (gathered S P c H) p ≡ part (λ x. x) c H % 2 ^ 64
  unfolding gathered total
  gathered_at c zero = at_zero p
  gathered_at c (suc h) = go (S.alive (h / 3) && eqb (S.corner h) c) (gathered_at c h)
    where
      go : (b : Bool) → at_point (gathered S P c h) p ≡ part (λ x. x) c h % 2 ^ 64 →
          at_point (cond b (plus (gathered S P c h) (quadric_at S P (h / 3))) (gathered S P c h)) p ≡ (cond b (square_at S P (h / 3) p) 0 + part (λ x. x) c h) % 2 ^ 64
      go true e = at_plus (gathered S P c h) (quadric_at S P (h / 3)) p ∙ omega (arith, e, at_triangle (h / 3))
      go false e = e ∙ omega arith

  opening_at : (n v : ℕ) → v < n → at_point (get_or (opening S P n) v quadrics.zero) p ≡ part (λ x. x) v 6144 % 2 ^ 64
  opening_at n v l = ap (λ q. at_point q p) (get_or-map-range_with_len (λ c. gathered S P c 6144) 0 n v v quadrics.zero l (omega arith)) ∙ gathered_at v 6144

  part_moved : (f : ℕ → ℕ) (u w : ℕ) → u ≢ w → part (λ x. rename u w (f x)) w 6144 ≡ part f w 6144 + part f u 6144
  part_moved f u w d =
      total_same _ _ 6144 (λ h _. one_moved (S.alive (h / 3)) (f (S.corner h)) u w (square_at S P (h / 3) p) d)
      ∙ total_add (λ h. cond (S.alive (h / 3) && eqb (f (S.corner h)) w) (square_at S P (h / 3) p) 0) (λ h. cond (S.alive (h / 3) && eqb (f (S.corner h)) u) (square_at S P (h / 3) p) 0) 6144

  part_kept : (f : ℕ → ℕ) (u w v : ℕ) → v ≢ u → v ≢ w → part (λ x. rename u w (f x)) v 6144 ≡ part f v 6144
  part_kept f u w v du dw = total_same _ _ 6144 (λ h _. one_kept (S.alive (h / 3)) (f (S.corner h)) u w v (square_at S P (h / 3) p) du dw)

  part_either : (f : ℕ → ℕ) (u w : ℕ) → u ≢ w → squares S P (λ c. eqb (f c) u || eqb (f c) w) p ≡ part f u 6144 + part f w 6144
  unfolding squares
  part_either f u w d =
      total_same _ _ 6144 (λ h _. one_either (S.alive (h / 3)) (f (S.corner h)) u w (square_at S P (h / 3) p) d)
      ∙ total_add (λ h. cond (S.alive (h / 3) && eqb (f (S.corner h)) u) (square_at S P (h / 3) p) 0) (λ h. cond (S.alive (h / 3) && eqb (f (S.corner h)) w) (square_at S P (h / 3) p) 0) 6144

  -- the entry of v has the value of what stands in v
  abbrev Holds : List Quadric → (ℕ → ℕ) → ℕ → Type 0
  Holds a f v = at_point (get_or a v quadrics.zero) p ≡ part f v 6144 % 2 ^ 64

  -- one merge moves exactly what stands in u to w
  merged_at : (a : List Quadric) (f : ℕ → ℕ) (u w v : ℕ) → u ≢ w → w < length a → u ≢ v → Holds a f u → Holds a f v →
      Holds (changed (λ x y. plus y x) quadrics.zero u w a) (λ x. rename u w (f x)) v
  merged_at a f u w v d low away hu hv = go (cases_eq v w)
    where
      at_w : Holds a f w → Holds (set a w (plus (get_or a w quadrics.zero) (get_or a u quadrics.zero))) (λ x. rename u w (f x)) w
      at_w hw =
          ap (λ q. at_point q p) (get_or-set_same a w (plus (get_or a w quadrics.zero) (get_or a u quadrics.zero)) quadrics.zero low)
          ∙ at_plus (get_or a w quadrics.zero) (get_or a u quadrics.zero) p
          ∙ omega (arith, hw, hu, part_moved f u w d)

      go : (v ≡ w) ⊎ (v ≡ w → ⊥) → Holds (set a w (plus (get_or a w quadrics.zero) (get_or a u quadrics.zero))) (λ x. rename u w (f x)) v
      go (inl i) = subst (Holds (set a w (plus (get_or a w quadrics.zero) (get_or a u quadrics.zero))) (λ x. rename u w (f x))) (sym i) (at_w (subst (Holds a f) i hv))
      go (inr n) =
          ap (λ q. at_point q p) (get_or-set_other a w v (plus (get_or a w quadrics.zero) (get_or a u quadrics.zero)) quadrics.zero n)
          ∙ hv
          ∙ ap (λ m. m % 2 ^ 64) (sym (part_kept f u w v (λ i. away (sym i)) n))

  module _ (n : ℕ) (log : List Record) where
    abbrev account : ℕ → List Quadric
    account k = merged (opening S P n) log k

    long : (k : ℕ) → length (account k) ≡ n
    unfolding merged
    long zero = length-map-range_with_len (λ c. gathered S P c 6144) 0 n
    long (suc k) = length-set (account k) (record_at log k).w _ ∙ long k

    -- the entry of a vertex that was not sent away is the sum over what stands there
    entry_at : (k : ℕ) → Orderly n log k → (v : ℕ) → v < n → Stays log k v → Holds (account k) (standing log k) v
    unfolding merged standing
    entry_at zero O v l s = opening_at n v l
    entry_at (suc k) O v l s =
        let (two, fresh) = O k (omega arith) in
        let old : Orderly n log k = λ i m. O i (omega arith) in
        let w_low = two.2 in
        let long-is = long k in
        merged_at (account k) (standing log k) (record_at log k).u (record_at log k).w v two.0 (omega arith) (s k (omega arith))
        (entry_at k old (record_at log k).u two.1 fresh) (entry_at k old v l (λ i m. s i (omega arith)))

-- each square is that of a six-volume of at most 3 * 255 ^ 3
square_small : (S : Surface) (P : ℕ → Vector) → ((v : ℕ) → Bytes (P v)) → (t : ℕ) (p : Vector) → Bytes p → square_at S P t p ≤ 2474477972015625
unfolding square_at
square_small S P B t p b =
    let a = S.corner (3 * t) in
    let c = S.corner (3 * t + 1) in
    let d = S.corner (3 * t + 2) in
    let l = volume_small (P a) (P c) (P d) p (B a) (B c) (B d) b in
    mul-le (nat_abs (six_volume (P a) (P c) (P d) p)) (nat_abs (six_volume (P a) (P c) (P d) p)) 49744125 49744125 l l

squares_small : (S : Surface) (P : ℕ → Vector) → ((v : ℕ) → Bytes (P v)) → (passes : ℕ → Bool) (p : Vector) → Bytes p → squares S P passes p < 2 ^ 64
unfolding squares
squares_small S P B passes p b =
    omega (arith, total_small (λ h. cond (S.alive (h / 3) && passes (S.corner h)) (square_at S P (h / 3) p) 0) 6144 (λ h. go (S.alive (h / 3) && passes (S.corner h)) (square_at S P (h / 3) p) (square_small S P B (h / 3) p b)))
  where
    go : (b : Bool) (q : ℕ) → q ≤ 2474477972015625 → cond b q 0 ≤ 2474477972015625
    go true q l = l
    go false q l = omega arith

pub exact_sum : ExactSum
exact_sum S P B n log k O u w (d, lu, lw) su sw =
    let f = standing log k in
    let small = squares_small S P B (λ c. eqb (f c) u || eqb (f c) w) (P w) (B w) in
    let eu = entry_at S P (P w) n log k O u lu su in
    let ew = entry_at S P (P w) n log k O w lw sw in
    let e = part_either S P (P w) f u w d in
    (omega arith, small)
