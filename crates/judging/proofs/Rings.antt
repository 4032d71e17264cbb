-- A vertex has a ring where turning comes round all half-edges that begin there, three or more.
use Rattle.std.proofs.Common.{◌≡◌, ℕ, zero, suc, ◌+◌, ◌-◌, ◌%◌, ◌<◌, ◌≤◌, true, ◌⊎◌, List, length, get_or, Some, None, Option, unwrap_or, sym, refl, ap, ◌∙◌, subst, inl, inr, arith}
use Rattle.std.proofs.lemmas.Bool.{cases_lt, eqb-true, eq-eqb}
use Rattle.surface.specs.Surface.{next, prev}
use Rattle.surface.specs.Ring.{Turn, Ring, Ringed}
use Rattle.surface.specs.Closed.{Single, Matched}
use Rattle.surface.specs.Read.{whole}
use Rattle.surface.proofs.Tris.{next_third, spin2, moved, same_third}
use Rattle.surface.proofs.Counting.{distinct_count, full_count}
use Rattle.judging.specs.Chains.{LastBelow, Chained, Standing}
use Rattle.judging.specs.Sides.{Leads, LowestSide}
use Rattle.judging.specs.Rings.{begins, degree_of, turned, turns, Turning, Around}
use Rattle.judging.proofs.Chains.{stand_start}
use Rattle.judging.proofs.Whole.{whole_tri, tri_below}
use Rattle.judging.proofs.Turns.{prev_inside, stays, round, round_length, round_at, round_apart, round_full}

module _ (cs : List ℕ) (n : ℕ) (twin : List (Option ℕ)) (threes : length cs % 3 ≡ 0)
    (T : (h : ℕ) → h < length cs → LowestSide cs (get_or cs (next h) 0) (get_or cs h 0) (get_or twin h None)) (matched : Matched (whole cs n)) where
  -- across the side before h
  across : (h : ℕ) → h < length cs → (g : ℕ) × (get_or twin (prev h) None ≡ Some g) × Leads cs (get_or cs h 0) (get_or cs (prev h) 0) g
  across h l = go (get_or twin (prev h) None) refl (T (prev h) (prev_inside (length cs) h threes l))
    where
      again : get_or cs (next (prev h)) 0 ≡ get_or cs h 0
      again = ap (λ (k : ℕ). get_or cs k 0) (next_third h)

      go : (r : Option ℕ) → get_or twin (prev h) None ≡ r → LowestSide cs (get_or cs (next (prev h)) 0) (get_or cs (prev h) 0) r →
          (g : ℕ) × (get_or twin (prev h) None ≡ Some g) × Leads cs (get_or cs h 0) (get_or cs (prev h) 0) g
      go None e L =
          let (g, d, t) = matched (prev h) (get_or cs (prev h) 0) (get_or cs h 0) (get_or cs (next h) 0) (spin2 (whole_tri cs n h threes l)) in
          let (a, b, c, _) = tri_below cs n threes t in
          absurd (L g (record { inside = a; from = b ∙ sym again; to = c }))
      go (Some g) e (L, _) = (g, e, record { inside = L.inside; from = L.from ∙ again; to = L.to })

  pub turning : length twin ≡ length cs → Turning twin
  turning e h l = let (g, p, L) = across h (omega arith) in (g, p, let q = L.inside in omega arith)

  turned_leads : (h : ℕ) → h < length cs → Leads cs (get_or cs h 0) (get_or cs (prev h) 0) (turned twin h)
  turned_leads h l =
      let (g, p, L) = across h l in
      let e : turned twin h ≡ g = ap (λ (r : Option ℕ). unwrap_or r 0) p in
      subst (λ (k : ℕ). Leads cs (get_or cs h 0) (get_or cs (prev h) 0) k) (sym e) L

  module _ (single : Single (whole cs n)) (v : ℕ) where
    turn_to : (h : ℕ) → h < length cs → get_or cs h 0 ≡ v → Turn (whole cs n) v h (turned twin h)
    turn_to h l e =
        let L = turned_leads h l in (
          get_or cs (next h) 0,
          get_or cs (prev h) 0,
          get_or cs (prev (turned twin h)) 0,
          moved e refl refl (whole_tri cs n h threes l),
          moved (L.from ∙ e) L.to refl (whole_tri cs n (turned twin h) threes L.inside),
        )

    turn_one : {h g k : ℕ} → Turn (whole cs n) v h g → Turn (whole cs n) v h k → g ≡ k
    turn_one (a, b, c, s, t) (a', b', c', s', t') = single _ _ _ _ _ _ t (moved refl (same_third s' s) refl t')

    keeps : (h : ℕ) → h < length cs → begins cs v h ≡ true → (turned twin h < length cs) × (begins cs v (turned twin h) ≡ true)
    keeps h l p =
        let L = turned_leads h l in
        (L.inside, eq-eqb (get_or cs (turned twin h) 0) v (L.from ∙ eqb-true (get_or cs h 0) v p))

    one : (h g : ℕ) → h < length cs → g < length cs → begins cs v h ≡ true → begins cs v g ≡ true → turned twin h ≡ turned twin g → h ≡ g
    one h g l m p q e =
        let L = turned_leads h l in
        let M = turned_leads g m in
        let ends : get_or cs (prev g) 0 ≡ get_or cs (prev h) 0 = sym M.to ∙ ap (λ (k : ℕ). get_or cs (next k) 0) (sym e) ∙ L.to in
        let starts : get_or cs g 0 ≡ get_or cs h 0 = eqb-true (get_or cs g 0) v q ∙ sym (eqb-true (get_or cs h 0) v p) in
        let same : prev h ≡ prev g = single _ _ _ _ _ _ (spin2 (whole_tri cs n h threes l)) (moved ends starts refl (spin2 (whole_tri cs n g threes m))) in
        sym (next_third h) ∙ ap next same ∙ next_third g

    module _ (s : ℕ) (low : s < length cs) (at : get_or cs s 0 ≡ v) where
      pass : begins cs v s ≡ true
      pass = eq-eqb (get_or cs s 0) v at

      step : (i : ℕ) → Turn (whole cs n) v (turns twin s i) (turns twin s (suc i))
      unfolding turns
      step i = let (a, b) = stays twin (begins cs v) (length cs) keeps one s low pass i in turn_to (turns twin s i) a (eqb-true (get_or cs (turns twin s i) 0) v b)

      -- the half-edges that the turns come by
      module _ (three : 3 ≤ degree_of cs v) (A : Around twin s (degree_of cs v)) where
        abbrev met : List ℕ
        met = round twin (begins cs v) (length cs) keeps one s low pass A

        long : length met ≡ degree_of cs v
        long = round_length twin (begins cs v) (length cs) keeps one s low pass A

        step_at : (i j : ℕ) → i < length met → j < length met → turns twin s (suc i) ≡ turns twin s j → Turn (whole cs n) v (get_or met i 0) (get_or met j 0)
        step_at i j l m e =
            let p : get_or met i 0 ≡ turns twin s i = round_at twin (begins cs v) (length cs) keeps one s low pass A i (omega (arith, long)) in
            let q : get_or met j 0 ≡ turns twin s j = round_at twin (begins cs v) (length cs) keeps one s low pass A j (omega (arith, long)) in
            subst (λ (x : ℕ). Turn (whole cs n) v x (get_or met j 0)) (sym p) (subst (λ (y : ℕ). Turn (whole cs n) v (turns twin s i) y) (e ∙ sym q) (step i))

        closes : turns twin s (suc (length met - 1)) ≡ turns twin s 0
        unfolding turns
        closes = let e : suc (length met - 1) ≡ degree_of cs v = omega (arith, long) in ap (turns twin s) e ∙ A.back

        ring : Ring (whole cs n) v met
        ring =
            record {
              three = omega (arith, long);
              turns = λ i l. step_at i (suc i) (omega arith) l refl;
              closing = step_at (length met - 1) 0 (omega (arith, long)) (omega (arith, long)) closes;
              distinct = round_apart twin (begins cs v) (length cs) keeps one s low pass A;
              full = λ h a b t. let (i, e, _, _) = tri_below cs n threes t in round_full twin (begins cs v) (length cs) keeps one s low pass A h i (eq-eqb (get_or cs h 0) v e);
            }

        pub ring_from : Ringed (whole cs n) v
        ring_from = (met, ring)

      -- the turns come by the half-edges of a ring
      module _ (l : List ℕ) (R : Ring (whole cs n) v l) where
        -- the place after place i
        after : (i : ℕ) → i < length l → (j : ℕ) × (j < length l) × Turn (whole cs n) v (get_or l i 0) (get_or l j 0) × ((j ≡ suc i) ⊎ ((suc i ≡ length l) × (j ≡ 0)))
        after i p = go (cases_lt (suc i) (length l))
          where
            go : (suc i < length l) ⊎ (length l ≤ suc i) →
                (j : ℕ) × (j < length l) × Turn (whole cs n) v (get_or l i 0) (get_or l j 0) × ((j ≡ suc i) ⊎ ((suc i ≡ length l) × (j ≡ 0)))
            go (inl q) = (suc i, q, R.turns i q, inl refl)
            go (inr q) =
                let k : length l - 1 ≡ i = omega arith in
                (0, omega arith, subst (λ (x : ℕ). Turn (whole cs n) v (get_or l x 0) (get_or l 0 0)) k R.closing, inr (omega arith, refl))

        on : (i : ℕ) → i < length l → (get_or l i 0 < length cs) × (get_or cs (get_or l i 0) 0 ≡ v)
        on i p = let (_, _, t, _) = after i p in let (_, _, _, s, _) = t in let (a, b, _, _) = tri_below cs n threes s in (a, b)

        many : length l ≡ degree_of cs v
        many =
            let most : length l ≤ degree_of cs v =
            distinct_count (begins cs v) (length cs) l (λ i p. (on i p).0) (λ i p. eq-eqb (get_or cs (get_or l i 0) 0) v (on i p).1) R.distinct in
            let least : degree_of cs v ≤ length l =
            full_count (begins cs v) (length cs) l (λ h p q. R.full h (get_or cs (next h) 0) (get_or cs (prev h) 0) (moved (eqb-true (get_or cs h 0) v q) refl refl (whole_tri cs n h threes p))) in
            omega arith

        -- from place i on: where k turns lead
        place : (i : ℕ) → i < length l → get_or l i 0 ≡ s → (k : ℕ) → k ≤ length l →
            (j : ℕ) × (j < length l) × (turns twin s k ≡ get_or l j 0) × ((j ≡ i + k) ⊎ (j + length l ≡ i + k))
        unfolding turns
        place i p e zero m = (i, p, sym e, inl (omega arith))
        place i p e (suc k) m =
            let (j, q, f, o) = place i p e k (omega arith) in
            let (g, r, t, o') = after j q in
            let (a, b) = on j q in
            (g, r, ap (turned twin) f ∙ turn_one (turn_to (get_or l j 0) a b) t, further k j g m q o o')
          where
            further : (k j g : ℕ) → suc k ≤ length l → j < length l → (j ≡ i + k) ⊎ (j + length l ≡ i + k) → (g ≡ suc j) ⊎ ((suc j ≡ length l) × (g ≡ 0)) →
                (g ≡ i + suc k) ⊎ (g + length l ≡ i + suc k)
            further k j g m q (inl a) (inl b) = inl (omega arith)
            further k j g m q (inl a) (inr b) = inr (omega arith)
            further k j g m q (inr a) (inl b) = inr (omega arith)
            further k j g m q (inr a) (inr b) = absurd (omega arith)

        round_ring : Around twin s (length l)
        round_ring =
            let (i, p, e) = R.full s (get_or cs (next s) 0) (get_or cs (prev s) 0) (moved at refl refl (whole_tri cs n s threes low)) in
            record {
              back = let (j, q, f, o) = place i p e (length l) (omega arith) in let x : j ≡ i = omega arith in f ∙ ap (λ (y : ℕ). get_or l y 0) x ∙ e;
              first = λ k a b f.
                  let (j, q, g, o) = place i p e k (omega arith) in
                  let x : j ≡ i = R.distinct j i q p (sym g ∙ f ∙ sym e) in
                  omega arith;
            }

      pub ring_around : Ringed (whole cs n) v → (3 ≤ degree_of cs v) × Around twin s (degree_of cs v)
      ring_around (l, R) = (omega (arith, many l R, R.three), subst (λ (k : ℕ). Around twin s k) (many l R) (round_ring l R))

    -- a vertex at which no half-edge begins has no ring
    pub no_ring : ((h : ℕ) → h < length cs → get_or cs h 0 ≡ v → ⊥) → Ringed (whole cs n) v → ⊥
    no_ring none (l, R) = let (a, b, c, s, t) = R.closing in let (i, e, _, _) = tri_below cs n threes s in none _ i e

module _ {cs : List ℕ} {n : ℕ} {last link : List (Option ℕ)} (C : Chained cs n last link) (v : ℕ) (vertex : v < n) where
  pub starts : (s : ℕ) → get_or last v None ≡ Some s → (s < length cs) × (get_or cs s 0 ≡ v)
  starts s e = subst (λ (r : Option ℕ). Standing cs v r) e (stand_start C v vertex)

  pub starts_nowhere : get_or last v None ≡ None → (h : ℕ) → h < length cs → get_or cs h 0 ≡ v → ⊥
  starts_nowhere e = subst (λ (r : Option ℕ). LastBelow cs v (length cs) r) e (C.ends v vertex)
