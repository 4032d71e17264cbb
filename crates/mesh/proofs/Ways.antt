-- The half-edges round a vertex as a list, from one of them on.
use Rattle.std.proofs.Common.{◌≡◌, ℕ, zero, suc, ◌+◌, ◌-◌, ◌<◌, ◌≤◌, true, false, cond, eqb, ◌||◌, ◌≢◌, ◌⊎◌, List, [], ◌∷◌, length, get_or, sym, refl, ap, ◌∙◌, subst, inl, inr, arith}
use native.Mathlib.Decide.{dec_lt}
use Rattle.std.proofs.lemmas.Bool.{eqb-true, eq-eqb, both_ways}
use Rattle.surface.specs.Surface.{Surface, Tri}
use Rattle.surface.specs.Ring.{Turn, Ring}
use Rattle.surface.specs.Closed.{Closed}
use Rattle.surface.proofs.Tris.{renumber}
use Rattle.mesh.specs.Rings.{returns_to, before}
use Rattle.mesh.proofs.Laps.{steps, steps_none, steps_more, Turns, turns_at, run_to, run_round, lap_of}

module _ (f : ℕ → ℕ) (o : ℕ) where
  -- one step more is left unused
  more : (k h : ℕ) → returns_to f o k h ≡ true → (returns_to f o (suc k) h ≡ true) × (before f o (suc k) h ≡ before f o k h)
  unfolding returns_to before
  more zero h p = absurd (both_ways false refl p)
  more (suc k) h p =
      elim (eqb (f h) o) as (λ b. (b || returns_to f o k (f h)) ≡ true →
      ((b || returns_to f o (suc k) (f h)) ≡ true) × (h ∷ cond b [] (before f o (suc k) (f h)) ≡ h ∷ cond b [] (before f o k (f h)))) [
        | true ↦ λ q. (refl, refl)
        | false ↦ λ q. let (i, j) = more k (f h) q in (i, ap (λ l. h ∷ l) j)
      ] p

  pub go_on : (k h : ℕ) → returns_to f o k h ≡ true → f h ≢ o → (returns_to f o k (f h) ≡ true) × (before f o k h ≡ h ∷ before f o k (f h))
  unfolding returns_to before
  go_on zero h p n = absurd (both_ways false refl p)
  go_on (suc k) h p n =
      elim (eqb (f h) o) as (λ b. eqb (f h) o ≡ b → (b || returns_to f o k (f h)) ≡ true →
      (returns_to f o (suc k) (f h) ≡ true) × (h ∷ cond b [] (before f o k (f h)) ≡ h ∷ before f o (suc k) (f h))) [
        | true ↦ λ i q. absurd (n (eqb-true _ _ i))
        | false ↦ λ i q. let (x, y) = more k (f h) q in (x, ap (λ l. h ∷ l) (sym y))
      ] refl p

  pub stop_here : (k h : ℕ) → returns_to f o k h ≡ true → f h ≡ o → before f o k h ≡ h ∷ []
  unfolding returns_to before
  stop_here zero h p e = absurd (both_ways false refl p)
  stop_here (suc k) h p e = ap (λ b. h ∷ cond b [] (before f o k (f h))) (eq-eqb (f h) o e)

  long : (m k h : ℕ) → m < k → ((j : ℕ) → j < m → f (steps f j h) ≢ o) → f (steps f m h) ≡ o →
      (returns_to f o k h ≡ true) × (length (before f o k h) ≡ suc m)
  unfolding steps returns_to before
  long m zero h l n e = absurd (omega arith)
  long zero (suc k) h l n e =
      (ap (λ b. b || returns_to f o k (f h)) (eq-eqb (f h) o e), ap (λ b. suc (length (cond b [] (before f o k (f h))))) (eq-eqb (f h) o e))
  long (suc m) (suc k) h l n e =
      let (x, y) = long m k (f h) (omega arith) (λ j q. n (suc j) (omega arith)) e in
      elim (eqb (f h) o) as (λ b. eqb (f h) o ≡ b →
      ((b || returns_to f o k (f h)) ≡ true) × (suc (length (cond b [] (before f o k (f h)))) ≡ suc (suc m))) [
        | true ↦ λ i. absurd (n 0 (omega arith) (eqb-true _ _ i))
        | false ↦ λ i. (x, ap suc y)
      ] refl

  at_place : (k h j : ℕ) → j < length (before f o k h) → get_or (before f o k h) j 0 ≡ steps f j h
  unfolding steps before
  at_place zero h j l = absurd (omega arith)
  at_place (suc k) h zero l = refl
  at_place (suc k) h (suc j) l =
      elim (eqb (f h) o) as (λ b. suc j < suc (length (cond b [] (before f o k (f h)))) → get_or (cond b [] (before f o k (f h))) j 0 ≡ steps f j (f h)) [
        | true ↦ λ q. absurd (omega arith)
        | false ↦ λ q. at_place k (f h) j (omega arith)
      ] l

module _ {S : Surface} (R : Closed S) {f : ℕ → ℕ} (T : Turns S f) {v : ℕ} {l : List ℕ} (G : Ring S v l) {o a b : ℕ} (t : Tri S o v a b) where
  abbrev n : ℕ
  n = length l

  abbrev i : ℕ
  i = (G.full o a b t).0

  i_low : i < n
  i_low = (G.full o a b t).1

  o_at : get_or l i 0 ≡ o
  o_at = (G.full o a b t).2

  back : steps f n o ≡ o
  back = (lap_of R T G t).back

  -- k steps on from o
  place : (k : ℕ) → k < n → (j : ℕ) × (j < n) × (steps f k o ≡ get_or l j 0) × ((i + k ≡ j) ⊎ (i + k ≡ j + n))
  place k q = go (dec_lt (i + k) n)
    where
      go : Dec (i + k < n) → (j : ℕ) × (j < n) × (steps f k o ≡ get_or l j 0) × ((i + k ≡ j) ⊎ (i + k ≡ j + n))
      go (yes r) = (i + k, r, ap (steps f k) (sym o_at) ∙ run_to R T G k i r, inl refl)
      go (no r) =
          let p = i_low in
          let j : ℕ = i + k - n in
          let e : k ≡ (n - i) + j = omega arith in
          (j, omega arith, ap (λ m. steps f m o) e ∙ ap (steps f ((n - i) + j)) (sym o_at) ∙ run_round R T G i j p (omega arith), inr (omega arith))

  -- two places with one half-edge are one
  apart : (j k : ℕ) → j < n → k < n → steps f j o ≡ steps f k o → j ≡ k
  apart j k p q e =
      let (x, xl, xe, xc) = place j p in
      let (y, yl, ye, yc) = place k q in
      let s : x ≡ y = G.distinct x y xl yl (sym xe ∙ e ∙ ye) in
      elim xc [
        | inl c ↦ elim yc [ inl d ↦ omega arith | inr d ↦ omega arith ]
        | inr c ↦ elim yc [ inl d ↦ omega arith | inr d ↦ omega arith ]
      ]

  tri : (k : ℕ) → (x : ℕ) × (y : ℕ) × Tri S (steps f k o) v x y
  unfolding steps
  tri zero = (a, b, t)
  tri (suc k) =
      let (x, y, s) = tri k in
      let (x', y', z, p, q) = turns_at T s in
      (y', z, renumber (sym (steps_more f k o)) q)

  turn : (k : ℕ) → Turn S v (steps f k o) (steps f (suc k) o)
  turn k = subst (Turn S v (steps f k o)) (sym (steps_more f k o)) (turns_at T (tri k).2)

  module _ (F : ℕ) (many : n ≤ F) where
    found : (returns_to f o F o ≡ true) × (length (before f o F o) ≡ suc (n - 1))
    found =
        let s = G.three in
        long f o (n - 1) F o (omega arith)
        (λ j q e. let z : suc j ≡ 0 = apart (suc j) 0 (omega arith) (omega arith) (steps_more f j o ∙ e ∙ sym (steps_none f o)) in absurd (omega arith))
        (sym (steps_more f (n - 1) o) ∙ ap (λ k. steps f k o) (omega arith) ∙ back)

    pub returns : returns_to f o F o ≡ true
    returns = found.0

    abbrev L : List ℕ
    L = before f o F o

    L_long : length L ≡ n
    L_long = let s = G.three in omega (arith, found.1)

    at : (k : ℕ) → k < length L → get_or L k 0 ≡ steps f k o
    at = at_place f o F o

    full : (h x y : ℕ) → Tri S h v x y → (k : ℕ) × (k < length L) × (get_or L k 0 ≡ h)
    full h x y s = let (j, q, e) = G.full h x y s in go j q e (dec_lt j i)
      where
        met : (k j : ℕ) → k < n → steps f k o ≡ get_or l j 0 → get_or l j 0 ≡ h → (k : ℕ) × (k < length L) × (get_or L k 0 ≡ h)
        met k j q e d = let r : k < length L = omega (arith, L_long) in (k, r, at k r ∙ e ∙ d)

        go : (j : ℕ) → j < n → get_or l j 0 ≡ h → Dec (j < i) → (k : ℕ) × (k < length L) × (get_or L k 0 ≡ h)
        go j q e (yes r) =
            let p = i_low in
            met ((n - i) + j) j (omega arith) (ap (steps f ((n - i) + j)) (sym o_at) ∙ run_round R T G i j p q) e
        go j q e (no r) =
            let d : i + (j - i) ≡ j = omega arith in
            met (j - i) j (omega arith) (ap (steps f (j - i)) (sym o_at) ∙ run_to R T G (j - i) i (omega arith) ∙ ap (λ m. get_or l m 0) d) e

    pub ring : Ring S v L
    ring =
        let s = G.three in
        let m = L_long in
        record {
          three = omega arith;
          turns = λ k q. subst (λ x. Turn S v x (get_or L (suc k) 0)) (sym (at k (omega arith))) (subst (Turn S v (steps f k o)) (sym (at (suc k) q)) (turn k));
          closing =
              let q : length L - 1 < length L = omega arith in
              let e : suc (length L - 1) ≡ n = omega arith in
              subst (λ x. Turn S v x (get_or L 0 0)) (sym (at (length L - 1) q))
              (subst (Turn S v (steps f (length L - 1) o)) (ap (λ k. steps f k o) e ∙ back ∙ sym (at 0 (omega arith) ∙ steps_none f o)) (turn (length L - 1)));
          distinct = λ j k p q e. apart j k (omega arith) (omega arith) (sym (at j p) ∙ e ∙ at k q);
          full = full;
        }
