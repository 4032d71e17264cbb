-- Walks round a vertex: from a half-edge on by a function, back to where they set out.
use Rattle.std.proofs.Common.{◌≡◌, ℕ, zero, suc, ◌+◌, ◌-◌, ◌/◌, ◌<◌, ◌≤◌, true, ◌≢◌, List, length, get_or, sym, refl, ap, ◌∙◌, subst, arith}
use native.Mathlib.Decide.{ℕ_discrete, dec_lt}
use Rattle.surface.specs.Surface.{Surface, Tri}
use Rattle.surface.specs.Ring.{Turn, Ring}
use Rattle.surface.specs.Closed.{Closed}
use Rattle.surface.proofs.Tris.{moved, same_third}

-- n steps on from h
unfoldable pub steps : (ℕ → ℕ) → ℕ → ℕ → ℕ
steps f zero h = h
steps f (suc n) h = steps f n (f h)

pub steps_none : (f : ℕ → ℕ) (h : ℕ) → steps f 0 h ≡ h
unfolding steps
steps_none f h = refl

steps_add : (f : ℕ → ℕ) (m n h : ℕ) → steps f (m + n) h ≡ steps f n (steps f m h)
unfolding steps
steps_add f zero n h = let e : 0 + n ≡ n = omega arith in ap (λ k. steps f k h) e
steps_add f (suc m) n h = let e : suc m + n ≡ suc (m + n) = omega arith in rw e (steps_add f m n (f h))

pub steps_more : (f : ℕ → ℕ) (n h : ℕ) → steps f (suc n) h ≡ f (steps f n h)
unfolding steps
steps_more f zero h = refl
steps_more f (suc n) h = steps_more f n (f h)

pub turn_one : {S : Surface} → Closed S → {v h g k : ℕ} → Turn S v h g → Turn S v h k → g ≡ k
turn_one R (a, b, c, s, t) (a', b', c', s', t') = R.single _ _ _ _ _ _ t (moved refl (same_third s' s) refl t')

-- f steps from each live half-edge to the one that follows it round its vertex
abbrev pub Turns : Surface → (ℕ → ℕ) → Type 0
Turns S f = (h : ℕ) → S.alive (h / 3) ≡ true → Turn S (S.corner h) h (f h)

pub turns_at : {S : Surface} {f : ℕ → ℕ} → Turns S f → {v h a b : ℕ} → Tri S h v a b → Turn S v h (f h)
turns_at {S} {f} T {v} {h} t = subst (λ x. Turn S x h (f h)) t.from (T h t.lives)

-- n steps lead from o round v and back to o, past each half-edge at v
pub record Lap (S : Surface) (f : ℕ → ℕ) (v o n : ℕ) : Type 0 where
  pub some : 0 < n
  pub back : steps f n o ≡ o
  pub full : (h a b : ℕ) → Tri S h v a b → (i : ℕ) × (steps f i o ≡ h)

module _ {S : Surface} (R : Closed S) {f : ℕ → ℕ} (T : Turns S f) {v : ℕ} {l : List ℕ} (G : Ring S v l) where
  follows : {h g : ℕ} → Turn S v h g → f h ≡ g
  follows t = let (a, b, c, s, _) = t in turn_one R (turns_at T s) t

  pub run_to : (k i : ℕ) → i + k < length l → steps f k (get_or l i 0) ≡ get_or l (i + k) 0
  unfolding steps
  run_to zero i p = ap (λ n. get_or l n 0) (omega arith)
  run_to (suc k) i p =
      let q : i + suc k ≡ suc i + k = omega arith in
      ap (steps f k) (follows (G.turns i (omega arith))) ∙ run_to k (suc i) (omega arith) ∙ ap (λ n. get_or l n 0) (sym q)

  -- to the end of the list, and on to its first
  pub run_out : (i : ℕ) → i < length l → steps f (length l - i) (get_or l i 0) ≡ get_or l 0 0
  run_out i p =
      let k : ℕ = length l - 1 - i in
      let q : length l - i ≡ suc k = omega arith in
      let r : i + k ≡ length l - 1 = omega arith in
      ap (λ n. steps f n (get_or l i 0)) q ∙ steps_more f k (get_or l i 0) ∙ ap f (run_to k i (omega arith) ∙ ap (λ n. get_or l n 0) r) ∙ follows G.closing

  -- round to place j by way of the end
  pub run_round : (i j : ℕ) → i < length l → j < length l → steps f ((length l - i) + j) (get_or l i 0) ≡ get_or l j 0
  run_round i j p q = steps_add f (length l - i) j (get_or l i 0) ∙ ap (steps f j) (run_out i p) ∙ run_to j 0 (omega arith) ∙ ap (λ n. get_or l n 0) (omega arith)

  pub lap_of : {o a b : ℕ} → Tri S o v a b → Lap S f v o (length l)
  lap_of {o} {a} {b} t =
      let (i, p, x) = G.full o a b t in
      record {
        some = omega (arith, G.three);
        back = ap (steps f (length l)) (sym x) ∙ ap (λ n. steps f n (get_or l i 0)) (omega arith) ∙ run_round i i p p ∙ x;
        full = λ h c d s. let (j, q, y) = G.full h c d s in ((length l - i) + j, ap (steps f ((length l - i) + j)) (sym x) ∙ run_round i j p q ∙ y);
      }

-- where n steps lead back, all is met that the first n meet
all_met : (f : ℕ → ℕ) (o : ℕ) (P : ℕ → Type 0) (m : ℕ) → 0 < m → steps f m o ≡ o → ((j : ℕ) → j < m → P (steps f j o)) → (k j : ℕ) → j ≤ k → P (steps f j o)
all_met f o P m some back met zero j q = met j (omega arith)
all_met f o P m some back met (suc k) j q = go (dec_lt j m) (all_met f o P m some back met k (j - m))
  where
    go : Dec (j < m) → (j - m ≤ k → P (steps f (j - m) o)) → P (steps f j o)
    go (yes i) r = met j i
    go (no i) r =
        let e : j ≡ m + (j - m) = omega arith in
        subst P (sym (ap (λ n. steps f n o) e ∙ steps_add f m (j - m) o ∙ ap (steps f (j - m)) back)) (r (omega arith))

-- on the way round v from o, at h, with P met at each half-edge before
pub record Walking (S : Surface) (f : ℕ → ℕ) (v o h : ℕ) (P : ℕ → Type 0) : Type 0 where
  pub far : ℕ
  pub at : steps f far o ≡ h
  pub live : (a : ℕ) × (b : ℕ) × Tri S h v a b
  pub first : (j : ℕ) → j < far → f (steps f j o) ≢ o
  pub met : (j : ℕ) → j < far → P (steps f j o)

module _ {S : Surface} {f : ℕ → ℕ} {v o : ℕ} {P : ℕ → Type 0} where
  pub walk_start : {a b : ℕ} → Tri S o v a b → Walking S f v o o P
  unfolding steps
  walk_start t = record { far = 0; at = refl; live = (_, _, t); first = λ j p. absurd (omega arith); met = λ j p. absurd (omega arith) }

  pub walk_on : Turns S f → {h : ℕ} → Walking S f v o h P → P h → f h ≢ o → Walking S f v o (f h) P
  walk_on T {h} W p n =
      let (a, b, t) = W.live in
      let (a', b', c, s, r) = turns_at T t in
      record {
        far = suc W.far;
        at = steps_more f W.far o ∙ ap f W.at;
        live = (b', c, r);
        first = λ j q. first j q (ℕ_discrete j W.far);
        met = λ j q. met j q (ℕ_discrete j W.far);
      }
    where
      first : (j : ℕ) → j < suc W.far → Dec (j ≡ W.far) → f (steps f j o) ≢ o
      first j q (yes i) e = n (ap f (sym W.at ∙ ap (λ k. steps f k o) (sym i)) ∙ e)
      first j q (no i) e = W.first j (omega arith) e

      met : (j : ℕ) → j < suc W.far → Dec (j ≡ W.far) → P (steps f j o)
      met j q (yes i) = subst P (sym W.at ∙ ap (λ k. steps f k o) (sym i)) p
      met j q (no i) = W.met j (omega arith)

  pub walk_end : {h n : ℕ} → Lap S f v o n → Walking S f v o h P → P h → f h ≡ o → (g a b : ℕ) → Tri S g v a b → P g
  walk_end {h} L W p e g a b t =
      let (i, x) = L.full g a b t in
      subst P x (all_met f o P (suc W.far) (omega arith) (steps_more f W.far o ∙ ap f W.at ∙ e) (λ j q. met j q (ℕ_discrete j W.far)) i i (omega arith))
    where
      met : (j : ℕ) → j < suc W.far → Dec (j ≡ W.far) → P (steps f j o)
      met j q (yes i) = subst P (sym W.at ∙ ap (λ k. steps f k o) (sym i)) p
      met j q (no i) = W.met j (omega arith)
