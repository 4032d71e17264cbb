-- After a pinch the triangles at a vertex are still one ring.
use Rattle.std.proofs.Common.{◌≡◌, ℕ, ◌≢◌, ◌⊎◌, sym, refl, ap, ◌∙◌, subst, inl, inr}
use native.Mathlib.Decide.{ℕ_discrete}
use Rattle.surface.specs.Surface.{Surface, Tri}
use Rattle.surface.proofs.Tris.{spin, spin2, moved, same_third}
use Rattle.surface.proofs.Sealed.{Round, here, turn, then, round_at, Sealed, one_third, one_before}
use Rattle.surface.proofs.Pinch.{Pinch, swap, Gone, uwa, wau, auw, wub, ubw, bwu, u≢w, a≢u, u≢b, a≢b, fate}
use Rattle.surface.proofs.Local.{Lives, lives_next, far2, far3, kept_ua, kept_aw, touch}

module _ {S N : Surface} {φ : ℕ → ℕ} (K : Sealed S) where
  module _ {e f u w a b : ℕ} (P : Pinch S N φ e f u w a b) where
    step : {v h g k x y z : ℕ} → Tri S h v x y → Lives N h → Tri S g v y z → Lives N g → Round N (φ v) g k → Round N (φ v) h k
    step th lh tg lg r = turn (P.I.up th lh) (P.I.up tg lg) r

    -- round a vertex that is neither u nor w: a side that is gone is passed over
    module _ {v : ℕ} (v≢u : v ≢ u) (v≢w : v ≢ w) where
      -- the side that is gone ends at u or w, and its triangle's last corner is the other
      data Over (r s : ℕ) : Type 0 where
        over_a : v ≡ a → r ≡ u → s ≡ w → Over r s
        over_b : v ≡ b → r ≡ w → s ≡ u → Over r s

      over : {g r s : ℕ} → Tri S g v r s → Lives N g ⊎ Over r s
      over {g} {r} {s} t = go (fate K P t)
        where
          go : Lives N g ⊎ Gone u w a b v r s → Lives N g ⊎ Over r s
          go (inl l) = inl l
          go (inr (uwa i j k)) = absurd (v≢u i)
          go (inr (wau i j k)) = absurd (v≢w i)
          go (inr (auw i j k)) = inr (over_a i j k)
          go (inr (wub i j k)) = absurd (v≢w i)
          go (inr (ubw i j k)) = absurd (v≢u i)
          go (inr (bwu i j k)) = inr (over_b i j k)

      over_φ : {r s : ℕ} → Over r s → φ r ≡ φ s
      over_φ (over_a i j k) = touch K P j k
      over_φ (over_b i j k) = sym (touch K P k j)

      over_once : {r s t : ℕ} → Over r s → Over s t → ⊥
      over_once (over_a i j k) (over_a l m n) = u≢w K P (sym m ∙ k)
      over_once (over_a i j k) (over_b l m n) = a≢b K P (sym i ∙ l)
      over_once (over_b i j k) (over_a l m n) = a≢b K P (sym l ∙ i)
      over_once (over_b i j k) (over_b l m n) = u≢w K P (sym k ∙ m)

      -- on the way round from h: at g, or at the side before g, which is gone
      data Reached (h g : ℕ) : Type 0 where
        at : Lives N g → Round N (φ v) h g → Reached h g
        before : {x q y z : ℕ} → Tri S x v q y → Lives N x → Round N (φ v) h x → Tri S g v y z → Over y z → Reached h g

      advance : {h g k y z s : ℕ} → Reached h g → Tri S g v y z → Tri S k v z s → Reached h k
      advance {h} {g} {k} {y} {z} {s} (at l r) tg tk = elim (over tk) [ inl m ↦ at m (then r (step tg l tk m here)) | inr o ↦ before tg l r tk o ]
      advance {h} {g} {k} {y} {z} {s} (before {y = y'} {z = z'} tx lx r tg' o) tg tk =
          let p : z' ≡ z = same_third tg' tg in
          elim (over tk) [
            | inl m ↦ at m (then r (turn (P.I.up tx lx) (moved refl (sym (over_φ o ∙ ap φ p)) refl (P.I.up tk m)) here))
            | inr o' ↦ absurd (over_once o (subst (λ n. Over n s) (sym p) o'))
          ]

      walk : {h g k : ℕ} → Reached h g → Lives N k → Round S v g k → Round N (φ v) h k
      walk (at l r) lk here = r
      walk (before tx lx r tg o) lk here = absurd (far2 P.I tg lk (over_φ o))
      walk (at l r) lk (turn tg tk rest) = walk (advance (at l r) tg tk) lk rest
      walk (before tx lx r tg' o) lk (turn tg tk rest) = walk (advance (before tx lx r tg' o) tg tk) lk rest

      pub plain : {h k : ℕ} → Lives N h → Lives N k → Round S v h k → Round N (φ v) h k
      plain lh lk r = walk (at lh here) lk r

    -- from the side after (u, w) to each live side at u
    from_first : {B s g k : ℕ} → Tri S B u a s → (Lives N g → Round N (φ u) B g) → Lives N k → Round S u g k → Round N (φ u) B k
    from_first t_b acc lk here = acc lk
    from_first {B} t_b acc lk (turn {g = g} tg tk rest) = from_first t_b (λ l. next_one l tg tk (fate K P tg) acc) lk rest
      where
        next_one : {x y z g k : ℕ} → Lives N k → Tri S g u x y → Tri S k u y z → Lives N g ⊎ Gone u w a b u x y → (Lives N g → Round N (φ u) B g) → Round N (φ u) B k
        next_one lk tg tk (inl l) acc = then (acc l) (step tg l tk lk here)
        next_one {k = k} lk tg tk (inr (uwa i j m)) acc = subst (λ n. Round N (φ u) B n) (K.single t_b (moved refl m refl tk)) here
        next_one lk tg tk (inr (wau i j m)) acc = absurd (u≢w K P i)
        next_one lk tg tk (inr (auw i j m)) acc = absurd (a≢u K P (sym i))
        next_one lk tg tk (inr (wub i j m)) acc = absurd (u≢w K P i)
        next_one lk tg tk (inr (ubw i j m)) acc = absurd (P.I.differ tk lk (touch K P refl m))
        next_one lk tg tk (inr (bwu i j m)) acc = absurd (u≢b K P i)

    -- from each live side at u to the one before (u, b)
    to_last : {C s g k x : ℕ} → Tri S C u s b → Tri S k u b x → Lives N g → Round S u g k → Round N (φ u) g C
    to_last t_c tk lg here = absurd (far3 P.I tk lg (sym (touch K P refl (one_third K tk (spin P.tf)))))
    to_last {C} t_c tk lg (turn {h = g} {g = n} tg tn rest) = last_one lg tg tn (fate K P tn) (λ l. to_last t_c tk l rest)
      where
        last_one : {x y z g n : ℕ} → Lives N g → Tri S g u x y → Tri S n u y z → Lives N n ⊎ Gone u w a b u y z → (Lives N n → Round N (φ u) n C) → Round N (φ u) g C
        last_one lg tg tn (inl l) acc = step tg lg tn l (acc l)
        last_one lg tg tn (inr (uwa i j m)) acc = absurd (far3 P.I tg lg (sym (touch K P refl j)))
        last_one lg tg tn (inr (wau i j m)) acc = absurd (u≢w K P i)
        last_one lg tg tn (inr (auw i j m)) acc = absurd (a≢u K P (sym i))
        last_one lg tg tn (inr (wub i j m)) acc = absurd (u≢w K P i)
        last_one {g = g} lg tg tn (inr (ubw i j m)) acc = subst (λ n. Round N (φ u) g n) (one_before K (moved refl refl j tg) t_c) here
        last_one lg tg tn (inr (bwu i j m)) acc = absurd (u≢b K P i)

  module _ {e f u w a b : ℕ} (P : Pinch S N φ e f u w a b) where
    -- from a side at u to one at w: the ring of u up to (u, b), and then that of w from after (w, u) on
    cross : {h g x y x' y' : ℕ} → Tri S h u x y → Lives N h → Tri S g w x' y' → Lives N g → Round N (φ u) h g
    cross th lh tg lg =
        let (C, c, t_c) = K.matched (spin P.tf) in
        let (D, d, t_d) = K.matched (spin2 P.tf) in
        let nC = P.I.up (spin t_c) (lives_next N C (kept_aw K (swap P) t_c)) in
        let nD = moved (sym P.J.join) refl refl (P.I.up t_d (kept_ua K (swap P) t_d)) in
        then (to_last P (spin t_c) (spin P.tf) lh (K.ring th (spin P.tf)))
        (turn nC nD
        (round_at (sym P.J.join) (from_first (swap P) t_d (λ l. absurd (P.I.differ P.tf l (sym P.J.join))) lg (K.ring P.tf tg))))

  module _ {e f u w a b : ℕ} (P : Pinch S N φ e f u w a b) where
    -- from a side at u to another at u, by way of w
    loop : {h g x y x' y' : ℕ} → Tri S h u x y → Lives N h → Tri S g u x' y' → Lives N g → Round N (φ u) h g
    loop th lh tg lg =
        let (D, d, t_d) = K.matched (spin2 P.tf) in
        let l_d = kept_ua K (swap P) t_d in
        then (cross P th lh t_d l_d) (round_at (sym P.J.join) (cross (swap P) t_d l_d tg lg))

  pub ring' : {e f u w a b : ℕ} (P : Pinch S N φ e f u w a b) {h g v x y x' y' : ℕ} → Tri N h v x y → Tri N g v x' y' → Round N v h g
  ring' {u = u} {w = w} P {h} {g} {v} t s =
      let (p, q, r, th, i, j, k) = P.I.down t in
      let (p', q', r', tg, i', j', k') = P.I.down s in
      round_at i (go th tg (P.J.split p p' (i ∙ sym i')))
    where
      at_one : {p q r q' r' : ℕ} → Tri S h p q r → Tri S g p q' r' → Dec (p ≡ u) → Dec (p ≡ w) → Round N (φ p) h g
      at_one th tg (yes i) d = round_at (ap φ (sym i)) (loop P (moved i refl refl th) t.lives (moved i refl refl tg) s.lives)
      at_one th tg (no n) (yes i) = round_at (ap φ (sym i)) (loop (swap P) (moved i refl refl th) t.lives (moved i refl refl tg) s.lives)
      at_one th tg (no n) (no m) = plain P n m t.lives s.lives (K.ring th tg)

      go : {p q r p' q' r' : ℕ} → Tri S h p q r → Tri S g p' q' r' → (p ≡ p') ⊎ (((p ≡ u) × (p' ≡ w)) ⊎ ((p ≡ w) × (p' ≡ u))) → Round N (φ p) h g
      go {p = p} th tg (inl i) = at_one th (moved (sym i) refl refl tg) (ℕ_discrete p u) (ℕ_discrete p w)
      go th tg (inr (inl (i, j))) = round_at (ap φ (sym i)) (cross P (moved i refl refl th) t.lives (moved j refl refl tg) s.lives)
      go th tg (inr (inr (i, j))) = round_at (ap φ (sym i)) (cross (swap P) (moved i refl refl th) t.lives (moved j refl refl tg) s.lives)
