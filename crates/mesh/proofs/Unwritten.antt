-- The way back from a collapse: u is written again along the walk round w.
use Rattle.std.proofs.Common.{◌≡◌, ℕ, ◌/◌, true, false, cond, ◌||◌, eqb, ◌≢◌, ◌⊎◌, List, [], ◌∷◌, sym, refl, ap, ◌∙◌, subst, inl, inr}
use native.Mathlib.Decide.{ℕ_discrete}
use Rattle.std.proofs.lemmas.Bool.{cases_Bool, both_ways, eqb-true, eq-eqb, ne_eqb, cond-true, cond-false, or_cases, or_left, or_right, and_parts, and_from, not_from_false}
use Rattle.surface.specs.Surface.{Surface, next, prev, Tri}
use Rattle.surface.specs.Collapse.{rename, collapse}
use Rattle.surface.proofs.Flags.{flag_same}
use Rattle.surface.proofs.Tris.{spin, spin2, moved, same_third, renumber}
use Rattle.surface.proofs.Sealed.{Sealed, Round, here, turn, one_third}
use Rattle.surface.proofs.Among.{among, among_cases, among_none}
use Rattle.surface.proofs.Pinch.{Pinch, Gone, uwa, wau, auw, wub, ubw, bwu, u≢w, a≢u, u≢b, fate}
use Rattle.surface.proofs.Local.{Lives, far3, touch, kept_ua}
use Rattle.surface.proofs.Collapse.{rename_hit, rename_miss, alive_parts, corner_is, corner_dead, present_is}
use Rattle.surface.proofs.Pinched.{pinch}
use Rattle.surface.proofs.Thinned.{stays}
use Rattle.mesh.proofs.Fans.{Fan, done, more, fan_first, fan_closed, After, lively, ending, after}

module _ {S N : Surface} {φ : ℕ → ℕ} (K : Sealed S) {e f u w a b : ℕ} (P : Pinch S N φ e f u w a b) {last s : ℕ} (tl : Tri S last u s b) where
  build : {g k x y z : ℕ} → Tri S k u b z → Tri S g u x y → Lives N g → Round S u g k → (l : List ℕ) × Fan N (φ u) last g l
  build tk tg lg here = absurd (far3 P.I tk lg (sym (touch K P refl (one_third K tk (spin P.tf)))))
  build {g} tk _ lg (turn {g = n} tg tn rest) = go (after K P tl tg lg tn) (λ l. build tk tn l rest)
    where
      end : {g : ℕ} → g ≡ last → Lives N g → (l : List ℕ) × Fan N (φ u) last g l
      end {g} i l = subst (λ k. (l : List ℕ) × Fan N (φ u) last k l) (sym i) (last ∷ [], done (P.I.up tl (ap (λ k. N.alive (k / 3)) (sym i) ∙ l)))

      go : After K P tl g n → (Lives N n → (l : List ℕ) × Fan N (φ u) last n l) → (l : List ℕ) × Fan N (φ u) last g l
      go (lively l d) f = let (r, F) = f l in (g ∷ r, more d (P.I.up tg lg) (P.I.up tn l) F)
      go (ending i) f = end i lg

  module _ (C : Sealed N) where
    -- what comes after a moved side in N is a moved side
    follows : {g k x y z p q : ℕ} → Tri S g u p q → g ≢ last → Tri N g (φ u) x y → Tri N k (φ u) y z → (r : ℕ) × (t : ℕ) × Tri S k u r t
    follows {g} {k} {x} {y} {z} {p} {q} tg d ng nk =
        let (n, r, tm) = K.matched (spin2 tg) in
        let tn = tm in
        go tn (after K P tl tg ng.lives tn)
      where
        go : {n r : ℕ} → Tri S n u q r → After K P tl g n → (r : ℕ) × (t : ℕ) × Tri S k u r t
        go {n} {r} tn (lively l _) =
            (q, r, renumber (C.single (moved refl (same_third (P.I.up tg ng.lives) ng) refl (P.I.up tn l)) nk) tn)
        go tn (ending i) = absurd (d i)

    pub only_moved : {g h p q : ℕ} {l : List ℕ} → Fan N (φ u) last g l → Tri S g u p q → among h l ≡ true → S.corner h ≡ u
    only_moved {h = h} (done t) tg m = elim (among_cases h last [] m) [ inl i ↦ ap S.corner i ∙ tg.from | inr i ↦ absurd (among_none h i) ]
    only_moved {h = h} (more {h = g} {l = l} d ng nk r) tg m = go (among_cases h g l m) (λ i. let (p, q, tk) = follows tg d ng nk in only_moved r tk i)
      where
        go : (h ≡ g) ⊎ (among h l ≡ true) → (among h l ≡ true → S.corner h ≡ u) → S.corner h ≡ u
        go (inl i) f = ap S.corner i ∙ tg.from
        go (inr i) f = f i

    all_moved : {B c g h : ℕ} {l : List ℕ} → Fan N (φ u) last B l → Tri S B u a c → (Lives N g → among g l ≡ true) → Lives N h → Round S u g h → among h l ≡ true
    all_moved F t_b acc lh here = acc lh
    all_moved {l = l} F t_b acc lh (turn tg tk rest) = all_moved F t_b (λ m. go tg tk m (fate K P tg) acc) lh rest
      where
        go : {g k x y z : ℕ} → Tri S g u x y → Tri S k u y z → Lives N k → Lives N g ⊎ Gone u w a b u x y → (Lives N g → among g l ≡ true) → among k l ≡ true
        go {g} {k} tg tk lk (inl m) acc = live_next (after K P tl tg m tk)
          where
            live_next : After K P tl g k → among k l ≡ true
            live_next (lively _ d) = fan_closed C F (acc m) (P.I.up tg m) (P.I.up tk lk) d
            live_next (ending i) = absurd (far3 P.I tk lk (sym (touch K P refl (one_third K (moved refl (same_third (renumber i tg) tl) refl tk) (spin P.tf)))))
        go tg tk lk (inr (uwa i j m)) acc = subst (λ n. among n l ≡ true) (K.single t_b (moved refl m refl tk)) (fan_first C F)
        go tg tk lk (inr (wau i j m)) acc = absurd (u≢w K P i)
        go tg tk lk (inr (auw i j m)) acc = absurd (a≢u K P (sym i))
        go tg tk lk (inr (wub i j m)) acc = absurd (u≢w K P i)
        go tg tk lk (inr (ubw i j m)) acc = absurd (P.I.differ tk lk (touch K P refl m))
        go tg tk lk (inr (bwu i j m)) acc = absurd (u≢b K P i)

module _ (S : Surface) (K : Sealed S) (e f u w a b : ℕ) (te : Tri S e u w a) (tf : Tri S f w u b) (M : Sealed (collapse S u w)) (B C c d : ℕ) (t_b : Tri S B u a c) (t_c : Tri S C b u d) where
  P : Pinch S (collapse S u w) (rename u w) e f u w a b
  P = pinch K te tf

  at_w : {l : List ℕ} → Fan (collapse S u w) w (next C) B l → Fan (collapse S u w) (rename u w u) (next C) B l
  at_w {l} F = subst (λ v. Fan (collapse S u w) v (next C) B l) (sym (rename_hit u w u refl)) F

  pub exists : (l : List ℕ) × Fan (collapse S u w) w (next C) B l
  exists = let (l, F) = build K P (spin t_c) (spin tf) t_b (kept_ua K P t_b) (K.ring t_b (spin tf)) in (l, subst (λ v. Fan (collapse S u w) v (next C) B l) (rename_hit u w u refl) F)

  module _ (l : List ℕ) (F : Fan (collapse S u w) w (next C) B l) where
    pub corner_back : (h : ℕ) → cond (among h l) u ((collapse S u w).corner h) ≡ S.corner h
    corner_back h = go (cases_Bool (among h l)) (cases_Bool ((collapse S u w).alive (h / 3))) (ℕ_discrete (S.corner h) u)
      where
        N-closed : Sealed (collapse S u w)
        N-closed = M

        is_among : (collapse S u w).alive (h / 3) ≡ true → S.corner h ≡ u → among h l ≡ true
        is_among lh i =
            let th : Tri S h u (S.corner (next h)) (S.corner (prev h)) = record { lives = (alive_parts S u w (h / 3) lh).0; from = i; to = refl; third = refl } in
            all_moved K P (spin t_c) N-closed (at_w F) t_b (λ m. absurd (P.I.differ te m P.J.join)) lh (K.ring te th)

        go : (among h l ≡ true) ⊎ (among h l ≡ false) → ((collapse S u w).alive (h / 3) ≡ true) ⊎ ((collapse S u w).alive (h / 3) ≡ false) → Dec (S.corner h ≡ u) →
            cond (among h l) u ((collapse S u w).corner h) ≡ S.corner h
        go (inl m) _ _ = cond-true (among h l) u _ m ∙ sym (only_moved K P (spin t_c) N-closed (at_w F) t_b m)
        go (inr m) (inr x) _ = cond-false (among h l) u _ m ∙ corner_dead S u w h x
        go (inr m) (inl x) (no n) = cond-false (among h l) u _ m ∙ corner_is S u w h x ∙ rename_miss u w (S.corner h) n
        go (inr m) (inl x) (yes i) = absurd (both_ways (among h l) m (is_among x i))

    pub alive_back : (t : ℕ) → ((collapse S u w).alive t || (eqb t (e / 3) || eqb t (f / 3))) ≡ S.alive t
    alive_back t = flag_same _ _ there (λ s. back s (ℕ_discrete t (e / 3)) (ℕ_discrete t (f / 3)))
      where
        there : ((collapse S u w).alive t || (eqb t (e / 3) || eqb t (f / 3))) ≡ true → S.alive t ≡ true
        there p =
            elim (or_cases _ _ p) [
              | inl i ↦ (alive_parts S u w t i).0
              | inr q ↦ elim (or_cases _ _ q) [ inl i ↦ ap S.alive (eqb-true t (e / 3) i) ∙ te.lives | inr i ↦ ap S.alive (eqb-true t (f / 3) i) ∙ tf.lives ]
            ]

        back : S.alive t ≡ true → Dec (t ≡ e / 3) → Dec (t ≡ f / 3) → ((collapse S u w).alive t || (eqb t (e / 3) || eqb t (f / 3))) ≡ true
        back s (yes i) _ = or_right ((collapse S u w).alive t) _ (or_left (eqb t (e / 3)) (eqb t (f / 3)) (eq-eqb t (e / 3) i))
        back s (no _) (yes i) = or_right ((collapse S u w).alive t) _ (or_right (eqb t (e / 3)) (eqb t (f / 3)) (eq-eqb t (f / 3) i))
        back s (no i) (no j) = or_left _ _ (stays K P t i j s)

    pub present_back : (v : ℕ) → ((collapse S u w).present v || eqb v u) ≡ S.present v
    present_back v = flag_same _ _ there (λ s. back s (ℕ_discrete v u))
      where
        there : ((collapse S u w).present v || eqb v u) ≡ true → S.present v ≡ true
        there p =
            elim (or_cases _ _ p) [
              | inl i ↦ (and_parts (S.present v) _ (sym (present_is S u w v) ∙ i)).0
              | inr i ↦ ap S.present (eqb-true v u i) ∙ K.known te
            ]

        back : S.present v ≡ true → Dec (v ≡ u) → ((collapse S u w).present v || eqb v u) ≡ true
        back s (yes i) = or_right _ _ (eq-eqb v u i)
        back s (no i) = or_left _ _ (present_is S u w v ∙ and_from (S.present v) _ s (not_from_false _ (ne_eqb v u i)))
