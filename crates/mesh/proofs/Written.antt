-- The collapse is what a walk round u writes.
use Rattle.std.proofs.Common.{◌≡◌, ℕ, ◌/◌, true, false, cond, not, ◌&&◌, ◌||◌, eqb, ◌≢◌, ◌⊎◌, List, [], ◌∷◌, sym, refl, ap, ◌∙◌, subst, inl, inr}
use native.Mathlib.Decide.{ℕ_discrete}
use Rattle.std.proofs.lemmas.Bool.{cases_Bool, both_ways, eqb-false, ne_eqb, cond-true, cond-false, or_parts, or_from, and_parts, and_from, not-true, not_from_false}
use Rattle.surface.specs.Surface.{Surface, next, prev, Tri}
use Rattle.surface.specs.Collapse.{rename, collapse}
use Rattle.surface.proofs.Flags.{flag_same}
use Rattle.surface.proofs.Tris.{spin, moved, same_third, renumber}
use Rattle.surface.proofs.Sealed.{Sealed, Round, here, turn, one_third}
use Rattle.surface.proofs.Among.{among, among_cases, among_none}
use Rattle.surface.proofs.Pinch.{Pinch, Gone, uwa, wau, auw, wub, ubw, bwu, u≢w, a≢u, u≢b, fate}
use Rattle.surface.proofs.Local.{Lives, far3, touch, kept_ua}
use Rattle.surface.proofs.Collapse.{rename_hit, rename_miss, alive_parts, corner_is, corner_dead}
use Rattle.surface.proofs.Pinched.{pinch}
use Rattle.surface.proofs.Thinned.{stays}
use Rattle.mesh.proofs.Fans.{Fan, done, more, fan_first, fan_closed, After, lively, ending, after}

module _ {S N : Surface} {φ : ℕ → ℕ} (K : Sealed S) {e f u w a b : ℕ} (P : Pinch S N φ e f u w a b) {last s : ℕ} (tl : Tri S last u s b) where
  pub build : {g k x y z : ℕ} → Tri S k u b z → Tri S g u x y → Lives N g → Round S u g k → (l : List ℕ) × Fan S u last g l
  build tk tg lg here = absurd (far3 P.I tk lg (sym (touch K P refl (one_third K tk (spin P.tf)))))
  build {g} tk _ lg (turn {g = n} tg tn rest) = go (after K P tl tg lg tn) (λ l. build tk tn l rest)
    where
      end : {g : ℕ} → g ≡ last → (l : List ℕ) × Fan S u last g l
      end {g} i = subst (λ k. (l : List ℕ) × Fan S u last k l) (sym i) (last ∷ [], done tl)

      go : After K P tl g n → (Lives N n → (l : List ℕ) × Fan S u last n l) → (l : List ℕ) × Fan S u last g l
      go (lively l d) f = let (r, F) = f l in (g ∷ r, more d tg tn F)
      go (ending i) f = end i

  pub only_moved : {g h : ℕ} {l : List ℕ} → Fan S u last g l → Lives N g → among h l ≡ true → Lives N h × (S.corner h ≡ u)
  only_moved {h = h} (done t) lg m = elim (among_cases h last [] m) [ inl i ↦ (ap (λ k. N.alive (k / 3)) i ∙ lg, ap S.corner i ∙ t.from) | inr i ↦ absurd (among_none h i) ]
  only_moved {h = h} (more {h = g} {g = n} {l = l} d tg tn r) lg m = go (among_cases h g l m) (after K P tl tg lg tn) (λ k i. only_moved r k i)
    where
      go : (h ≡ g) ⊎ (among h l ≡ true) → After K P tl g n → (Lives N n → among h l ≡ true → Lives N h × (S.corner h ≡ u)) → Lives N h × (S.corner h ≡ u)
      go (inl i) _ f = (ap (λ k. N.alive (k / 3)) i ∙ lg, ap S.corner i ∙ tg.from)
      go (inr i) (lively k _) f = f k i
      go (inr i) (ending j) f = absurd (d j)

  all_moved : {B c g h : ℕ} {l : List ℕ} → Fan S u last B l → Tri S B u a c → (Lives N g → among g l ≡ true) → Lives N h → Round S u g h → among h l ≡ true
  all_moved F t_b acc lh here = acc lh
  all_moved {l = l} F t_b acc lh (turn tg tk rest) = all_moved F t_b (λ m. go tg tk m (fate K P tg) acc) lh rest
    where
      go : {g k x y z : ℕ} → Tri S g u x y → Tri S k u y z → Lives N k → Lives N g ⊎ Gone u w a b u x y → (Lives N g → among g l ≡ true) → among k l ≡ true
      go {g} {k} tg tk lk (inl m) acc = live_next (after K P tl tg m tk)
        where
          live_next : After K P tl g k → among k l ≡ true
          live_next (lively _ d) = fan_closed K F (acc m) tg tk d
          live_next (ending i) = absurd (far3 P.I tk lk (sym (touch K P refl (one_third K (moved refl (same_third (renumber i tg) tl) refl tk) (spin P.tf)))))
      go tg tk lk (inr (uwa i j m)) acc = subst (λ n. among n l ≡ true) (K.single t_b (moved refl m refl tk)) (fan_first K F)
      go tg tk lk (inr (wau i j m)) acc = absurd (u≢w K P i)
      go tg tk lk (inr (auw i j m)) acc = absurd (a≢u K P (sym i))
      go tg tk lk (inr (wub i j m)) acc = absurd (u≢w K P i)
      go tg tk lk (inr (ubw i j m)) acc = absurd (P.I.differ tk lk (touch K P refl m))
      go tg tk lk (inr (bwu i j m)) acc = absurd (u≢b K P i)

module _ (S : Surface) (K : Sealed S) (e f u w a b : ℕ) (te : Tri S e u w a) (tf : Tri S f w u b) (B C c d : ℕ) (t_b : Tri S B u a c) (t_c : Tri S C b u d) where
  P : Pinch S (collapse S u w) (rename u w) e f u w a b
  P = pinch K te tf

  pub exists : (l : List ℕ) × Fan S u (next C) B l
  exists = build K P (spin t_c) (spin tf) t_b (kept_ua K P t_b) (K.ring t_b (spin tf))

  module _ (l : List ℕ) (F : Fan S u (next C) B l) where
    pub corners : (h : ℕ) → cond (among h l) w (S.corner h) ≡ (collapse S u w).corner h
    corners h = go (cases_Bool (among h l)) (cases_Bool ((collapse S u w).alive (h / 3))) (ℕ_discrete (S.corner h) u)
      where
        is_among : (collapse S u w).alive (h / 3) ≡ true → S.corner h ≡ u → among h l ≡ true
        is_among lh i =
            let th : Tri S h u (S.corner (next h)) (S.corner (prev h)) = record { lives = (alive_parts S u w (h / 3) lh).0; from = i; to = refl; third = refl } in
            all_moved K P (spin t_c) F t_b (λ m. absurd (P.I.differ te m P.J.join)) lh (K.ring te th)

        go : (among h l ≡ true) ⊎ (among h l ≡ false) → ((collapse S u w).alive (h / 3) ≡ true) ⊎ ((collapse S u w).alive (h / 3) ≡ false) → Dec (S.corner h ≡ u) →
            cond (among h l) w (S.corner h) ≡ (collapse S u w).corner h
        go (inl m) _ _ =
            let (lh, i) = only_moved K P (spin t_c) F (kept_ua K P t_b) m in
            cond-true (among h l) w _ m ∙ sym (rename_hit u w (S.corner h) i) ∙ sym (corner_is S u w h lh)
        go (inr m) (inr x) _ = cond-false (among h l) w _ m ∙ sym (corner_dead S u w h x)
        go (inr m) (inl x) (no n) = cond-false (among h l) w _ m ∙ sym (rename_miss u w (S.corner h) n) ∙ sym (corner_is S u w h x)
        go (inr m) (inl x) (yes i) = absurd (both_ways (among h l) m (is_among x i))

    pub flags : (t : ℕ) → (S.alive t && not (eqb t (e / 3) || eqb t (f / 3))) ≡ (collapse S u w).alive t
    flags t = flag_same _ _ there back
      where
        there : (S.alive t && not (eqb t (e / 3) || eqb t (f / 3))) ≡ true → (collapse S u w).alive t ≡ true
        there p =
            let (i, j) = and_parts (S.alive t) _ p in
            let (x, y) = or_parts (eqb t (e / 3)) (eqb t (f / 3)) (not-true _ j) in
            stays K P t (eqb-false t (e / 3) x) (eqb-false t (f / 3) y) i

        dead_e : (collapse S u w).alive t ≡ true → t ≢ e / 3
        dead_e l i = P.I.differ te (ap (collapse S u w).alive (sym i) ∙ l) P.J.join

        dead_f : (collapse S u w).alive t ≡ true → t ≢ f / 3
        dead_f l i = P.I.differ tf (ap (collapse S u w).alive (sym i) ∙ l) (sym P.J.join)

        back : (collapse S u w).alive t ≡ true → (S.alive t && not (eqb t (e / 3) || eqb t (f / 3))) ≡ true
        back l =
            and_from (S.alive t) (not (eqb t (e / 3) || eqb t (f / 3))) (alive_parts S u w t l).0
            (not_from_false (eqb t (e / 3) || eqb t (f / 3)) (or_from (eqb t (e / 3)) (eqb t (f / 3)) (ne_eqb t (e / 3) (dead_e l)) (ne_eqb t (f / 3) (dead_f l))))
