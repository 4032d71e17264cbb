-- Keys that a collapse and its undoing leave right, and what is to be mended after them.
use Rattle.std.proofs.Common.{◌≡◌, ℕ, ◌*◌, ◌/◌, ◌<◌, ◌≤◌, true, false, ◌≢◌, ◌⊎◌, List, length, get_or, Some, None, Option, sym, ◌∙◌, subst, subst₂, inl, inr, arith}
use native.Mathlib.Decide.{ℕ_discrete}
use Rattle.std.proofs.lemmas.Bool.{both_ways, cases_Bool}
use Rattle.surface.specs.Surface.{Surface, next, prev, Tri, Side}
use Rattle.surface.specs.Closed.{Closed}
use Rattle.surface.specs.Changes.{SameStar}
use Rattle.surface.specs.Collapse.{rename, collapse}
use Rattle.surface.specs.Euler.{leads, any}
use Rattle.surface.specs.Geometry.{Vector}
use Rattle.surface.specs.Permitted.{Permitted}
use Rattle.surface.proofs.Alike.{same_star_swap}
use Rattle.surface.proofs.Changes.{star_kept, permitted_local}
use Rattle.surface.proofs.Collapse.{alive_parts, present_parts, rename_hit, rename_miss}
use Rattle.surface.proofs.Counting.{any_at, any_from}
use Rattle.surface.proofs.FromRings.{sealed}
use Rattle.surface.proofs.Local.{Lives, kept_aw}
use Rattle.surface.proofs.Pinch.{Pinch, swap, Gone, uwa, wau, auw, wub, ubw, bwu, fate, u≢w, a≢u, u≢b}
use Rattle.surface.proofs.Pinched.{pinch}
use Rattle.surface.proofs.Sides.{leads_tri, tri_leads}
use Rattle.surface.proofs.Thinned.{stays}
use Rattle.surface.proofs.Tris.{moved, spin, tri_at}
use Rattle.queue.specs.declared.keys.Key.{Key}
use Rattle.gauge.specs.declared.Gauge.{Ghosts}
use Rattle.mending.specs.Keys.{KeyFor, KeyIs, Keyed, Mended}
use Rattle.mending.specs.Around.{Beside, Around}
use Rattle.mending.specs.Laws.{Below, SameBut, MendedAfter, MendedBefore}
use Rattle.mending.proofs.Nears.{near_same}

-- where no live triangle has a number of T or more, whether x is w or a neighbour of w can be told
beside_told : (S : Surface) (T : ℕ) → Below S T → (w x : ℕ) → Dec (Beside S w x)
beside_told S T B w x = go (ℕ_discrete x w) (cases_Bool (any (leads S w x) (3 * T)))
  where
    low : {h c : ℕ} → Tri S h w x c → h < 3 * T
    low {h} t = let p = B (h / 3) t.lives in omega arith

    go : Dec (x ≡ w) → (any (leads S w x) (3 * T) ≡ true) ⊎ (any (leads S w x) (3 * T) ≡ false) → Dec (Beside S w x)
    go (yes i) s = yes (inl i)
    go (no n) (inl p) = let (h, l, q) = any_at (leads S w x) (3 * T) p in yes (inr (h, S.corner (prev h), leads_tri S w x h q))
    go (no n) (inr p) = no (elim [ inl i ↦ n i | inr (h, c, t) ↦ both_ways _ p (any_from (leads S w x) h (3 * T) (low t) (tri_leads S t)) ])

-- the collapse of u to w, two vertices of a side, with a closed outcome
module _ {S : Surface} (K : Closed S) {u w : ℕ} (s : Side S u w) (L : Closed (collapse S u w)) where
  abbrev N : Surface
  N = collapse S u w

  -- the neighbours of u are then neighbours of w
  joined : {e f a b : ℕ} → Pinch S N (rename u w) e f u w a b → {x : ℕ} → x ≢ w → Side S u x → Side N w x
  joined {e} {f} {a} {b} P {x} n (h, c, t) = go (fate (sealed K) P t)
    where
      to_w : rename u w u ≡ w
      to_w = rename_hit u w u (λ _. u)

      same : rename u w x ≡ x
      same = rename_miss u w x (λ i. K.proper _ _ _ _ t (sym i))

      turned : x ≡ b → Side N w x
      turned i =
          let (g, d, r) = K.matched _ _ _ _ t in
          let l : Lives N g = kept_aw (sealed K) (swap P) (moved i (λ _. u) (λ _. d) r) in
          L.matched _ _ _ _ (moved same to_w (λ _. rename u w d) (P.I.up r l))

      go : Lives N h ⊎ Gone u w a b u x c → Side N w x
      go (inl l) = (h, rename u w c, moved to_w same (λ _. rename u w c) (P.I.up t l))
      go (inr (uwa i j k)) = absurd (n j)
      go (inr (wau i j k)) = absurd (u≢w (sealed K) P i)
      go (inr (auw i j k)) = absurd (a≢u (sealed K) P (sym i))
      go (inr (wub i j k)) = absurd (u≢w (sealed K) P i)
      go (inr (ubw i j k)) = turned j
      go (inr (bwu i j k)) = absurd (u≢b (sealed K) P i)

  neighbour : {x : ℕ} → x ≢ w → Side S u x → Side N w x
  neighbour n r = let (e, a, te) = s in let (f, b, tf) = K.matched _ _ _ _ te in joined (pinch (sealed K) te tf) n r

  -- away from w the stars are the same, after the collapse; and before it away from u
  star_after : (x : ℕ) → N.present x ≡ true → (Beside N w x → ⊥) → SameStar S N x
  star_after x p far = star_kept S K u w s x (present_parts S u w x p).1 (λ i. far (inl i)) (λ r. far (inr (neighbour (λ i. far (inl i)) r)))

  not_to : (x : ℕ) → (Beside S u x → ⊥) → x ≢ w
  not_to x far i = far (inr (subst (Side S u) (sym i) s))

  star_before : (x : ℕ) → (Beside S u x → ⊥) → SameStar S N x
  star_before x far = star_kept S K u w s x (λ i. far (inl i)) (not_to x far) (λ r. far (inr r))

  -- a triangle that dies is one of the two at the side
  died : {e f a b : ℕ} → Tri S e u w a → Tri S f w u b → (t : ℕ) → S.alive t ≡ true → N.alive t ≡ false → (t ≡ e / 3) ⊎ (t ≡ f / 3)
  died {e} {f} te tf t l d = go (ℕ_discrete t (e / 3)) (ℕ_discrete t (f / 3))
    where
      go : Dec (t ≡ e / 3) → Dec (t ≡ f / 3) → (t ≡ e / 3) ⊎ (t ≡ f / 3)
      go (yes i) q = inl i
      go (no n) (yes i) = inr i
      go (no n) (no k) = absurd (both_ways _ d (stays (sealed K) (pinch (sealed K) te tf) t n k l))

  below_kept : {T : ℕ} → Below S T → Below N T
  below_kept B t l = B t (alive_parts S u w t l).0

module _ {G C E Z : Type 0} (m : Ghosts G C E Z) (P : ℕ → Vector) (z : Z) where
  -- a key is told from the stars, the entries and the points of its two vertices
  key_there : (S N : Surface) → Closed S → Closed N → (acc acc' : List E) (x y : ℕ) → SameStar S N x → SameStar S N y →
      get_or acc x m.blank ≡ get_or acc' x m.blank → get_or acc y m.blank ≡ get_or acc' y m.blank → (k : Key C) → KeyFor m S P z acc x y k → KeyFor m N P z acc' x y k
  key_there S N K L acc acc' x y Q R ex ey k F =
      record {
        permitted = (permitted_local S N K L P x y Q R).0 F.permitted;
        from = F.from;
        to = F.to;
        price = F.price ∙ rw (ex, ey, near_same S N P x y Q R);
      }

  local : (S N : Surface) → Closed S → Closed N → (acc acc' : List E) {h x y c : ℕ} → Tri S h x y c → SameStar S N x → SameStar S N y →
      get_or acc x m.blank ≡ get_or acc' x m.blank → get_or acc y m.blank ≡ get_or acc' y m.blank →
      (r : Option (Key C)) → KeyIs m S P z acc h r → KeyIs m N P z acc' h r
  local S N K L acc acc' {h} {x} {y} {c} t Q R ex ey None k =
      let t' = Q.there h y c t in
      λ l M. k t.lives (subst₂ (Permitted S P) (sym t.from) (sym t.to) ((permitted_local S N K L P x y Q R).1 (subst₂ (Permitted N P) t'.from t'.to M)))
  local S N K L acc acc' {h} {x} {y} {c} t Q R ex ey (Some k) (l, F) =
      let t' = Q.there h y c t in (
        t'.lives,
        subst₂ (λ a b. KeyFor m N P z acc' a b k) (sym t'.from) (sym t'.to) (key_there S N K L acc acc' x y Q R ex ey k (subst₂ (λ a b. KeyFor m S P z acc a b k) t.from t.to F)),
      )

  -- what is dead before and after has no key
  dead : (S N : Surface) (acc acc' : List E) (h : ℕ) → S.alive (h / 3) ≡ false → N.alive (h / 3) ≡ false → (r : Option (Key C)) → KeyIs m S P z acc h r → KeyIs m N P z acc' h r
  dead S N acc acc' h d e None k = λ l M. both_ways _ e l
  dead S N acc acc' h d e (Some k) (l, F) = absurd (both_ways _ d l)

  module _ {S : Surface} (K : Closed S) {u w : ℕ} (s : Side S u w) (L : Closed (collapse S u w)) (acc acc' : List E) (B : SameBut m.blank w acc acc') where
    -- after the collapse a live candidate with no end at w or a neighbour of w has the key that it had
    pub still_after : (h : ℕ) → (collapse S u w).alive (h / 3) ≡ true → (Beside (collapse S u w) w ((collapse S u w).corner h) → ⊥) → (Beside (collapse S u w) w ((collapse S u w).corner (next h)) → ⊥) →
        (r : Option (Key C)) → KeyIs m S P z acc h r → KeyIs m (collapse S u w) P z acc' h r
    still_after h l fx fy r k =
        let t = tri_at (collapse S u w) h l in
        let Q = star_after K s L _ (L.known _ _ _ _ t) fx in
        let R = star_after K s L _ (L.known _ _ _ _ (spin t)) fy in
        local S (collapse S u w) K L acc acc' (Q.back _ _ _ t) Q R (B _ (λ i. fx (inl i))) (B _ (λ i. fy (inl i))) r k

    -- and after its undoing one with no end at u or a neighbour of u
    pub still_before : (h : ℕ) → S.alive (h / 3) ≡ true → (Beside S u (S.corner h) → ⊥) → (Beside S u (S.corner (next h)) → ⊥) →
        (r : Option (Key C)) → KeyIs m (collapse S u w) P z acc' h r → KeyIs m S P z acc h r
    still_before h l fx fy r k =
        let t = tri_at S h l in
        let Q = star_before K s L _ fx in
        let R = star_before K s L _ fy in
        local (collapse S u w) S L K acc' acc (Q.there _ _ _ t) (same_star_swap Q) (same_star_swap R) (sym (B _ (not_to K s L _ fx))) (sym (B _ (not_to K s L _ fy))) r k

    module _ (T : ℕ) (low : Below S T) (keys after : List (Option (Key C))) (long : 3 * T ≤ length keys) where
      -- keys that are right before the collapse are right after it, once those round w and those of the two dead triangles are mended
      pub keyed_after : {e f a b : ℕ} → Tri S e u w a → Tri S f w u b → Keyed m S P z acc T keys →
          Mended m (collapse S u w) P z acc' (λ h. (Around (collapse S u w) w h ⊎ (h / 3 ≡ e / 3)) ⊎ (h / 3 ≡ f / 3)) keys after → Keyed m (collapse S u w) P z acc' T after
      keyed_after {e} {f} te tf R M h l =
          elim (M.either h) [ inl k ↦ k | inr i ↦ go i (cases_Bool ((collapse S u w).alive (h / 3))) (cases_Bool (S.alive (h / 3))) ]
        where
          within : h < length after
          within = let n = M.long in omega arith

          was : get_or after h None ≡ get_or keys h None → KeyIs m S P z acc h (get_or after h None)
          was i = subst (KeyIs m S P z acc h) (sym i) (R h l)

          live : get_or after h None ≡ get_or keys h None → (collapse S u w).alive (h / 3) ≡ true →
              Dec (Beside (collapse S u w) w ((collapse S u w).corner h)) → Dec (Beside (collapse S u w) w ((collapse S u w).corner (next h))) → KeyIs m (collapse S u w) P z acc' h (get_or after h None)
          live i v (yes x) y = M.right h within (inl (inl (v, inl x)))
          live i v (no x) (yes y) = M.right h within (inl (inl (v, inr y)))
          live i v (no x) (no y) = still_after h v x y _ (was i)

          go : get_or after h None ≡ get_or keys h None → ((collapse S u w).alive (h / 3) ≡ true) ⊎ ((collapse S u w).alive (h / 3) ≡ false) → (S.alive (h / 3) ≡ true) ⊎ (S.alive (h / 3) ≡ false) →
              KeyIs m (collapse S u w) P z acc' h (get_or after h None)
          go i (inl v) q = live i v (beside_told _ T (below_kept K s L low) w _) (beside_told _ T (below_kept K s L low) w _)
          go i (inr d) (inl v) = elim (died K s L te tf (h / 3) v d) [ inl j ↦ M.right h within (inl (inr j)) | inr j ↦ M.right h within (inr j) ]
          go i (inr d) (inr v) = dead S (collapse S u w) acc acc' h v d _ (was i)

      -- keys that are right after the collapse are right before it, once those round u are mended
      pub keyed_before : Keyed m (collapse S u w) P z acc' T keys → Mended m S P z acc (Around S u) keys after → Keyed m S P z acc T after
      keyed_before R M h l = elim (M.either h) [ inl k ↦ k | inr i ↦ go i (cases_Bool (S.alive (h / 3))) ]
        where
          within : h < length after
          within = let n = M.long in omega arith

          was : get_or after h None ≡ get_or keys h None → KeyIs m (collapse S u w) P z acc' h (get_or after h None)
          was i = subst (KeyIs m (collapse S u w) P z acc' h) (sym i) (R h l)

          live : get_or after h None ≡ get_or keys h None → S.alive (h / 3) ≡ true → Dec (Beside S u (S.corner h)) → Dec (Beside S u (S.corner (next h))) → KeyIs m S P z acc h (get_or after h None)
          live i v (yes x) y = M.right h within (v, inl x)
          live i v (no x) (yes y) = M.right h within (v, inr y)
          live i v (no x) (no y) = still_before h v x y _ (was i)

          go : get_or after h None ≡ get_or keys h None → (S.alive (h / 3) ≡ true) ⊎ (S.alive (h / 3) ≡ false) → KeyIs m S P z acc h (get_or after h None)
          go i (inl v) = live i v (beside_told S T low u _) (beside_told S T low u _)
          go i (inr d) = dead (collapse S u w) S acc' acc h (elim (cases_Bool ((collapse S u w).alive (h / 3))) [ inl v ↦ absurd (both_ways _ d (alive_parts S u w (h / 3) v).0) | inr e ↦ e ]) d _ (was i)

pub mended_after : {G C E Z : Type 0} (m : Ghosts G C E Z) → MendedAfter m Around
mended_after m P z S u w K s L acc acc' B T low keys after long e f a b te tf R M = keyed_after m P z K s L acc acc' B T low keys after long te tf R M

pub mended_before : {G C E Z : Type 0} (m : Ghosts G C E Z) → MendedBefore m Around
mended_before m P z S u w K s L acc acc' B T low keys after long R M = keyed_before m P z K s L acc acc' B T low keys after long R M
