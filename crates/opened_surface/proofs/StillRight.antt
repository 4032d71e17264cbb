-- Keys that a collapse and its undoing leave right, and what is to be mended after them.
use Rattle.std.proofs.Common.{Bool, ◌≡◌, ℕ, ◌*◌, ◌/◌, ◌<◌, ◌≤◌, true, false, ◌≢◌, ◌⊎◌, List, length, get_or, is_some, Some, None, Option, sym, refl, ap, ◌∙◌, subst, subst₂, inl, inr, arith, get_or-set_other}
use native.Mathlib.Decide.{ℕ_discrete}
use Rattle.std.proofs.lemmas.Bool.{both_ways, cases_Bool}
use Rattle.surface.specs.Surface.{Surface, next, prev, Tri, Side}
use Rattle.surface.specs.Closed.{Closed}
use Rattle.surface.specs.Changes.{SameStar}
use Rattle.surface.specs.Collapse.{collapse}
use Rattle.surface.specs.Euler.{leads, any}
use Rattle.surface.specs.Geometry.{Vector}
use Rattle.surface.specs.Permitted.{Permitted}
use Rattle.surface.proofs.Alike.{same_star_swap}
use Rattle.surface.proofs.Changes.{star_kept, permitted_local}
use Rattle.surface.proofs.Collapse.{alive_parts, corner_is, rename_hit, rename_miss}
use Rattle.surface.proofs.Counting.{any_at, any_from}
use Rattle.surface.proofs.FromRings.{sealed}
use Rattle.surface.proofs.Pinched.{pinch}
use Rattle.surface.proofs.Sides.{leads_tri, tri_leads}
use Rattle.surface.proofs.Thinned.{stays}
use Rattle.surface.proofs.Tris.{next_triangle, tri_at}
use Rattle.queue.specs.declared.keys.Key.{Key}
use Rattle.gauge.specs.Accounts.{changed}
use Rattle.gauge.specs.declared.Gauge.{Ghosts}
use Rattle.gauge.specs.Near.{Placed, near}
use Rattle.opened_surface.specs.Keys.{KeyFor, KeyIs, Mended}
use Rattle.opened_surface.specs.Marks.{Marks, Marked}
use Rattle.opened_surface.specs.Mending.{Beside}
use Rattle.opened_surface.specs.Stale.{Covered}
use Rattle.opened_surface.proofs.Cases.{KeyOr, KeyedOr}
use Rattle.opened_surface.proofs.Nears.{near_same}

-- no live triangle has a number of T or more
abbrev pub Below : Surface → ℕ → Type 0
Below S T = (t : ℕ) → S.alive t ≡ true → t < T

-- where that is so, whether x is w or a neighbour of w can be told
beside_told : (S : Surface) (T : ℕ) → Below S T → (w x : ℕ) → Dec (Beside S w x)
beside_told S T B w x = go (ℕ_discrete x w) (cases_Bool (any (leads S w x) (3 * T)))
  where
    low : {h c : ℕ} → Tri S h w x c → h < 3 * T
    low {h} t = let p = B (h / 3) t.lives in omega arith

    go : Dec (x ≡ w) → (any (leads S w x) (3 * T) ≡ true) ⊎ (any (leads S w x) (3 * T) ≡ false) → Dec (Beside S w x)
    go (yes i) s = yes (inl i)
    go (no n) (inl p) = let (h, l, q) = any_at (leads S w x) (3 * T) p in yes (inr (h, S.corner (prev h), leads_tri S w x h q))
    go (no n) (inr p) = no (elim [ inl i ↦ n i | inr (h, c, t) ↦ both_ways _ p (any_from (leads S w x) h (3 * T) (low t) (tri_leads S t)) ])

-- the collapse of u to w, two vertices of a side, with a closed outcome
module _ {S : Surface} (K : Closed S) {u w : ℕ} (s : Side S u w) (L : Closed (collapse S u w)) where
  abbrev N : Surface
  N = collapse S u w

  not_to : (x : ℕ) → (Beside S u x → ⊥) → x ≢ w
  not_to x far i = far (inr (subst (Side S u) (sym i) s))

  star_before : (x : ℕ) → (Beside S u x → ⊥) → SameStar S N x
  star_before x far = star_kept S K u w s x (λ i. far (inl i)) (not_to x far) (λ r. far (inr r))

  -- a triangle that dies is one of the two at the side
  died : {e f a b : ℕ} → Tri S e u w a → Tri S f w u b → (t : ℕ) → S.alive t ≡ true → N.alive t ≡ false → (t ≡ e / 3) ⊎ (t ≡ f / 3)
  died {e} {f} te tf t l d = go (ℕ_discrete t (e / 3)) (ℕ_discrete t (f / 3))
    where
      go : Dec (t ≡ e / 3) → Dec (t ≡ f / 3) → (t ≡ e / 3) ⊎ (t ≡ f / 3)
      go (yes i) q = inl i
      go (no n) (yes i) = inr i
      go (no n) (no k) = absurd (both_ways _ d (stays (sealed K) (pinch (sealed K) te tf) t n k l))

-- the entries but that of w are the same; `blank` is only the default of the reads
abbrev pub SameBut : {E : Type 0} → E → ℕ → List E → List E → Type 0
SameBut blank w acc acc' = (x : ℕ) → x ≢ w → get_or acc x blank ≡ get_or acc' x blank

pub changed_but : {E : Type 0} (op : E → E → E) (blank : E) (u w : ℕ) (acc : List E) → SameBut blank w acc (changed op blank u w acc)
changed_but op blank u w acc x n = sym (get_or-set_other acc w x _ blank n)

pub but_changed : {E : Type 0} (op : E → E → E) (blank : E) (u w : ℕ) (acc : List E) → SameBut blank w (changed op blank u w acc) acc
but_changed op blank u w acc x n = get_or-set_other acc w x _ blank n

module _ {G C E Z : Type 0} (m : Ghosts G C E Z)
    (blind : Bool) (unseen : blind ≡ true → (s : Z) (u w : ℕ) (x y : E) (p q : Vector) (n k : ℕ → Option Placed) → m.price s u w x y p q n ≡ m.price s u w x y p q k) (P : ℕ → Vector) (z : Z) where
  -- a key is told from the stars, the entries and the points of its two vertices
  key_there : (S N : Surface) (acc acc' : List E) (x y : ℕ) → SameStar S N x → SameStar S N y →
      get_or acc x m.blank ≡ get_or acc' x m.blank → get_or acc y m.blank ≡ get_or acc' y m.blank → (k : Key C) → KeyFor m S P z acc x y k → KeyFor m N P z acc' x y k
  key_there S N acc acc' x y Q R ex ey k F =
      record {
        from = F.from;
        to = F.to;
        price = F.price ∙ rw (ex, ey, near_same S N P x y Q R);
      }

  local : (S N : Surface) → Closed S → Closed N → (acc acc' : List E) {h x y c : ℕ} → Tri S h x y c → SameStar S N x → SameStar S N y →
      get_or acc x m.blank ≡ get_or acc' x m.blank → get_or acc y m.blank ≡ get_or acc' y m.blank →
      (r : Option (Key C)) → KeyIs m S P z acc h r → KeyIs m N P z acc' h r
  local S N K L acc acc' {h} {x} {y} {c} t Q R ex ey None k =
      let t' = Q.there h y c t in
      λ l M. k t.lives (subst₂ (Permitted S P) (sym t.from) (sym t.to) ((permitted_local S N K L P x y Q R).1 (subst₂ (Permitted N P) t'.from t'.to M)))
  local S N K L acc acc' {h} {x} {y} {c} t Q R ex ey (Some k) (l, F) =
      let t' = Q.there h y c t in (
        t'.lives,
        subst₂ (λ a b. KeyFor m N P z acc' a b k) (sym t'.from) (sym t'.to) (key_there S N acc acc' x y Q R ex ey k (subst₂ (λ a b. KeyFor m S P z acc a b k) t.from t.to F)),
      )

  -- what is dead before and after has no key
  dead : (S N : Surface) (acc acc' : List E) (h : ℕ) → S.alive (h / 3) ≡ false → N.alive (h / 3) ≡ false → (r : Option (Key C)) → KeyIs m S P z acc h r → KeyIs m N P z acc' h r
  dead S N acc acc' h d e None k = λ l M. both_ways _ e l
  dead S N acc acc' h d e (Some k) (l, F) = absurd (both_ways _ d l)

  -- where prices do not rest on the triangles, it is told from the entries and the points alone
  key_unseen : blind ≡ true → (S N : Surface) (acc acc' : List E) (x y p q : ℕ) → x ≡ p → y ≡ q → get_or acc p m.blank ≡ get_or acc' p m.blank → get_or acc q m.blank ≡ get_or acc' q m.blank →
      (k : Key C) → KeyFor m S P z acc x y k → KeyFor m N P z acc' p q k
  key_unseen b S N acc acc' x y p q i j ex ey k F =
      let F' : KeyFor m S P z acc p q k = subst₂ (λ a c. KeyFor m S P z acc a c k) i j F in
      record { from = F'.from; to = F'.to; price = F'.price ∙ rw (ex, ey) (unseen b z p q _ _ (P p) (P q) (near S P p q) (near N P p q)) }

  -- the collapse of u to w, where what it asks for is marked
  module _ {S : Surface} (K : Closed S) {u w : ℕ} (s : Side S u w) (L : Closed (collapse S u w)) (acc acc' : List E) (B : SameBut m.blank w acc acc')
      (strong weak : Marks) (cover : Covered blind S u w strong weak) (T : ℕ) (low : Below S T) where
    abbrev Out : Surface
    Out = collapse S u w

    abbrev Before : ℕ → Option (Key C) → Type 0
    Before h k = KeyOr m S P z acc strong weak h k

    abbrev After : ℕ → Option (Key C) → Type 0
    After h k = KeyOr m Out P z acc' strong weak h k

    -- what is not to be priced again is neither u nor w
    not_u : {x : ℕ} → is_some (get_or strong x None) ≡ false → x ≢ u
    not_u p i = both_ways _ p (subst (Marked strong) (sym i) cover.from)

    not_w : {x : ℕ} → is_some (get_or strong x None) ≡ false → x ≢ w
    not_w p i = both_ways _ p (subst (Marked strong) (sym i) cover.to)

    -- and if it is beside u, it is to be opened again, and prices do not rest on the triangles
    opens : {x : ℕ} → is_some (get_or strong x None) ≡ false → Beside S u x → (blind ≡ true) × Marked weak x
    opens p (inl i) = absurd (not_u p i)
    opens {x} p (inr r) = elim (cover.round x r) [ inl q ↦ absurd (both_ways _ p q) | inr q ↦ q ]

    told : (x : ℕ) → Marked strong x ⊎ (is_some (get_or strong x None) ≡ false)
    told x = cases_Bool (is_some (get_or strong x None))

    none_some : {k : Key C} → ◌≡◌ {A = Option (Key C)} (Some k) None → ⊥
    none_some i = both_ways false refl (sym (ap is_some i))

    -- a corner that is not w afterwards was the same before
    corner_was : (h : ℕ) → Out.alive (h / 3) ≡ true → Out.corner h ≢ w → S.corner h ≡ Out.corner h
    corner_was h l n = go (ℕ_discrete (S.corner h) u)
      where
        go : Dec (S.corner h ≡ u) → S.corner h ≡ Out.corner h
        go (yes i) = absurd (n (corner_is S u w h l ∙ rename_hit u w _ i))
        go (no d) = sym (corner_is S u w h l ∙ rename_miss u w _ d)

    -- one that was not u is the same afterwards
    corner_stays : (h : ℕ) → Out.alive (h / 3) ≡ true → S.corner h ≢ u → Out.corner h ≡ S.corner h
    corner_stays h l n = corner_is S u w h l ∙ rename_miss u w _ n

    next_live : (X : Surface) (h : ℕ) → X.alive (h / 3) ≡ true → X.alive (next h / 3) ≡ true
    next_live X h l = ap X.alive (next_triangle h) ∙ l

    -- a candidate that is live after the collapse
    module _ (h : ℕ) (l : Out.alive (h / 3) ≡ true) (k : Option (Key C)) (R : Before h k) where
      module _ (p : is_some (get_or strong (Out.corner h) None) ≡ false) (q : is_some (get_or strong (Out.corner (next h)) None) ≡ false) where
        first_was : S.corner h ≡ Out.corner h
        first_was = corner_was h l (not_w p)

        second_was : S.corner (next h) ≡ Out.corner (next h)
        second_was = corner_was (next h) (next_live Out h l) (not_w q)

        unmarked_was : Marked strong (S.corner h) ⊎ Marked strong (S.corner (next h)) → ⊥
        unmarked_was (inl i) = both_ways _ p (subst (Marked strong) first_was i)
        unmarked_was (inr i) = both_ways _ q (subst (Marked strong) second_was i)

        opened_was : Marked weak (S.corner h) ⊎ Marked weak (S.corner (next h)) → Marked weak (Out.corner h) ⊎ Marked weak (Out.corner (next h))
        opened_was (inl i) = inl (subst (Marked weak) first_was i)
        opened_was (inr i) = inr (subst (Marked weak) second_was i)

        far_after : (Beside S u (Out.corner h) → ⊥) → (Beside S u (Out.corner (next h)) → ⊥) → After h k
        far_after fx fy =
            let t = tri_at Out h l in
            let Q = star_before K s L _ fx in
            let V = star_before K s L _ fy in
            elim R [
              | inl g ↦ inl (local S Out K L acc acc' (Q.back _ _ _ t) Q V (B _ (not_w p)) (B _ (not_w q)) k g)
              | inr (inl (v, g)) ↦ absurd (unmarked_was g)
              | inr (inr (i, (v, g))) ↦ inr (inr (i, (l, opened_was g)))
            ]

        near_after : blind ≡ true → Marked weak (Out.corner h) ⊎ Marked weak (Out.corner (next h)) → (r : Option (Key C)) → k ≡ r → After h r
        near_after b o None i = inr (inr (refl, (l, o)))
        near_after b o (Some r) i = elim (subst (Before h) i R) [
          | inl (v, F) ↦ inl (l, key_unseen b S Out acc acc' _ _ _ _ first_was second_was (B _ (not_w p)) (B _ (not_w q)) r F)
          | inr (inl (v, g)) ↦ absurd (unmarked_was g)
          | inr (inr (j, (v, g))) ↦ absurd (none_some j)
        ]

      live_after : After h k
      live_after = go (told (Out.corner h)) (told (Out.corner (next h))) (beside_told S T low u (Out.corner h)) (beside_told S T low u (Out.corner (next h)))
        where
          go : Marked strong (Out.corner h) ⊎ (is_some (get_or strong (Out.corner h) None) ≡ false) → Marked strong (Out.corner (next h)) ⊎ (is_some (get_or strong (Out.corner (next h)) None) ≡ false) →
              Dec (Beside S u (Out.corner h)) → Dec (Beside S u (Out.corner (next h))) → After h k
          go (inl p) q a b = inr (inl (l, inl p))
          go (inr p) (inl q) a b = inr (inl (l, inr q))
          go (inr p) (inr q) (yes a) b = let (f, o) = opens p a in near_after p q f (inl o) k refl
          go (inr p) (inr q) (no a) (yes b) = let (f, o) = opens q b in near_after p q f (inr o) k refl
          go (inr p) (inr q) (no a) (no b) = far_after p q a b

    -- one that is live before it
    module _ (h : ℕ) (l : S.alive (h / 3) ≡ true) (k : Option (Key C)) (R : After h k) where
      module _ (p : is_some (get_or strong (S.corner h) None) ≡ false) (q : is_some (get_or strong (S.corner (next h)) None) ≡ false) where
        first_stays : Out.alive (h / 3) ≡ true → Out.corner h ≡ S.corner h
        first_stays v = corner_stays h v (not_u p)

        second_stays : Out.alive (h / 3) ≡ true → Out.corner (next h) ≡ S.corner (next h)
        second_stays v = corner_stays (next h) (next_live Out h v) (not_u q)

        unmarked_stays : Out.alive (h / 3) ≡ true → Marked strong (Out.corner h) ⊎ Marked strong (Out.corner (next h)) → ⊥
        unmarked_stays v (inl i) = both_ways _ p (subst (Marked strong) (first_stays v) i)
        unmarked_stays v (inr i) = both_ways _ q (subst (Marked strong) (second_stays v) i)

        opened_stays : Out.alive (h / 3) ≡ true → Marked weak (Out.corner h) ⊎ Marked weak (Out.corner (next h)) → Marked weak (S.corner h) ⊎ Marked weak (S.corner (next h))
        opened_stays v (inl i) = inl (subst (Marked weak) (first_stays v) i)
        opened_stays v (inr i) = inr (subst (Marked weak) (second_stays v) i)

        far_before : (Beside S u (S.corner h) → ⊥) → (Beside S u (S.corner (next h)) → ⊥) → Before h k
        far_before fx fy =
            let t = tri_at S h l in
            let Q = star_before K s L _ fx in
            let V = star_before K s L _ fy in
            elim R [
              | inl g ↦ inl (local Out S L K acc' acc (Q.there _ _ _ t) (same_star_swap Q) (same_star_swap V) (sym (B _ (not_w p))) (sym (B _ (not_w q))) k g)
              | inr (inl (v, g)) ↦ absurd (unmarked_stays v g)
              | inr (inr (i, (v, g))) ↦ inr (inr (i, (l, opened_stays v g)))
            ]

        near_before : blind ≡ true → Marked weak (S.corner h) ⊎ Marked weak (S.corner (next h)) → (r : Option (Key C)) → k ≡ r → Before h r
        near_before b o None i = inr (inr (refl, (l, o)))
        near_before b o (Some r) i = elim (subst (After h) i R) [
          | inl (v, F) ↦ inl (l, key_unseen b Out S acc' acc _ _ _ _ (first_stays v) (second_stays v) (sym (B _ (not_w p))) (sym (B _ (not_w q))) r F)
          | inr (inl (v, g)) ↦ absurd (unmarked_stays v g)
          | inr (inr (j, (v, g))) ↦ absurd (none_some j)
        ]

      live_before : Before h k
      live_before = go (told (S.corner h)) (told (S.corner (next h))) (beside_told S T low u (S.corner h)) (beside_told S T low u (S.corner (next h)))
        where
          go : Marked strong (S.corner h) ⊎ (is_some (get_or strong (S.corner h) None) ≡ false) → Marked strong (S.corner (next h)) ⊎ (is_some (get_or strong (S.corner (next h)) None) ≡ false) →
              Dec (Beside S u (S.corner h)) → Dec (Beside S u (S.corner (next h))) → Before h k
          go (inl p) q a b = inr (inl (l, inl p))
          go (inr p) (inl q) a b = inr (inl (l, inr q))
          go (inr p) (inr q) (yes a) b = let (f, o) = opens p a in near_before p q f (inl o) k refl
          go (inr p) (inr q) (no a) (yes b) = let (f, o) = opens q b in near_before p q f (inr o) k refl
          go (inr p) (inr q) (no a) (no b) = far_before p q a b

    -- what is dead before and after has no key
    dead_or : (X Y : Surface) (one two : List E) (h : ℕ) → X.alive (h / 3) ≡ false → Y.alive (h / 3) ≡ false → (k : Option (Key C)) → KeyOr m X P z one strong weak h k → KeyOr m Y P z two strong weak h k
    dead_or X Y one two h d e k (inl g) = inl (dead X Y one two h d e k g)
    dead_or X Y one two h d e k (inr (inl (v, g))) = absurd (both_ways _ d v)
    dead_or X Y one two h d e k (inr (inr (i, (v, g)))) = absurd (both_ways _ d v)

    module _ (keys : List (Option (Key C))) (long : 3 * T ≤ length keys) where
      -- from before the collapse to after it, once the two dead triangles are mended
      pub keyed_after : (after : List (Option (Key C))) {e f a b : ℕ} → Tri S e u w a → Tri S f w u b → KeyedOr m S P z acc strong weak T keys →
          Mended m Out P z acc' (λ h. (h / 3 ≡ e / 3) ⊎ (h / 3 ≡ f / 3)) keys after → KeyedOr m Out P z acc' strong weak T after
      keyed_after after {e} {f} te tf R M h l =
          elim (M.either h) [ inl k ↦ inl k | inr i ↦ go i (cases_Bool (Out.alive (h / 3))) (cases_Bool (S.alive (h / 3))) ]
        where
          within : h < length after
          within = let n = M.long in omega arith

          was : get_or after h None ≡ get_or keys h None → Before h (get_or after h None)
          was i = subst (Before h) (sym i) (R h l)

          go : get_or after h None ≡ get_or keys h None → (Out.alive (h / 3) ≡ true) ⊎ (Out.alive (h / 3) ≡ false) → (S.alive (h / 3) ≡ true) ⊎ (S.alive (h / 3) ≡ false) → After h (get_or after h None)
          go i (inl v) q = live_after h v _ (was i)
          go i (inr d) (inl v) = inl (elim (died K s L te tf (h / 3) v d) [ inl j ↦ M.right h within (inl j) | inr j ↦ M.right h within (inr j) ])
          go i (inr d) (inr v) = dead_or S Out acc acc' h v d _ (was i)

      -- and back
      pub keyed_before : KeyedOr m Out P z acc' strong weak T keys → KeyedOr m S P z acc strong weak T keys
      keyed_before R h l = go (cases_Bool (S.alive (h / 3))) (cases_Bool (Out.alive (h / 3)))
        where
          go : (S.alive (h / 3) ≡ true) ⊎ (S.alive (h / 3) ≡ false) → (Out.alive (h / 3) ≡ true) ⊎ (Out.alive (h / 3) ≡ false) → Before h (get_or keys h None)
          go (inl v) q = live_before h v _ (R h l)
          go (inr d) (inl v) = absurd (both_ways _ d (alive_parts S u w (h / 3) v).0)
          go (inr d) (inr e) = dead_or Out S acc' acc h e d _ (R h l)
