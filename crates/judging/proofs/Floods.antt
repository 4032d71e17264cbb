-- Flooding a surface from vertex to vertex along its sides.
use Rattle.std.proofs.Common.{◌≡◌, ℕ, zero, suc, ◌+◌, ◌%◌, ◌<◌, ◌≤◌, Bool, true, false, cond, ◌⊎◌, List, [], ◌∷◌, ◌++◌, length, get_or, set, replicate, Some, None, Option, sym, refl, ap, ◌∙◌, subst, inl, inr, arith}
use Rattle.std.proofs.lemmas.List.{length-set, length_push, length-replicate, get_or-replicate, get_or_past, get_or_push, get_or_append_left, get_or-set_same, get_or-set_other}
use Rattle.std.proofs.lemmas.Bool.{cases_lt, cases_eq, both_ways}
use Rattle.surface.specs.Surface.{next}
use Rattle.surface.specs.Euler.{count}
use Rattle.surface.specs.Read.{whole}
use Rattle.surface.specs.Pieces.{Chain, Pieces, end, along}
use Rattle.surface.proofs.Chains.{chain_from, chain_to, chain_then, chain_back}
use Rattle.surface.proofs.Tris.{next_cases}
use Rattle.surface.proofs.Counting.{count_less}
use Rattle.gathering.specs.Limits.{Numbered}
use Rattle.judging.specs.Chains.{LastBelow, Chained}
use Rattle.judging.specs.Floods.{Marked, marked, Waits, Leads, Level, Settled, Grown, Spread, Walked, Flooded, Flooding, Found}
use Rattle.judging.proofs.Whole.{whole_tri, tri_below, whole_present, present_below}

-- what holds of two values holds of their equals
pub carried : {A B : Type 0} {a a' : A} {b b' : B} (P : A → B → Type 0) → a' ≡ a → b' ≡ b → P a b → P a' b'
carried {a' = a'} {b = b} P e f p = subst (λ y. P a' y) (sym f) (subst (λ x. P x b) (sym e) p)

-- ---- marks

pub count_most : (f : ℕ → Bool) (n : ℕ) → count f n ≤ n
unfolding count
count_most f zero = omega arith
count_most f (suc n) = go (f n) (count_most f n)
  where
    go : (b : Bool) → count f n ≤ n → cond b 1 0 + count f n ≤ suc n
    go true l = omega arith
    go false l = omega arith

pub mark_same : (s : List Bool) (y : ℕ) → y < length s → Marked (set s y true) y
mark_same s y l = get_or-set_same s y true false l

pub mark_kept : (s : List Bool) (y v : ℕ) → y < length s → Marked s v → Marked (set s y true) v
mark_kept s y v l m = go (cases_eq v y)
  where
    go : (v ≡ y) ⊎ (v ≡ y → ⊥) → Marked (set s y true) v
    go (inl e) = subst (λ (w : ℕ). Marked (set s y true) w) (sym e) (mark_same s y l)
    go (inr d) = get_or-set_other s y v true false d ∙ m

pub mark_old : (s : List Bool) (y v : ℕ) → Marked (set s y true) v → Marked s v ⊎ (v ≡ y)
mark_old s y v m = go (cases_eq v y)
  where
    go : (v ≡ y) ⊎ (v ≡ y → ⊥) → Marked s v ⊎ (v ≡ y)
    go (inl e) = inr e
    go (inr d) = inl (sym (get_or-set_other s y v true false d) ∙ m)

pub mark_below : (s : List Bool) (v : ℕ) → Marked s v → v < length s
mark_below s v m = go (cases_lt v (length s))
  where
    go : (v < length s) ⊎ (length s ≤ v) → v < length s
    go (inl l) = l
    go (inr l) = absurd (both_ways _ (get_or_past s v false l) m)

pub marked_more : (s : List Bool) (n y : ℕ) → length s ≡ n → y < n → get_or s y false ≡ false → marked s n + 1 ≡ marked (set s y true) n
marked_more s n y e l u =
    count_less (λ v. get_or (set s y true) v false) (λ v. get_or s v false) y n
    (get_or-set_same s y true false (omega arith)) u (λ t d. get_or-set_other s y t true false d) l

-- ---- the list

pub waits_more : {k v : ℕ} (q : List ℕ) (y : ℕ) → Waits q k v → Waits (q ++ y ∷ []) k v
waits_more q y (i, k, l, e) = (i, k, omega (arith, length_push q y), get_or_append_left q (y ∷ []) 0 i l ∙ e)

pub waits_last : (q : List ℕ) (k y : ℕ) → k ≤ length q → Waits (q ++ y ∷ []) k y
waits_last q k y l = (length q, l, omega (arith, length_push q y), get_or_push q y 0 (length q) refl)

module _ {n : ℕ} {s : List Bool} {q : List ℕ} (L : Level n s q) where
  pub level_most : length q ≤ n
  level_most = omega (arith, L.level, count_most (λ v. get_or s v false) n)

  -- an unseen vertex has room in the list
  pub level_room : (y : ℕ) → y < n → get_or s y false ≡ false → length q < n
  level_room y l u = omega (arith, L.level, marked_more s n y L.flags l u, count_most (λ v. get_or (set s y true) v false) n)

  pub level_more : (y : ℕ) → y < n → get_or s y false ≡ false → Level n (set s y true) (q ++ y ∷ [])
  level_more y l u =
      record {
        flags = length-set s y true ∙ L.flags;
        level = omega (arith, length_push q y, L.level, marked_more s n y L.flags l u);
        below = λ i k. go i k (cases_lt i (length q));
      }
    where
      go : (i : ℕ) → i < length (q ++ y ∷ []) → (i < length q) ⊎ (length q ≤ i) → get_or (q ++ y ∷ []) i 0 < n
      go i k (inl m) = rw (get_or_append_left q (y ∷ []) 0 i m) (L.below i m)
      go i k (inr m) = let e : length q ≡ i = omega (arith, length_push q y) in rw (get_or_push q y 0 i e) l

pub no_entries : (xs : List ℕ) → length xs ≡ 0 → xs ≡ []
no_entries [] e = refl
no_entries (x ∷ xs) e = absurd (omega arith)

pub level_none : (n : ℕ) → Level n (replicate n false) []
level_none n = record { flags = length-replicate n false; level = omega arith; below = λ i l. absurd (omega arith) }

-- the last one leaves the list
module _ (n x : ℕ) (s : List Bool) (q q' : List ℕ) (e : q' ≡ q ++ x ∷ []) (L : Level n s q') where
  many : length q + 1 ≡ length q'
  many = omega (arith, ap length e, length_push q x)

  pub level_popped : Level n s q
  level_popped =
      record {
        flags = L.flags;
        level = omega (arith, L.level, many);
        below = λ i l. subst (λ (y : ℕ). y < n) (ap (λ (p : List ℕ). get_or p i 0) e ∙ get_or_append_left q (x ∷ []) 0 i l) (L.below i (omega (arith, many)));
      }

  pub popped_below : x < n
  popped_below = subst (λ (y : ℕ). y < n) (ap (λ (p : List ℕ). get_or p (length q) 0) e ∙ get_or_push q x 0 (length q) refl) (L.below (length q) (omega (arith, many)))

-- ---- spreading from one vertex

module _ {cs : List ℕ} {n x : ℕ} where
  pub grown_none : (s : List Bool) (q : List ℕ) → Grown cs n x s q s q
  grown_none s q = record { kept = λ v m. m; longer = omega arith; as_many = refl; same = λ i l. refl; listed = λ v m. inl m; led = λ i k l. absurd (omega arith) }

  pub grown_more : {s s' : List Bool} {q q' : List ℕ} → Grown cs n x s q s' q' → (y : ℕ) → y < length s' → Leads cs x y →
      marked s' n + 1 ≡ marked (set s' y true) n → Grown cs n x s q (set s' y true) (q' ++ y ∷ [])
  grown_more {s} {s'} {q} {q'} G y l d more =
      record {
        kept = λ v m. mark_kept s' y v l (G.kept v m);
        longer = omega (arith, G.longer, length_push q' y);
        as_many = omega (arith, G.as_many, more, length_push q' y);
        same = λ i k. get_or_append_left q' (y ∷ []) 0 i (omega (arith, G.longer)) ∙ G.same i k;
        listed = λ v m. listed v (mark_old s' y v m);
        led = λ i k m. led i k m (cases_lt i (length q'));
      }
    where
      listed : (v : ℕ) → Marked s' v ⊎ (v ≡ y) → Marked s v ⊎ Waits (q' ++ y ∷ []) (length q) v
      listed v (inl m) = elim (G.listed v m) [ inl o ↦ inl o | inr w ↦ inr (waits_more q' y w) ]
      listed v (inr e) = inr (subst (λ (w : ℕ). Waits (q' ++ y ∷ []) (length q) w) (sym e) (waits_last q' (length q) y G.longer))

      led : (i : ℕ) → length q ≤ i → i < length (q' ++ y ∷ []) → (i < length q') ⊎ (length q' ≤ i) → Leads cs x (get_or (q' ++ y ∷ []) i 0)
      led i k m (inl o) = rw (get_or_append_left q' (y ∷ []) 0 i o) (G.led i k o)
      led i k m (inr o) = let e : length q' ≡ i = omega (arith, length_push q' y) in rw (get_or_push q' y 0 i e) d

module _ {cs : List ℕ} {x : ℕ} where
  pub walked_none : {n : ℕ} {last link : List (Option ℕ)} → Chained cs n last link → x < n → (s : List Bool) → Walked cs x (get_or last x None) s
  walked_none C l s = record { done = length cs; within = omega arith; last = C.ends x l; past = λ h k m. absurd (omega arith) }

  pub walked_all : {at : Option ℕ} {s : List Bool} → Walked cs x at s → at ≡ None → Spread cs x s
  walked_all {at} {s} W a h l e = go (subst (λ (o : Option ℕ). LastBelow cs x W.done o) a W.last) (cases_lt h W.done)
    where
      go : LastBelow cs x W.done None → (h < W.done) ⊎ (W.done ≤ h) → Marked s (get_or cs (next h) 0)
      go k (inl m) = absurd (k h m e)
      go k (inr m) = W.past h m l e

  pub walked_more : {n h : ℕ} {last link : List (Option ℕ)} {s s' : List Bool} → Chained cs n last link → Walked cs x (Some h) s →
      ((v : ℕ) → Marked s v → Marked s' v) → Marked s' (get_or cs (next h) 0) → Walked cs x (get_or link h None) s'
  walked_more {h = h} {link = link} {s = s} {s' = s'} C W K m =
      record {
        done = h;
        within = omega (arith, W.last.0, W.within);
        last = subst (λ (v : ℕ). LastBelow cs v h (get_or link h None)) W.last.1 (C.links h (omega (arith, W.last.0, W.within)));
        past = λ g k l e. go g k l e (cases_eq g h) (cases_lt g W.done);
      }
    where
      go : (g : ℕ) → h ≤ g → g < length cs → get_or cs g 0 ≡ x → (g ≡ h) ⊎ (g ≡ h → ⊥) → (g < W.done) ⊎ (W.done ≤ g) → Marked s' (get_or cs (next g) 0)
      go g k l e (inl i) _ = subst (λ (j : ℕ). Marked s' (get_or cs (next j) 0)) (sym i) m
      go g k l e (inr i) (inl j) = absurd (W.last.2 g (omega arith) j e)
      go g k l e (inr i) (inr j) = K _ (W.past g j l e)

  -- the walk is at a side from x, whose end is y
  pub walked_at : {n h r : ℕ} {at : Option ℕ} {s : List Bool} → length cs % 3 ≡ 0 → Numbered cs n → Walked cs x at s → at ≡ Some h → r ≡ next h →
      (r < length cs) × (get_or cs r 0 < n) × Leads cs x (get_or cs r 0)
  walked_at {n} {h} {r} {at} {s} m3 N W a e =
      let V : Walked cs x (Some h) s = subst (λ (o : Option ℕ). Walked cs x o s) a W in
      let l : h < length cs = omega (arith, V.last.0, V.within) in
      let k : r < length cs = omega (arith, next_cases h) in
      (k, N r k, (h, l, V.last.1, ap (λ (g : ℕ). get_or cs g 0) (sym e)))

  -- one side on: its end was seen, or is marked and queued
  pub walked_seen : {n h r : ℕ} {last link : List (Option ℕ)} {at : Option ℕ} {s : List Bool} → Chained cs n last link → Walked cs x at s → at ≡ Some h → r ≡ next h →
      Marked s (get_or cs r 0) → Walked cs x (get_or link h None) s
  walked_seen {s = s} C W a e m =
      walked_more C (subst (λ (o : Option ℕ). Walked cs x o s) a W) (λ v o. o) (subst (λ (g : ℕ). Marked s (get_or cs g 0)) e m)

  pub walked_unseen : {n h r : ℕ} {last link : List (Option ℕ)} {at : Option ℕ} {s : List Bool} → Chained cs n last link → Walked cs x at s → at ≡ Some h → r ≡ next h →
      get_or cs r 0 < length s → Walked cs x (get_or link h None) (set s (get_or cs r 0) true)
  walked_unseen {r = r} {s = s} C W a e l =
      walked_more C (subst (λ (o : Option ℕ). Walked cs x o s) a W) (λ v o. mark_kept s (get_or cs r 0) v l o)
      (subst (λ (g : ℕ). Marked (set s (get_or cs r 0) true) (get_or cs g 0)) e (mark_same s (get_or cs r 0) l))

-- ---- flooding from one vertex

module _ {cs : List ℕ} {n v : ℕ} where
  pub flooding_none : (s : List Bool) (q : List ℕ) → q ≡ [] → v < length s → Settled cs s → Flooding cs n v (set s v true) (set s v true) (q ++ v ∷ [])
  flooding_none s q none l Z =
      record {
        so_far = record { kept = λ y m. m; root = mark_same s v l; reached = λ y m. inl m };
        chained = λ i m. let e : length q ≡ i = omega (arith, length_push q v, ap length none) in chain_to (sym (get_or_push q v 0 i e)) end;
        pending = λ h k m. go h k (mark_old s v _ m);
      }
    where
      go : (h : ℕ) → h < length cs → Marked s (get_or cs h 0) ⊎ (get_or cs h 0 ≡ v) → Marked (set s v true) (get_or cs (next h) 0) ⊎ Waits (q ++ v ∷ []) 0 (get_or cs h 0)
      go h k (inl m) = inl (mark_kept s v _ l (Z h k m))
      go h k (inr e) = inr (subst (λ (w : ℕ). Waits (q ++ v ∷ []) 0 w) (sym e) (waits_last q 0 v (omega arith)))

  -- after the spread from x, which stood last in the list
  pub flooding_more : {x : ℕ} {s s₁ s₂ : List Bool} {q₀ q₁ q₂ : List ℕ} → length cs % 3 ≡ 0 → q₁ ≡ q₀ ++ x ∷ [] → Flooding cs n v s s₁ q₁ → Grown cs n x s₁ q₀ s₂ q₂ →
      Spread cs x s₂ → Flooding cs n v s s₂ q₂
  flooding_more {x} {s} {s₁} {s₂} {q₀} {q₁} {q₂} m3 is F G P =
      record {
        so_far = record { kept = λ y m. G.kept y (F.so_far.kept y m); root = G.kept v F.so_far.root; reached = λ y m. reached y (G.listed y m) };
        chained = λ i m. chained i m (cases_lt i (length q₀));
        pending = λ h k m. pending h k (G.listed _ m);
      }
    where
      many : length q₀ + 1 ≡ length q₁
      many = omega (arith, ap length is, length_push q₀ x)

      old : (i : ℕ) → i < length q₀ → get_or q₁ i 0 ≡ get_or q₀ i 0
      old i l = ap (λ (q : List ℕ). get_or q i 0) is ∙ get_or_append_left q₀ (x ∷ []) 0 i l

      top : get_or q₁ (length q₀) 0 ≡ x
      top = ap (λ (q : List ℕ). get_or q (length q₀) 0) is ∙ get_or_push q₀ x 0 (length q₀) refl

      reach : (y : ℕ) → Leads cs x y → Chain (whole cs n) v y
      reach y (h, k, e, f) = chain_then (chain_to top (F.chained (length q₀) (omega (arith, many)))) (chain_from e (chain_to f (along (whole_tri cs n h m3 k) end)))

      chained : (i : ℕ) → i < length q₂ → (i < length q₀) ⊎ (length q₀ ≤ i) → Chain (whole cs n) v (get_or q₂ i 0)
      chained i m (inl o) = chain_to (sym (G.same i o ∙ sym (old i o))) (F.chained i (omega (arith, many)))
      chained i m (inr o) = reach _ (G.led i o m)

      reached : (y : ℕ) → Marked s₁ y ⊎ Waits q₂ (length q₀) y → Marked s y ⊎ Chain (whole cs n) v y
      reached y (inl m) = F.so_far.reached y m
      reached y (inr (i, k, m, e)) = inr (chain_to e (reach _ (G.led i k m)))

      still : (h : ℕ) → h < length cs → Waits q₁ 0 (get_or cs h 0) → Marked s₂ (get_or cs (next h) 0) ⊎ Waits q₂ 0 (get_or cs h 0)
      still h k (i, a, b, e) = go (cases_lt i (length q₀))
        where
          go : (i < length q₀) ⊎ (length q₀ ≤ i) → Marked s₂ (get_or cs (next h) 0) ⊎ Waits q₂ 0 (get_or cs h 0)
          go (inl l) = inr (i, omega arith, omega (arith, G.longer), G.same i l ∙ sym (old i l) ∙ e)
          go (inr l) = let j : i ≡ length q₀ = omega (arith, many) in inl (P h k (sym e ∙ ap (λ (p : ℕ). get_or q₁ p 0) j ∙ top))

      pending : (h : ℕ) → h < length cs → Marked s₁ (get_or cs h 0) ⊎ Waits q₂ (length q₀) (get_or cs h 0) → Marked s₂ (get_or cs (next h) 0) ⊎ Waits q₂ 0 (get_or cs h 0)
      pending h k (inl m) = elim (F.pending h k m) [ inl o ↦ inl (G.kept _ o) | inr w ↦ still h k w ]
      pending h k (inr (i, a, b, e)) = inr (i, omega arith, b, e)

  pub flooding_settled : {s s' : List Bool} {q : List ℕ} → q ≡ [] → Flooding cs n v s s' q → Settled cs s'
  flooding_settled none F h k m = elim (F.pending h k m) [ inl o ↦ o | inr (i, a, b, e) ↦ absurd (omega (arith, ap length none)) ]

  pub flooding_all : {s s' : List Bool} {q : List ℕ} → v < length s → Flooding cs n v (set s v true) s' q → Flooded cs n v s s'
  flooding_all {s = s} {s' = s'} l F =
      record { kept = λ y m. F.so_far.kept y (mark_kept s v y l m); root = F.so_far.root; reached = λ y m. go y (F.so_far.reached y m) }
    where
      old : (y : ℕ) → Marked s y ⊎ (y ≡ v) → Marked s y ⊎ Chain (whole cs n) v y
      old y (inl o) = inl o
      old y (inr e) = inr (chain_to (sym e) end)

      go : (y : ℕ) → Marked (set s v true) y ⊎ Chain (whole cs n) v y → Marked s y ⊎ Chain (whole cs n) v y
      go y (inl m) = old y (mark_old s v y m)
      go y (inr c) = inr c

-- ---- finding all pieces

module _ (cs : List ℕ) (n : ℕ) where
  -- where sides lead only from seen to seen vertices, so do chains
  pub chain_marked : (s : List Bool) (m3 : length cs % 3 ≡ 0) (Z : Settled cs s) {x y : ℕ} → Chain (whole cs n) x y → Marked s x → Marked s y
  chain_marked s m3 Z end m = m
  chain_marked s m3 Z (along t c) m =
      let (l, a, b, _) = tri_below cs n m3 t in
      chain_marked s m3 Z c (subst (λ (v : ℕ). Marked s v) b (Z _ l (subst (λ (v : ℕ). Marked s v) (sym a) m)))

  none_marked : (v : ℕ) → Marked (replicate n false) v → ⊥
  none_marked v m =
      let l : v < length (replicate n false) = mark_below (replicate n false) v m in
      both_ways _ (get_or-replicate n v false false (omega (arith, length-replicate n false))) m

  pub settled_none : Settled cs (replicate n false)
  settled_none h l m = absurd (none_marked (get_or cs h 0) m)

  pub found_none : Found cs n 0 0 (replicate n false)
  found_none =
      record {
        roots = [];
        many = refl;
        few = omega arith;
        known = λ j l. absurd (omega arith);
        marks = λ j l. absurd (omega arith);
        apart = λ i j l m c. absurd (omega arith);
        reached = λ v m. absurd (none_marked v m);
        past = λ v l. absurd (omega arith);
      }

  pub found_seen : {i k : ℕ} {s : List Bool} → Found cs n i k s → Marked s i → Found cs n (i + 1) k s
  found_seen {i} {k} {s} F m =
      record {
        roots = F.roots;
        many = F.many;
        few = omega (arith, F.few);
        known = F.known;
        marks = F.marks;
        apart = F.apart;
        reached = F.reached;
        past = λ v l. go v l (cases_eq v i);
      }
    where
      go : (v : ℕ) → v < i + 1 → (v ≡ i) ⊎ (v ≡ i → ⊥) → Marked s v
      go v l (inl e) = subst (λ (w : ℕ). Marked s w) (sym e) m
      go v l (inr d) = F.past v (omega arith)

  pub found_more : {i k : ℕ} {s s' : List Bool} → length cs % 3 ≡ 0 → i < n → Found cs n i k s → Settled cs s → get_or s i false ≡ false → Flooded cs n i s s' → Found cs n (i + 1) (k + 1) s'
  found_more {i} {k} {s} {s'} m3 l F Z u D =
      record {
        roots = R;
        many = length_push F.roots i ∙ ap (λ (m : ℕ). m + 1) F.many;
        few = omega (arith, F.few);
        known = λ j m. each (λ v. v < n) F.known l j m;
        marks = λ j m. each (λ v. Marked s' v) (λ j o. D.kept _ (F.marks j o)) D.root j m;
        apart = λ a b p q c. apart a b p q c (cases_lt a k) (cases_lt b k);
        reached = λ v m. reached v (D.reached v m);
        past = λ v m. past v m (cases_eq v i);
      }
    where
      R : List ℕ
      R = F.roots ++ i ∷ []

      old : (j : ℕ) → j < k → get_or R j 0 ≡ get_or F.roots j 0
      old j m = get_or_append_left F.roots (i ∷ []) 0 j (omega (arith, F.many))

      new : (j : ℕ) → k ≡ j → get_or R j 0 ≡ i
      new j e = get_or_push F.roots i 0 j (F.many ∙ e)

      each : (P : ℕ → Type 0) → ((j : ℕ) → j < k → P (get_or F.roots j 0)) → P i → (j : ℕ) → j < k + 1 → P (get_or R j 0)
      each P f p j m = go (cases_lt j k)
        where
          go : (j < k) ⊎ (k ≤ j) → P (get_or R j 0)
          go (inl o) = subst P (sym (old j o)) (f j o)
          go (inr o) = subst P (sym (new j (omega arith))) p

      -- no chain leads from an old root to i
      never : (j : ℕ) → j < k → Chain (whole cs n) (get_or F.roots j 0) i → ⊥
      never j m c = both_ways _ u (chain_marked s m3 Z c (F.marks j m))

      apart : (a b : ℕ) → a < k + 1 → b < k + 1 → Chain (whole cs n) (get_or R a 0) (get_or R b 0) → (a < k) ⊎ (k ≤ a) → (b < k) ⊎ (k ≤ b) → a ≡ b
      apart a b p q c (inl o) (inl w) = F.apart a b o w (chain_from (old a o) (chain_to (old b w) c))
      apart a b p q c (inl o) (inr w) = absurd (never a o (chain_from (old a o) (chain_to (new b (omega arith)) c)))
      apart a b p q c (inr o) (inl w) = absurd (never b w (chain_back (chain_from (new a (omega arith)) (chain_to (old b w) c))))
      apart a b p q c (inr o) (inr w) = omega arith

      reached : (v : ℕ) → Marked s v ⊎ Chain (whole cs n) i v → (j : ℕ) × (j < k + 1) × Chain (whole cs n) v (get_or R j 0)
      reached v (inl m) = let (j, o, c) = F.reached v m in (j, omega arith, chain_to (sym (old j o)) c)
      reached v (inr c) = (k, omega arith, chain_to (sym (new k refl)) (chain_back c))

      past : (v : ℕ) → v < i + 1 → (v ≡ i) ⊎ (v ≡ i → ⊥) → Marked s' v
      past v m (inl e) = subst (λ (w : ℕ). Marked s' w) (sym e) D.root
      past v m (inr d) = D.kept v (F.past v (omega arith))

  pub found_all : {i k : ℕ} {s : List Bool} → n ≤ i → Found cs n i k s → Pieces (whole cs n) k
  found_all l F =
      record {
        roots = F.roots;
        many = F.many;
        live = λ j m. whole_present cs n _ (F.known j m);
        apart = F.apart;
        reached = λ v p. F.reached v (F.past v (omega (arith, present_below cs n v p)));
      }
