-- A closed surface by ways round is one by rings.
use Rattle.std.proofs.Common.{◌≡◌, ℕ, zero, suc, ◌-◌, ◌<◌, ◌≤◌, true, false, ◌⊎◌, List, [], ◌∷◌, length, get_or, sym, refl, ap, ◌∙◌, subst, inl, inr, arith}
use Rattle.std.proofs.lemmas.Bool.{cases_Bool, both_ways}
use Rattle.surface.specs.Surface.{Surface, next, Tri}
use Rattle.surface.specs.Ring.{Turn, Ringed}
use Rattle.surface.specs.Closed.{Closed}
use Rattle.surface.proofs.Tris.{spin, spin2, moved, same_to, same_third}
use Rattle.surface.proofs.Sealed.{Round, here, turn, Sealed}
use Rattle.surface.proofs.Among.{among, among_cases, among_none, among_head, among_tail, among_place, place_among}

-- from turn to turn, no half-edge twice
data Path (S : Surface) (v : ℕ) : ℕ → List ℕ → ℕ → Type 0 where
  one : {h : ℕ} → Path S v h (h ∷ []) h
  more : {h g k : ℕ} {l : List ℕ} → Turn S v h g → among h l ≡ false → Path S v g l k → Path S v h (h ∷ l) k

module _ {S : Surface} {v : ℕ} where
  cut : {h g k : ℕ} {l : List ℕ} → Path S v g l k → among h l ≡ true → (l' : List ℕ) × Path S v h l' k
  cut {h} (one {h = g}) m = elim (among_cases h g [] m) [ inl i ↦ (g ∷ [], subst (λ n. Path S v n (g ∷ []) g) (sym i) one) | inr i ↦ absurd (among_none h i) ]
  cut {h} {k = k} (more {h = g} {l = l} t n p) m = go (among_cases h g l m) (λ i. cut p i)
    where
      go : (h ≡ g) ⊎ (among h l ≡ true) → (among h l ≡ true → (l' : List ℕ) × Path S v h l' k) → (l' : List ℕ) × Path S v h l' k
      go (inl i) f = (g ∷ l, subst (λ n. Path S v n (g ∷ l) k) (sym i) (more t n p))
      go (inr i) f = f i

  simple : {h k : ℕ} → Round S v h k → (l : List ℕ) × Path S v h l k
  simple (here {h = h}) = (h ∷ [], one)
  simple (turn {h = h} {g = g} {k = k} {a = a} {b = b} {c = c} s t r) = let (l, p) = simple r in go l p (cases_Bool (among h l))
    where
      go : (l : List ℕ) → Path S v g l k → (among h l ≡ true) ⊎ (among h l ≡ false) → (l : List ℕ) × Path S v h l k
      go l p (inl m) = cut p m
      go l p (inr m) = (h ∷ l, more (a, b, c, s, t) m p)

  path_head : {h k : ℕ} {l : List ℕ} → Path S v h l k → get_or l 0 0 ≡ h
  path_head one = refl
  path_head (more t n p) = refl

  path_some : {h k : ℕ} {l : List ℕ} → Path S v h l k → 0 < length l
  path_some one = omega arith
  path_some (more t n p) = omega arith

  path_last : {h k : ℕ} {l : List ℕ} → Path S v h l k → get_or l (length l - 1) 0 ≡ k
  path_last one = refl
  path_last (more {l = l} t n p) = let q = path_some p in let e : suc (length l) - 1 ≡ suc (length l - 1) = omega arith in rw e (path_last p)

  path_turns : {h k : ℕ} {l : List ℕ} → Path S v h l k → (i : ℕ) → suc i < length l → Turn S v (get_or l i 0) (get_or l (suc i) 0)
  path_turns one i q = absurd (omega arith)
  path_turns (more {h = h} {l = l} t n p) zero q = subst (λ z. Turn S v h z) (sym (path_head p)) t
  path_turns (more t n p) (suc i) q = path_turns p i (omega arith)

  path_distinct : {h k : ℕ} {l : List ℕ} → Path S v h l k → (i j : ℕ) → i < length l → j < length l → get_or l i 0 ≡ get_or l j 0 → i ≡ j
  path_distinct one i j p q e = omega arith
  path_distinct (more t n r) zero zero p q e = refl
  path_distinct (more {l = l} t n r) zero (suc j) p q e = absurd (both_ways (among _ l) n (subst (λ z. among z l ≡ true) (sym e) (place_among l j (omega arith))))
  path_distinct (more {l = l} t n r) (suc i) zero p q e = absurd (both_ways (among _ l) n (subst (λ z. among z l ≡ true) e (place_among l i (omega arith))))
  path_distinct (more t n r) (suc i) (suc j) p q e = ap suc (path_distinct r i j (omega arith) (omega arith) e)

module _ {S : Surface} (K : Sealed S) {v : ℕ} where
  turn_same : {h g k : ℕ} → Turn S v h g → Turn S v h k → g ≡ k
  turn_same (a, b, c, s, t) (a', b', c', s', t') = K.single t (moved refl (same_third s' s) refl t')

  path_first : {h k : ℕ} {l : List ℕ} → Path S v h l k → among h l ≡ true
  path_first (one {h = h}) = among_head h h [] refl
  path_first (more {h = h} {l = l} t n p) = among_head h h l refl

  -- what comes after a half-edge of a path is on it
  path_next : {h k y z : ℕ} {l : List ℕ} → Path S v h l k → among y l ≡ true → Turn S v y z → (y ≡ k) ⊎ (among z l ≡ true)
  path_next {y = y} (one {h = h}) m t = elim (among_cases y h [] m) [ inl i ↦ inl i | inr i ↦ absurd (among_none y i) ]
  path_next {k = k} {y = y} {z = z} (more {h = h} {l = l} s n p) m t = go (among_cases y h l m) (λ i. path_next p i t)
    where
      go : (y ≡ h) ⊎ (among y l ≡ true) → (among y l ≡ true → (y ≡ k) ⊎ (among z l ≡ true)) → (y ≡ k) ⊎ (among z (h ∷ l) ≡ true)
      go (inl i) f = inr (among_tail z h l (subst (λ x. among x l ≡ true) (turn_same s (subst (λ x. Turn S v x z) i t)) (path_first p)))
      go (inr i) f = elim (f i) [ inl j ↦ inl j | inr j ↦ inr (among_tail z h l j) ]

  module _ {h k : ℕ} {l : List ℕ} (p : Path S v h l k) (t : Turn S v k h) where
    all_on : {y z : ℕ} → among y l ≡ true → Round S v y z → among z l ≡ true
    all_on m here = m
    all_on m (turn {h = y} {g = g} {a = a} {b = b} {c = c} s n r) = all_on (go (path_next p m (a, b, c, s, n))) r
      where
        go : (y ≡ k) ⊎ (among g l ≡ true) → among g l ≡ true
        go (inl i) = subst (λ x. among x l ≡ true) (turn_same t (subst (λ x. Turn S v x g) i (a, b, c, s, n))) (path_first p)
        go (inr i) = i

  at_least : {h k : ℕ} {l : List ℕ} → Path S v h l k → Turn S v k h → 3 ≤ length l
  at_least one (a, b, c, s, t) = absurd (K.proper (spin s) (same_to s t))
  at_least (more (a, b, c, s, t) n one) (a', b', c', s', t') = absurd (K.apart s (moved (same_third t s' ∙ same_to t' s) refl refl (spin2 t)) refl)
  at_least (more t n (more t' n' p)) r = let q = path_some p in omega arith

  the_ring : S.present v ≡ true → Ringed S v
  the_ring pv =
      let (a, (h, b, th)) = K.used pv in
      let (g, d, tg) = K.matched th in
      let k : ℕ = next g in
      let tk : Tri S (next g) v d a = spin tg in
      let c : Turn S v (next g) h = (d, a, b, tk, th) in
      let (l, p) = simple (K.ring th tk) in (
        l,
        record {
          three = at_least p c;
          turns = path_turns p;
          closing = subst (λ z. Turn S v z (get_or l 0 0)) (sym (path_last p)) (subst (λ z. Turn S v (next g) z) (sym (path_head p)) c);
          distinct = path_distinct p;
          full = λ y x z ty. among_place y l (all_on p c (path_first p) (K.ring th ty));
        },
      )

pub closed : {S : Surface} → Sealed S → (h : ℕ) × (a : ℕ) × (b : ℕ) × (c : ℕ) × Tri S h a b c → Closed S
closed K s =
    record {
      some = s;
      proper = λ h a b c t. K.proper t;
      single = λ h g a b c d t r. K.single t r;
      matched = λ h a b c t. K.matched t;
      ring = λ v. the_ring K {v = v};
      known = λ h a b c t. K.known t;
    }
