-- The walk round a vertex, step by step.
use Rattle.std.proofs.Common.{◌≡◌, ℕ, suc, ◌+◌, ◌*◌, ◌/◌, ◌<◌, ◌≤◌, true, false, cond, not, eqb, ◌≢◌, ◌⊎◌, List, [], ◌∷◌, length, get_or, set, sym, refl, ap, ◌∙◌, subst, ap₂, inl, inr, arith}
use native.Mathlib.Decide.{ℕ_discrete}
use Rattle.std.proofs.lemmas.List.{get_or-set_same, get_or-set_other}
use Rattle.std.proofs.lemmas.Bool.{cases_Bool, eq-eqb, ne_eqb, cond-true, cond-false, not_from_true, not_from_false}
use Rattle.surface.specs.Surface.{next, prev}
use Rattle.surface.specs.Euler.{count}
use Rattle.surface.proofs.Among.{among, among_cases, among_none, among_head, among_tail, among_place, place_among}
use Rattle.surface.proofs.Counting.{count_less}
use Rattle.surface.proofs.Tris.{next_triangle}
use Rattle.mesh.specs.Walks.{Walk, done, more, Walkable, Moved}

-- what differs from the first is in the rest or in neither
pub not_among : (k h : ℕ) (l : List ℕ) → k ≢ h → among k (h ∷ l) ≡ among k l
not_among k h l n = go (cases_Bool (among k l)) (cases_Bool (among k (h ∷ l)))
  where
    go : (among k l ≡ true) ⊎ (among k l ≡ false) → (among k (h ∷ l) ≡ true) ⊎ (among k (h ∷ l) ≡ false) → among k (h ∷ l) ≡ among k l
    go (inl i) _ = among_tail k h l i ∙ sym i
    go (inr i) (inr j) = j ∙ sym i
    go (inr i) (inl j) = elim (among_cases k h l j) [ inl m ↦ absurd (n m) | inr m ↦ j ∙ sym m ]

not_in_none : (k : ℕ) → among k [] ≡ false
not_in_none k = elim (cases_Bool (among k [])) [ inl i ↦ absurd (among_none k i) | inr i ↦ i ]

module _ {o : ℕ → ℕ} {last : ℕ} where
  -- a walk is fixed by where it begins and ends
  pub walk_unique : {h g : ℕ} {l l' : List ℕ} → h ≡ g → Walk o last h l → Walk o last g l' → l ≡ l'
  walk_unique p done done = refl
  walk_unique p done (more n r) = absurd (n (sym p))
  walk_unique p (more n r) done = absurd (n p)
  walk_unique p (more n r) (more m q) = ap₂ ◌∷◌ p (walk_unique (ap (λ x. o (prev x)) p) r q)

  walk_first : {h : ℕ} {l : List ℕ} → Walk o last h l → among h l ≡ true
  walk_first done = among_head last last [] refl
  walk_first (more {h = h} {l = l} n r) = among_head h h l refl

  walk_part : {h k : ℕ} {l : List ℕ} → Walk o last h l → among k l ≡ true → (l' : List ℕ) × Walk o last k l' × (length l' ≤ length l)
  walk_part {k = k} done m =
      elim (among_cases k last [] m) [
        | inl i ↦ subst (λ n. (l' : List ℕ) × Walk o last n l' × (length l' ≤ 1)) (sym i) (last ∷ [], done, omega arith)
        | inr i ↦ absurd (among_none k i)
      ]
  walk_part {k = k} (more {h = h} {l = l} n r) m = go (among_cases k h l m) (λ i. walk_part r i)
    where
      go : (k ≡ h) ⊎ (among k l ≡ true) → (among k l ≡ true → (l' : List ℕ) × Walk o last k l' × (length l' ≤ length l)) →
          (l' : List ℕ) × Walk o last k l' × (length l' ≤ suc (length l))
      go (inl i) f = subst (λ n. (l' : List ℕ) × Walk o last n l' × (length l' ≤ suc (length l))) (sym i) (h ∷ l, more n r, omega arith)
      go (inr i) f = let (l', F, p) = f i in (l', F, omega arith)

  -- no half-edge is met twice
  walk_once : {h : ℕ} {l : List ℕ} → h ≢ last → Walk o last (o (prev h)) l → among h l ≡ false
  walk_once {h} {l} n r = go (cases_Bool (among h l))
    where
      go : (among h l ≡ true) ⊎ (among h l ≡ false) → among h l ≡ false
      go (inr i) = i
      go (inl i) =
          let (l', F, p) = walk_part r i in
          let q : length l' ≡ suc (length l) = ap length (walk_unique refl F (more n r)) in
          absurd (omega arith)

-- part of the way: at h, with the half-edges todo still to write
pub record Walking (corners : List ℕ) (o : ℕ → ℕ) (first last v h : ℕ) (now : List ℕ) : Type 0 where
  pub whole : List ℕ
  pub todo : List ℕ
  pub begun : Walk o last first whole
  pub left : Walk o last h todo
  pub within : (k : ℕ) → among k todo ≡ true → among k whole ≡ true
  pub so_far : (k : ℕ) → get_or now k 0 ≡ cond (among k todo) (get_or corners k 0) (cond (among k whole) v (get_or corners k 0))

module _ (corners : List ℕ) (o : ℕ → ℕ) {last : ℕ} (v : ℕ) (now whole : List ℕ) where
  stepped : {first h : ℕ} {todo : List ℕ} → Walk o last first whole → Walk o last h todo → ((k : ℕ) → among k todo ≡ true → among k whole ≡ true) →
      ((k : ℕ) → get_or now k 0 ≡ cond (among k todo) (get_or corners k 0) (cond (among k whole) v (get_or corners k 0))) → h < length now → h ≢ last →
      Walking corners o first last v (o (prev h)) (set now h v)
  stepped B done wi sf l d = absurd (d refl)
  stepped B (more {h = h} {l = r} d F) wi sf l _ =
      record { whole = whole; todo = r; begun = B; left = F; within = λ k m. wi k (among_tail k h r m); so_far = λ k. go k (ℕ_discrete k h) }
    where
      go : (k : ℕ) → Dec (k ≡ h) → get_or (set now h v) k 0 ≡ cond (among k r) (get_or corners k 0) (cond (among k whole) v (get_or corners k 0))
      go k (yes i) =
          ap (λ x. get_or (set now h v) x 0) i ∙ get_or-set_same now h v 0 l
          ∙ sym (cond-false (among k r) _ _ (ap (λ x. among x r) i ∙ walk_once d F) ∙ cond-true (among k whole) _ _ (wi k (among_head k h r i)))
      go k (no i) = get_or-set_other now h k v 0 i ∙ sf k ∙ ap (λ m. cond m (get_or corners k 0) (cond (among k whole) v (get_or corners k 0))) (not_among k h r i)

  ended : {h : ℕ} {todo : List ℕ} → Walk o last h todo → h ≡ last → ((k : ℕ) → among k todo ≡ true → among k whole ≡ true) →
      ((k : ℕ) → get_or now k 0 ≡ cond (among k todo) (get_or corners k 0) (cond (among k whole) v (get_or corners k 0))) → h < length now →
      (k : ℕ) → get_or (set now last v) k 0 ≡ cond (among k whole) v (get_or corners k 0)
  ended (more d F) i wi sf l k = absurd (d i)
  ended done i wi sf l k = go (ℕ_discrete k last)
    where
      go : Dec (k ≡ last) → get_or (set now last v) k 0 ≡ cond (among k whole) v (get_or corners k 0)
      go (yes j) = ap (λ x. get_or (set now last v) x 0) j ∙ get_or-set_same now last v 0 l ∙ sym (cond-true (among k whole) _ _ (wi k (among_head k last [] j)))
      go (no j) = get_or-set_other now last k v 0 j ∙ sf k ∙ cond-false (among k (last ∷ [])) _ _ (not_among k last [] j ∙ not_in_none k)

module _ {corners twin : List ℕ} {first last v : ℕ} (R : Walkable corners twin first last v) where
  pub start : Walking corners (λ h. get_or twin h 0) first last v first corners
  start = record { whole = R.way; todo = R.way; begun = R.walk; left = R.walk; within = λ k m. m; so_far = λ k. go k (cases_Bool (among k R.way)) }
    where
      go : (k : ℕ) → (among k R.way ≡ true) ⊎ (among k R.way ≡ false) →
          get_or corners k 0 ≡ cond (among k R.way) (get_or corners k 0) (cond (among k R.way) v (get_or corners k 0))
      go k (inl i) = sym (cond-true (among k R.way) _ _ i)
      go k (inr i) = sym (cond-false (among k R.way) _ _ i ∙ cond-false (among k R.way) _ _ i)

  module _ {h : ℕ} {now : List ℕ} (W : Walking corners (λ h. get_or twin h 0) first last v h now) (same : length now ≡ length corners) where
    on_way : among h R.way ≡ true
    on_way = subst (λ l. among h l ≡ true) (walk_unique refl W.begun R.walk) (W.within h (walk_first W.left))

    pub inside : 3 * (h / 3) + 2 < length corners
    inside = let (i, l, e) = among_place h R.way on_way in subst (λ x. 3 * (x / 3) + 2 < length corners) e (R.low i l)

    not_yet : get_or now h 0 ≢ v
    not_yet j =
        let (i, l, e) = among_place h R.way on_way in
        R.free i l (ap (λ x. get_or corners x 0) e ∙ sym (W.so_far h ∙ cond-true (among h W.todo) _ _ (walk_first W.left)) ∙ j)

    pub inside_prev : prev h < length twin
    inside_prev = omega (arith, inside, next_triangle h, next_triangle (next h), R.linked)

    -- one write fewer to make
    pub fewer : count (λ k. not (eqb (get_or (set now h v) k 0) v)) (length now) < count (λ k. not (eqb (get_or now k 0) v)) (length now)
    fewer =
        let n : h < length now = omega (arith, inside) in
        let p = count_less (λ k. not (eqb (get_or now k 0) v)) (λ k. not (eqb (get_or (set now h v) k 0) v)) h (length now)
        (not_from_false _ (ne_eqb _ _ not_yet))
        (not_from_true _ (eq-eqb _ _ (get_or-set_same now h v 0 n)))
        (λ t d. ap (λ x. not (eqb x v)) (sym (get_or-set_other now h t v 0 d))) n in
        omega arith

    pub step : h ≢ last → Walking corners (λ h. get_or twin h 0) first last v (get_or twin (prev h) 0) (set now h v)
    step d = stepped corners (λ h. get_or twin h 0) v now W.whole W.begun W.left W.within W.so_far (omega (arith, inside)) d

    pub finish : h ≡ last → Moved corners twin first last v (set now last v)
    finish i =
        record {
          there = λ l F j p. at l F (get_or l j 0) ∙ cond-true (among (get_or l j 0) l) _ _ (place_among l j p);
          elsewhere = λ l F k n. at l F k ∙ cond-false (among k l) _ _ (out l k n (cases_Bool (among k l)));
        }
      where
        at : (l : List ℕ) → Walk (λ h. get_or twin h 0) last first l → (k : ℕ) → get_or (set now last v) k 0 ≡ cond (among k l) v (get_or corners k 0)
        at l F k =
            ended corners (λ h. get_or twin h 0) v now W.whole W.left i W.within W.so_far (omega (arith, inside)) k
            ∙ ap (λ m. cond (among k m) v (get_or corners k 0)) (walk_unique refl W.begun F)

        out : (l : List ℕ) (k : ℕ) → ((i : ℕ) → i < length l → get_or l i 0 ≢ k) → (among k l ≡ true) ⊎ (among k l ≡ false) → among k l ≡ false
        out l k n (inr m) = m
        out l k n (inl m) = let (j, p, e) = among_place k l m in absurd (n j p e)
