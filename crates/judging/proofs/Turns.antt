-- Turning again and again: what comes back to the start after as many turns as there are half-edges is a round of them all.
use Rattle.std.proofs.Common.{◌≡◌, ℕ, zero, suc, ◌+◌, ◌-◌, ◌%◌, ◌<◌, ◌≤◌, Bool, true, false, ◌≢◌, ◌⊎◌, List, [], ◌∷◌, length, get_or, Option, sym, refl, ap, ◌∙◌, subst, inl, inr, add-one, arith}
use Rattle.std.proofs.lemmas.Bool.{cases_Bool, cases_lt, both_ways, cases_order}
use Rattle.surface.specs.Surface.{next, prev}
use Rattle.surface.specs.Euler.{count}
use Rattle.surface.proofs.Counting.{distinct_count}
use Rattle.surface.proofs.Among.{among, among_place, place_among}
use Rattle.judging.specs.Rings.{turned, turns, Around}
use Rattle.judging.proofs.Marks.{next_inside}

pub prev_inside : (n h : ℕ) → n % 3 ≡ 0 → h < n → prev h < n
prev_inside n h t l = next_inside n (next h) t (next_inside n h t l)

-- f of 0, 1, .. and so on, m of them
listed : (ℕ → ℕ) → ℕ → List ℕ
listed f zero = []
listed f (suc m) = f 0 ∷ listed (λ i. f (suc i)) m

listed_length : (f : ℕ → ℕ) (m : ℕ) → length (listed f m) ≡ m
unfolding listed
listed_length f zero = refl
listed_length f (suc m) = ap suc (listed_length (λ i. f (suc i)) m)

listed_at : (f : ℕ → ℕ) (m i : ℕ) → i < m → get_or (listed f m) i 0 ≡ f i
unfolding listed
listed_at f zero i l = absurd (omega arith)
listed_at f (suc m) zero l = refl
listed_at f (suc m) (suc i) l = listed_at (λ i. f (suc i)) m i (omega arith)

-- different numbers that pass, as many as pass at all, are all that pass
module _ (f : ℕ → Bool) (N : ℕ) (l : List ℕ) (low : (i : ℕ) → i < length l → get_or l i 0 < N) (pass : (i : ℕ) → i < length l → f (get_or l i 0) ≡ true)
    (apart : (i j : ℕ) → i < length l → j < length l → get_or l i 0 ≡ get_or l j 0 → i ≡ j) (many : count f N ≡ length l) where
  left_out : (h : ℕ) → h < N → f h ≡ true → among h l ≡ false → ⊥
  left_out h k p n =
      let c : suc (length l) ≤ count f N = distinct_count f N (h ∷ l) lows passes aparts in
      omega arith
    where
      lows : (i : ℕ) → i < suc (length l) → get_or (h ∷ l) i 0 < N
      lows zero m = k
      lows (suc i) m = low i (omega arith)

      passes : (i : ℕ) → i < suc (length l) → f (get_or (h ∷ l) i 0) ≡ true
      passes zero m = p
      passes (suc i) m = pass i (omega arith)

      off : (i : ℕ) → i < length l → get_or l i 0 ≡ h → ⊥
      off i m e = both_ways (among h l) n (subst (λ x. among x l ≡ true) e (place_among l i m))

      aparts : (i j : ℕ) → i < suc (length l) → j < suc (length l) → get_or (h ∷ l) i 0 ≡ get_or (h ∷ l) j 0 → i ≡ j
      aparts zero zero a b e = refl
      aparts zero (suc j) a b e = absurd (off j (omega arith) (sym e))
      aparts (suc i) zero a b e = absurd (off i (omega arith) e)
      aparts (suc i) (suc j) a b e = ap suc (apart i j (omega arith) (omega arith) e)

  pub all_in : (h : ℕ) → h < N → f h ≡ true → (i : ℕ) × (i < length l) × (get_or l i 0 ≡ h)
  all_in h k p = elim (cases_Bool (among h l)) [ inl m ↦ among_place h l m | inr m ↦ absurd (left_out h k p m) ]

module _ (twin : List (Option ℕ)) (f : ℕ → Bool) (N : ℕ) (keeps : (h : ℕ) → h < N → f h ≡ true → (turned twin h < N) × (f (turned twin h) ≡ true))
    (one : (h g : ℕ) → h < N → g < N → f h ≡ true → f g ≡ true → turned twin h ≡ turned twin g → h ≡ g) (s : ℕ) (low : s < N) (pass : f s ≡ true) where
  pub stays : (k : ℕ) → (turns twin s k < N) × (f (turns twin s k) ≡ true)
  unfolding turns
  stays zero = (low, pass)
  stays (suc k) = let (a, b) = stays k in keeps (turns twin s k) a b

  cancel : (i j d : ℕ) → j ≡ i + d → turns twin s j ≡ turns twin s i → turns twin s d ≡ s
  unfolding turns
  cancel zero j d p e = let q : d ≡ j = omega arith in subst (λ n. turns twin s n ≡ s) (sym q) e
  cancel (suc i) zero d p e = absurd (omega arith)
  cancel (suc i) (suc j) d p e =
      let (a, b) = stays i in
      let (u, w) = stays j in
      cancel i j d (omega arith) (one (turns twin s j) (turns twin s i) u a w b e)

  module _ (A : Around twin s (count f N)) where
    less : (i j : ℕ) → i < j → j < count f N → turns twin s i ≡ turns twin s j → ⊥
    less i j l m e = A.first (j - i) (omega arith) (omega arith) (cancel i j (j - i) (omega arith) (sym e))

    pub round : List ℕ
    round = listed (turns twin s) (count f N)

    pub round_length : length round ≡ count f N
    unfolding round
    round_length = listed_length (turns twin s) (count f N)

    pub round_at : (i : ℕ) → i < count f N → get_or round i 0 ≡ turns twin s i
    unfolding round
    round_at i l = listed_at (turns twin s) (count f N) i l

    pub round_apart : (i j : ℕ) → i < length round → j < length round → get_or round i 0 ≡ get_or round j 0 → i ≡ j
    round_apart i j l m e = go (cases_order i j)
      where
        le : i < count f N
        le = omega (arith, round_length)

        me : j < count f N
        me = omega (arith, round_length)

        same : turns twin s i ≡ turns twin s j
        same = sym (round_at i le) ∙ e ∙ round_at j me

        go : (i ≡ j) ⊎ ((i < j) ⊎ (j < i)) → i ≡ j
        go (inl p) = p
        go (inr (inl p)) = absurd (less i j p me same)
        go (inr (inr p)) = absurd (less j i p le (sym same))

    pub round_stays : (i : ℕ) → i < length round → (get_or round i 0 < N) × (f (get_or round i 0) ≡ true)
    round_stays i l = subst (λ x. (x < N) × (f x ≡ true)) (sym (round_at i (omega (arith, round_length)))) (stays i)

    pub round_full : (h : ℕ) → h < N → f h ≡ true → (i : ℕ) × (i < length round) × (get_or round i 0 ≡ h)
    round_full h l p = all_in f N round (λ i m. (round_stays i m).0) (λ i m. (round_stays i m).1) round_apart (sym round_length) h l p

pub turns_one : (twin : List (Option ℕ)) (h : ℕ) → turns twin h 1 ≡ turned twin h
unfolding turns
turns_one twin h = refl

pub turns_more : (twin : List (Option ℕ)) (h k : ℕ) → turns twin h (k + 1) ≡ turned twin (turns twin h k)
unfolding turns
turns_more twin h k = ap (turns twin h) (add-one k)

-- after k turns from h the walk stands at g, and was not back before
pub record Turned (twin : List (Option ℕ)) (h k g : ℕ) : Type 0 where
  pub inside : g < length twin
  pub stands : g ≡ turns twin h k
  pub fresh : (j : ℕ) → 0 < j → j < k → turns twin h j ≡ h → ⊥

pub turned_first : (twin : List (Option ℕ)) (h g : ℕ) → g ≡ turned twin h → g < length twin → Turned twin h 1 g
turned_first twin h g e l = record { inside = l; stands = e ∙ sym (turns_one twin h); fresh = λ j a b. absurd (omega arith) }

pub turned_more : (twin : List (Option ℕ)) (h k g f : ℕ) → Turned twin h k g → g ≢ h → f ≡ turned twin g → f < length twin → Turned twin h (k + 1) f
turned_more twin h k g f I n e l =
    record {
      inside = l;
      stands = e ∙ ap (turned twin) I.stands ∙ sym (turns_more twin h k);
      fresh = λ j a b. here j a (cases_lt j k) b;
    }
  where
    here : (j : ℕ) → 0 < j → (j < k) ⊎ (k ≤ j) → j < k + 1 → turns twin h j ≡ h → ⊥
    here j a (inl m) b p = I.fresh j a m p
    here j a (inr m) b p = let q : k ≡ j = omega arith in n (I.stands ∙ ap (turns twin h) q ∙ p)

pub turned_round : (twin : List (Option ℕ)) (h k g : ℕ) → Turned twin h k g → g ≡ h → Around twin h k
turned_round twin h k g I e = record { back = sym I.stands ∙ e; first = I.fresh }

pub turned_early : (twin : List (Option ℕ)) (h k g m : ℕ) → Turned twin h k g → g ≡ h → 0 < k → k < m → Around twin h m → ⊥
turned_early twin h k g m I e a b A = A.first k a b (sym I.stands ∙ e)

pub turned_off : (twin : List (Option ℕ)) (h k g : ℕ) → Turned twin h k g → g ≢ h → Around twin h k → ⊥
turned_off twin h k g I n A = n (I.stands ∙ A.back)
