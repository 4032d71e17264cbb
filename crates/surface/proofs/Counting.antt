-- The numbers below a bound that pass a test: whether there are any, and how many.
use Rattle.std.proofs.Common.{◌≡◌, ℕ, zero, suc, ◌+◌, ◌<◌, ◌≤◌, Bool, true, false, cond, ◌||◌, eqb, ◌≢◌, ◌⊎◌, List, [], ◌∷◌, length, get_or, sym, refl, ap, ◌∙◌, inl, inr, arith}
use native.Mathlib.Decide.{ℕ_discrete}
use Rattle.std.proofs.lemmas.Bool.{eq-eqb, ne_eqb, cond-true, cond-false, both_ways, or_cases, or_left, or_right}
use Rattle.surface.specs.Euler.{count, any}
use Rattle.surface.proofs.Flags.{flag_false}

pub any_at : (f : ℕ → Bool) (n : ℕ) → any f n ≡ true → (k : ℕ) × (k < n) × (f k ≡ true)
unfolding any
any_at f zero p = absurd (both_ways false refl p)
any_at f (suc n) p = go (or_cases (f n) (any f n) p) (λ q. any_at f n q)
  where
    go : (f n ≡ true) ⊎ (any f n ≡ true) → (any f n ≡ true → (k : ℕ) × (k < n) × (f k ≡ true)) → (k : ℕ) × (k < suc n) × (f k ≡ true)
    go (inl i) r = (n, omega arith, i)
    go (inr i) r = let (k, l, q) = r i in (k, omega arith, q)

pub any_from : (f : ℕ → Bool) (k n : ℕ) → k < n → f k ≡ true → any f n ≡ true
unfolding any
any_from f k zero l p = absurd (omega arith)
any_from f k (suc n) l p = go (ℕ_discrete k n) (λ m. any_from f k n m p)
  where
    go : Dec (k ≡ n) → (k < n → any f n ≡ true) → (f n || any f n) ≡ true
    go (yes i) r = or_left (f n) (any f n) (ap f (sym i) ∙ p)
    go (no i) r = or_right (f n) (any f n) (r (omega arith))

pub count_same : (f g : ℕ → Bool) (n : ℕ) → ((t : ℕ) → t < n → f t ≡ g t) → count f n ≡ count g n
unfolding count
count_same f g zero k = refl
count_same f g (suc n) k = rw (k n (omega arith), count_same f g n (λ t l. k t (omega arith)))

-- g is f, but for one number k that only f passes
pub count_less : (f g : ℕ → Bool) (k n : ℕ) → f k ≡ true → g k ≡ false → ((t : ℕ) → t ≢ k → f t ≡ g t) → k < n → count g n + 1 ≡ count f n
unfolding count
count_less f g k zero p q s l = absurd (omega arith)
count_less f g k (suc n) p q s l = go (ℕ_discrete n k) (λ m. count_less f g k n p q s m)
  where
    go : Dec (n ≡ k) → (k < n → count g n + 1 ≡ count f n) → (cond (g n) 1 0 + count g n) + 1 ≡ cond (f n) 1 0 + count f n
    go (yes i) _ =
        let c : count f n ≡ count g n = count_same f g n (λ t m. s t (λ j. omega arith)) in
        rw (i, p, q) (rw (← i) (omega arith))
    go (no i) r = let h : count g n + 1 ≡ count f n = r (omega arith) in rw (s n i) (omega arith)

-- f, but not at k
pub but : (ℕ → Bool) → ℕ → ℕ → Bool
but f k t = cond (eqb t k) false (f t)

pub but_at : (f : ℕ → Bool) (k t : ℕ) → t ≡ k → but f k t ≡ false
unfolding but
but_at f k t i = cond-true (eqb t k) false (f t) (eq-eqb t k i)

pub but_else : (f : ℕ → Bool) (k t : ℕ) → t ≢ k → but f k t ≡ f t
unfolding but
but_else f k t i = cond-false (eqb t k) false (f t) (ne_eqb t k i)

pub count_but : (f : ℕ → Bool) (k n : ℕ) → f k ≡ true → k < n → count (but f k) n + 1 ≡ count f n
count_but f k n p l = count_less f (but f k) k n p (but_at f k k refl) (λ t i. sym (but_else f k t i)) l

pub count_but_most : (f : ℕ → Bool) (k n : ℕ) → count f n ≤ count (but f k) n + 1
unfolding count
count_but_most f k zero = omega arith
count_but_most f k (suc n) = go (ℕ_discrete n k) (count_but_most f k n)
  where
    below : n ≡ k → count f n ≡ count (but f k) n
    below i = count_same f (but f k) n (λ t m. sym (but_else f k t (λ j. omega arith)))

    one : (b : Bool) → cond b 1 0 ≤ 1
    one true = omega arith
    one false = omega arith

    go : Dec (n ≡ k) → count f n ≤ count (but f k) n + 1 → cond (f n) 1 0 + count f n ≤ (cond (but f k n) 1 0 + count (but f k) n) + 1
    go (yes i) r = omega (arith, below i, one (f n))
    go (no i) r = rw (but_else f k n i) (omega arith)

-- g is f, but for two numbers that only f passes
pub count_less_two : (f g : ℕ → Bool) (j k n : ℕ) → f j ≡ true → f k ≡ true → g j ≡ false → g k ≡ false → j ≢ k →
    ((t : ℕ) → t ≢ j → t ≢ k → f t ≡ g t) → j < n → k < n → count g n + 2 ≡ count f n
count_less_two f g j k n fj fk gj gk d s lj lk =
    let one : count (but f j) n + 1 ≡ count f n = count_but f j n fj lj in
    let two : count g n + 1 ≡ count (but f j) n = count_less (but f j) g k n (but_else f j k (λ i. d (sym i)) ∙ fk) gk (λ t i. rest t i (ℕ_discrete t j)) lk in
    omega arith
  where
    rest : (t : ℕ) → t ≢ k → Dec (t ≡ j) → but f j t ≡ g t
    rest t i (yes l) = but_at f j t l ∙ sym gj ∙ ap g (sym l)
    rest t i (no l) = but_else f j t l ∙ s t l i

pub count_none : (f : ℕ → Bool) (n : ℕ) → ((t : ℕ) → t < n → f t ≡ false) → count f n ≡ 0
unfolding count
count_none f zero k = refl
count_none f (suc n) k = rw (k n (omega arith)) (omega (arith, count_none f n (λ t l. k t (omega arith))))

-- one number alone passes
pub count_one : (f : ℕ → Bool) (k n : ℕ) → k < n → f k ≡ true → ((t : ℕ) → f t ≡ true → t ≡ k) → count f n ≡ 1
count_one f k n l p one =
    let z : count (λ _. false) n ≡ 0 = count_none (λ _. false) n (λ t m. refl) in
    let s : count (λ _. false) n + 1 ≡ count f n = count_less f (λ _. false) k n p refl (λ t i. flag_false (f t) (λ q. i (one t q))) l in
    omega arith

pub count_all : (n : ℕ) → count (λ _. true) n ≡ n
unfolding count
count_all zero = refl
count_all (suc n) = let r = count_all n in omega arith

-- different numbers that pass are no more than all that pass
pub distinct_count : (f : ℕ → Bool) (N : ℕ) (l : List ℕ) →
    ((i : ℕ) → i < length l → get_or l i 0 < N) → ((i : ℕ) → i < length l → f (get_or l i 0) ≡ true) →
    ((i j : ℕ) → i < length l → j < length l → get_or l i 0 ≡ get_or l j 0 → i ≡ j) → length l ≤ count f N
distinct_count f N [] low pass apart = omega arith
distinct_count f N (x ∷ l) low pass apart =
    let less : count (but f x) N + 1 ≡ count f N = count_but f x N (pass 0 (omega arith)) (low 0 (omega arith)) in
    let rest : length l ≤ count (but f x) N =
    distinct_count (but f x) N l (λ i k. low (suc i) (omega arith))
    (λ i k. but_else f x (get_or l i 0) (λ e. let z : suc i ≡ 0 = apart (suc i) 0 (omega arith) (omega arith) e in absurd (omega arith)) ∙ pass (suc i) (omega arith))
    (λ i j k m e. let z : suc i ≡ suc j = apart (suc i) (suc j) (omega arith) (omega arith) e in omega arith) in
    omega arith

-- where all that pass are in a list, they are no more than it has places
pub full_count : (f : ℕ → Bool) (N : ℕ) (l : List ℕ) → ((h : ℕ) → h < N → f h ≡ true → (i : ℕ) × (i < length l) × (get_or l i 0 ≡ h)) → count f N ≤ length l
full_count f N [] has = let z : count f N ≡ 0 = count_none f N (λ t l. flag_false (f t) (λ p. let (i, m, e) = has t l p in omega arith)) in omega arith
full_count f N (x ∷ l) has =
    let rest : count (but f x) N ≤ length l = full_count (but f x) N l (λ h k p. shift h p (has h k (passes h p))) in
    omega (arith, count_but_most f x N)
  where
    passes : (h : ℕ) → but f x h ≡ true → f h ≡ true
    passes h p = by (ℕ_discrete h x)
      where
        by : Dec (h ≡ x) → f h ≡ true
        by (yes i) = absurd (both_ways (but f x h) (but_at f x h i) p)
        by (no i) = sym (but_else f x h i) ∙ p

    shift : (h : ℕ) → but f x h ≡ true → (i : ℕ) × (i < length (x ∷ l)) × (get_or (x ∷ l) i 0 ≡ h) → (i : ℕ) × (i < length l) × (get_or l i 0 ≡ h)
    shift h p (zero, k, e) = absurd (both_ways (but f x h) (but_at f x h (sym e)) p)
    shift h p (suc i, k, e) = (i, omega arith, e)
