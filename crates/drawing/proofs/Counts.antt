-- How a count grows with its bound.
use Rattle.std.proofs.Common.{◌≡◌, ℕ, zero, suc, ◌+◌, ◌<◌, ◌≤◌, Bool, true, false, cond, ltb, ◌⊎◌, ◌∷◌, length, sym, refl, ap, ◌∙◌, inl, inr, eq-or-lt_of_le, add-one, arith}
use Rattle.std.proofs.lemmas.Bool.{cases_lt, ltb-true, ltb-false}
use Rattle.std.specs.List.{filter, range_with_len}
use Rattle.surface.specs.Euler.{count}
use Rattle.surface.proofs.Counting.{count_same}

module _ (f : ℕ → Bool) where
  pub count_zero : count f 0 ≡ 0
  unfolding count
  count_zero = refl

  pub count_on : (n : ℕ) → f n ≡ true → count f (n + 1) ≡ count f n + 1
  unfolding count
  count_on n p = rw (add-one, p) (omega arith)

  pub count_off : (n : ℕ) → f n ≡ false → count f (n + 1) ≡ count f n
  unfolding count
  count_off n p = rw (add-one, p) (omega arith)

  pub count_most : (n : ℕ) → count f n ≤ n
  unfolding count
  count_most zero = omega arith
  count_most (suc n) = go (f n) (count_most n)
    where
      go : (b : Bool) → count f n ≤ n → cond b 1 0 + count f n ≤ suc n
      go true r = omega arith
      go false r = omega arith

  pub count_up : (m n : ℕ) → m ≤ n → count f m ≤ count f n
  unfolding count
  count_up m zero l = let z : m ≡ 0 = omega arith in rw z (omega arith)
  count_up m (suc n) l = go (eq-or-lt_of_le l) (λ k. count_up m n k)
    where
      go : (m ≡ suc n) ⊎ (m < suc n) → (m ≤ n → count f m ≤ count f n) → count f m ≤ count f (suc n)
      go (inl e) r = rw e (omega arith)
      go (inr k) r = omega (arith, r (omega arith))

  -- a live number has its place before those that follow
  pub count_before : (m n : ℕ) → m < n → f m ≡ true → count f m < count f n
  count_before m n l p = omega (arith, count_on m p, count_up (m + 1) n (omega arith))

  -- live numbers at one place are one
  pub count_one_place : (m n : ℕ) → f m ≡ true → f n ≡ true → count f m ≡ count f n → m ≡ n
  count_one_place m n p q i = elim (cases_lt m n) [
    | inl l ↦ absurd (let k = count_before m n l p in omega arith)
    | inr l ↦ elim (eq-or-lt_of_le l) [ inl e ↦ sym e | inr k ↦ absurd (let j = count_before n m k q in omega arith) ]
  ]

  -- the live number at place k, of those below n
  pub nth : ℕ → ℕ → ℕ
  nth zero k = 0
  nth (suc n) k = cond (ltb k (count f n)) (nth n k) n

  pub nth_is : (n k : ℕ) → k < count f n → (nth n k < n) × (f (nth n k) ≡ true) × (count f (nth n k) ≡ k)
  unfolding count nth
  nth_is zero k l = absurd (omega arith)
  nth_is (suc n) k l = go (ltb k (count f n)) refl (f n) refl l (λ m. nth_is n k m)
    where
      go : (b : Bool) → ltb k (count f n) ≡ b → (d : Bool) → f n ≡ d → k < cond d 1 0 + count f n →
          (k < count f n → (nth n k < n) × (f (nth n k) ≡ true) × (count f (nth n k) ≡ k)) →
          (cond b (nth n k) n < suc n) × (f (cond b (nth n k) n) ≡ true) × (count f (cond b (nth n k) n) ≡ k)
      go true p d q l r = let (x, y, z) = r (ltb-true k (count f n) p) in (omega arith, y, z)
      go false p true q l r = let m = ltb-false k (count f n) p in (omega arith, q, omega arith)
      go false p false q l r = let m = ltb-false k (count f n) p in absurd (omega arith)

-- a count told from its first number on
count_front : (f : ℕ → Bool) (n : ℕ) → count f (suc n) ≡ cond (f 0) 1 0 + count (λ k. f (suc k)) n
unfolding count
count_front f zero = refl
count_front f (suc n) = let i = count_front f n in omega arith

-- how many numbers of a range are live
range_counted : (f : ℕ → Bool) (a n : ℕ) → length (filter f (range_with_len a n)) ≡ count (λ k. f (a + k)) n
unfolding count
range_counted f a zero = refl
range_counted f a (suc n) =
    let i = range_counted f (a + 1) n in
    let s = count_same (λ k. f (a + 1 + k)) (λ k. f (a + suc k)) n (λ k l. ap f (omega arith)) in
    let z : a + 0 ≡ a = omega arith in
    one (f a) ∙ ap (λ m. cond (f a) 1 0 + m) (i ∙ s) ∙ ap (λ m. cond (f m) 1 0 + count (λ k. f (a + suc k)) n) (sym z) ∙ sym (count_front (λ k. f (a + k)) n)
  where
    one : (b : Bool) → length (cond b (a ∷ filter f (range_with_len (a + 1) n)) (filter f (range_with_len (a + 1) n))) ≡ cond b 1 0 + length (filter f (range_with_len (a + 1) n))
    one true = omega arith
    one false = omega arith

pub counted : (f g : ℕ → Bool) (n m : ℕ) → n ≡ m → ((k : ℕ) → f k ≡ g k) → length (filter f (range_with_len 0 n)) ≡ count g m
counted f g n m i s = range_counted f 0 n ∙ count_same (λ k. f (0 + k)) g n (λ k l. ap f (omega arith) ∙ s k) ∙ ap (count g) i
