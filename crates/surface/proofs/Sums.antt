-- Sums over the numbers below a bound.
use Rattle.std.proofs.Common.{◌≡◌, ℕ, zero, suc, ◌+◌, ◌*◌, ◌<◌, Bool, true, false, cond, ◌&&◌, eqb, ◌≢◌, sym, refl, ap, ◌∙◌, arith}
use native.Mathlib.Decide.{ℕ_discrete}
use Rattle.std.proofs.lemmas.Bool.{eq-eqb, ne_eqb}
use Rattle.surface.specs.Euler.{count, total}

abbrev pub bit : Bool → ℕ
bit b = cond b 1 0

pub total_same : (f g : ℕ → ℕ) (n : ℕ) → ((t : ℕ) → t < n → f t ≡ g t) → total f n ≡ total g n
unfolding total
total_same f g zero k = refl
total_same f g (suc n) k = rw (k n (omega arith), total_same f g n (λ t l. k t (omega arith)))

pub total_add : (f g : ℕ → ℕ) (n : ℕ) → total (λ t. f t + g t) n ≡ total f n + total g n
unfolding total
total_add f g zero = refl
total_add f g (suc n) = let r = total_add f g n in omega arith

pub count_total : (f : ℕ → Bool) (n : ℕ) → count f n ≡ total (λ t. bit (f t)) n
unfolding count total
count_total f zero = refl
count_total f (suc n) = let r = count_total f n in omega arith

pub total_none : (f : ℕ → ℕ) (n : ℕ) → ((t : ℕ) → t < n → f t ≡ 0) → total f n ≡ 0
unfolding total
total_none f zero k = refl
total_none f (suc n) k = let r = total_none f n (λ t l. k t (omega arith)) in let z = k n (omega arith) in omega arith

-- one number alone adds
pub total_one : (f : ℕ → ℕ) (k n : ℕ) → k < n → ((t : ℕ) → t ≢ k → f t ≡ 0) → total f n ≡ f k
unfolding total
total_one f k zero l z = absurd (omega arith)
total_one f k (suc n) l z = go (ℕ_discrete n k) (λ m. total_one f k n m z)
  where
    go : Dec (n ≡ k) → (k < n → total f n ≡ f k) → f n + total f n ≡ f k
    go (yes i) r = let q : total f n ≡ 0 = total_none f n (λ t m. z t (λ j. omega arith)) in let p : f n ≡ f k = ap f i in omega arith
    go (no i) r = let q : total f n ≡ f k = r (omega arith) in let p : f n ≡ 0 = z n i in omega arith

-- what passes f, sorted by the value of g
pub sorted : (f : ℕ → Bool) (g : ℕ → ℕ) (V n : ℕ) → ((h : ℕ) → h < n → f h ≡ true → g h < V) → count f n ≡ total (λ a. count (λ h. f h && eqb (g h) a) n) V
unfolding count
sorted f g V zero low = sym (total_none (λ a. 0) V (λ t l. refl))
sorted f g V (suc n) low =
    let r : count f n ≡ total (λ a. count (λ h. f h && eqb (g h) a) n) V = sorted f g V n (λ h l. low h (omega arith)) in
    let s : total (λ a. bit (f n && eqb (g n) a)) V ≡ bit (f n) = one (f n) (low n (omega arith)) in
    let t = total_add (λ a. bit (f n && eqb (g n) a)) (λ a. count (λ h. f h && eqb (g h) a) n) V in
    omega arith
  where
    one : (b : Bool) → (b ≡ true → g n < V) → total (λ a. bit (b && eqb (g n) a)) V ≡ bit b
    one true l = total_one (λ a. bit (eqb (g n) a)) (g n) V (l refl) (λ t i. ap bit (ne_eqb (g n) t (λ j. i (sym j)))) ∙ ap bit (eq-eqb (g n) (g n) refl)
    one false l = total_none (λ a. 0) V (λ t m. refl)

-- a square that is the same along both ways and empty on the diagonal is twice its half
pub halves : (D : ℕ → ℕ → ℕ) (n : ℕ) → ((a b : ℕ) → D a b ≡ D b a) → ((a : ℕ) → D a a ≡ 0) →
    total (λ b. total (λ a. D a b) n) n ≡ 2 * total (λ b. total (λ a. D a b) b) n
unfolding total
halves D zero s z = refl
halves D (suc n) s z =
    let r : total (λ b. total (λ a. D a b) n) n ≡ 2 * total (λ b. total (λ a. D a b) b) n = halves D n s z in
    let p = total_add (λ b. D n b) (λ b. total (λ a. D a b) n) n in
    let q : total (λ b. D n b) n ≡ total (λ a. D a n) n = total_same (λ b. D n b) (λ a. D a n) n (λ t l. s n t) in
    let d = z n in
    omega arith
