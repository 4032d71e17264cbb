-- Walking down the chain of a vertex counts the half-edges that begin there.
use Rattle.std.proofs.Common.{◌≡◌, ℕ, zero, suc, ◌+◌, ◌<◌, ◌≤◌, Bool, false, cond, ◌⊎◌, List, [], ◌∷◌, length, get_or, Some, None, Option, sym, ap, subst, inl, inr, arith}
use Rattle.std.proofs.lemmas.Bool.{cases_lt, eq-eqb, ne_eqb}
use Rattle.surface.specs.Euler.{count}
use Rattle.judging.specs.Chains.{LastBelow, Chained, Standing, below}
use Rattle.judging.specs.Rings.{begins, degree_of}
use Rattle.std.specs.Iterator.{Yields}
use Rattle.judging.specs.declared.judge.outgoing.Outgoing.{Outgoing}
use Rattle.judging.proofs.Chains.{stand_start, stand_step, Steps, stepped}

-- nothing passes from k on
count_rest : (f : ℕ → Bool) (k n : ℕ) → k ≤ n → ((t : ℕ) → k ≤ t → t < n → f t ≡ false) → count f n ≡ count f k
unfolding count
count_rest f k zero l none = let e : 0 ≡ k = omega arith in ap (count f) e
count_rest f k (suc n) l none = go (cases_lt n k) (λ m. count_rest f k n m (λ t a b. none t a (omega arith)))
  where
    go : (n < k) ⊎ (k ≤ n) → (k ≤ n → count f n ≡ count f k) → count f (suc n) ≡ count f k
    go (inl m) r = let e : suc n ≡ k = omega arith in ap (count f) e
    go (inr m) r = rw (none n m (omega arith)) (omega (arith, r m))

module _ (cs : List ℕ) (v : ℕ) where
  count_last : (i : ℕ) (r : Option ℕ) → LastBelow cs v i r → count (begins cs v) i ≡ count (begins cs v) (below r)
  count_last i None L = count_rest (begins cs v) 0 i (omega arith) (λ t a b. ne_eqb (get_or cs t 0) v (L t b))
  count_last i (Some h) (a, b, f) = count_rest (begins cs v) (suc h) i (omega arith) (λ t l m. ne_eqb (get_or cs t 0) v (f t l m))

  -- the walk has counted m half-edges and stands at r
  pub record Counting (m : ℕ) (r : Option ℕ) : Type 0 where
    pub stands : Standing cs v r
    pub counted : m + count (begins cs v) (below r) ≡ degree_of cs v

  module _ {n : ℕ} {last link : List (Option ℕ)} (C : Chained cs n last link) where
    pub counting_start : v < n → Counting 0 (get_or last v None)
    counting_start l = record { stands = stand_start C v l; counted = omega (arith, count_last (length cs) (get_or last v None) (C.ends v l)) }

    pub counting_more : (m h : ℕ) → Counting m (Some h) → Counting (m + 1) (get_or link h None)
    unfolding count
    counting_more m h I =
        let (l, e) = I.stands in
        let one : m + (1 + count (begins cs v) h) ≡ degree_of cs v = subst (λ (b : Bool). m + (cond b 1 0 + count (begins cs v) h) ≡ degree_of cs v) (eq-eqb (get_or cs h 0) v e) I.counted in
        let rest : LastBelow cs v h (get_or link h None) = subst (λ (u : ℕ). LastBelow cs u h (get_or link h None)) e (C.links h l) in
        record { stands = stand_step C v h l e; counted = omega (arith, count_last h (get_or link h None) rest) }

    pub counting_along : (m : ℕ) (s : Outgoing) (xs : List ℕ) (t : Outgoing) → s.link.now ≡ link → Counting m s.at → Yields Steps s xs t → Counting (m + length xs) t.at
    counting_along m s [] t e I y = subst (λ (o : Outgoing). Counting (m + 0) o.at) y (subst (λ (k : ℕ). Counting k s.at) (omega arith) I)
    counting_along m s (x ∷ xs) t e I (j, step, y) =
        let (a, b, f) = stepped s j e step in
        let J : Counting (m + 1) j.at = subst (λ (r : Option ℕ). Counting (m + 1) r) (sym b) (counting_more m x (subst (λ (r : Option ℕ). Counting m r) a I)) in
        subst (λ (k : ℕ). Counting k t.at) (omega arith) (counting_along (m + 1) j xs t f J y)

  pub counting_end : (m : ℕ) → Counting m None → m ≡ degree_of cs v
  unfolding count
  counting_end m I = omega (arith, I.counted)
