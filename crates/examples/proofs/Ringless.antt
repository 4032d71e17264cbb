-- A vertex with fewer than three triangles has no ring.
use Rattle.std.proofs.Common.{◌≡◌, ℕ, suc, ◌-◌, ◌*◌, ◌/◌, ◌<◌, ◌≤◌, Bool, ◌&&◌, eqb, ◌⊎◌, List, length, get_or, subst, inl, inr, arith}
use Rattle.std.proofs.lemmas.Bool.{cases_lt, and_from, eq-eqb}
use Rattle.surface.specs.Surface.{Surface, Tri, Within}
use Rattle.surface.specs.Ring.{Ring, Ringed}
use Rattle.surface.specs.Euler.{count}
use Rattle.surface.proofs.Counting.{distinct_count}
use Rattle.examples.proofs.Sided.{low}

-- a live half-edge that begins at v
unfoldable pub starts : Surface → ℕ → ℕ → Bool
starts S v h = S.alive (h / 3) && eqb (S.corner h) v

module _ (S : Surface) (T V : ℕ) (W : Within S T V) (v : ℕ) where
  placed : (l : List ℕ) → Ring S v l → (i : ℕ) → i < length l → (a : ℕ) × (b : ℕ) × Tri S (get_or l i 0) v a b
  placed l R i k = go (cases_lt (suc i) (length l))
    where
      go : (suc i < length l) ⊎ (length l ≤ suc i) → (a : ℕ) × (b : ℕ) × Tri S (get_or l i 0) v a b
      go (inl m) = let (a, b, c, s, t) = R.turns i m in (a, b, s)
      go (inr m) =
          let (a, b, c, s, t) = R.closing in
          let e : length l - 1 ≡ i = omega arith in
          (a, b, subst (λ (j : ℕ). Tri S (get_or l j 0) v a b) e s)

  pub ringless : count (starts S v) (3 * T) < 3 → Ringed S v → ⊥
  unfolding starts
  ringless k (l, R) =
      let three = R.three in
      let most : length l ≤ count (starts S v) (3 * T) =
      distinct_count (starts S v) (3 * T) l (λ i m. let (a, b, t) = placed l R i m in low S T V W t)
      (λ i m. let (a, b, t) = placed l R i m in and_from _ _ t.lives (eq-eqb _ _ t.from)) R.distinct in
      omega arith
