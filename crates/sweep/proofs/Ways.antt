-- Sums round a vertex. A triangle adds what a function says of its number.
use Rattle.std.proofs.Common.{◌≡◌, ℕ, suc, ◌+◌, ◌*◌, ◌/◌, ◌<◌, ◌≤◌, ◌≢◌, List, length, get_or, sym, refl, ap, ◌∙◌, inl, inr, arith}
use Rattle.std.proofs.lemmas.List.{get_or_default}
use Rattle.surface.specs.Surface.{Surface, Tri}
use Rattle.surface.specs.Ring.{Ring}
use Rattle.surface.specs.Closed.{Closed}
use Rattle.surface.specs.Euler.{total}
use Rattle.surface.proofs.Tris.{spin2, moved, shares}
use Rattle.mesh.specs.Model.{held}
use Rattle.mesh.specs.declared.halfedges.HalfEdges.{HalfEdges}
use Rattle.mesh.proofs.Round.{closed_held, live_within, ring_tri}
use Rattle.sweep.proofs.Totals.{total_more, total_zero, total_along}

-- there are at most 2,048 triangles
pub low_triangle : (e : HalfEdges) {h a b c : ℕ} → Tri (held e) h a b c → h / 3 < 2048
low_triangle e {h} t = let p = live_within e h t.lives in omega (arith, e.few, e.twin_long, e.twin.ok, e.corners.ok)

-- a triangle has one half-edge at each of its corners
one_edge : {S : Surface} → Closed S → {h g v a b x y : ℕ} → Tri S h v a b → Tri S g v x y → g / 3 ≡ h / 3 → h ≡ g
one_edge R {h} {g} s t i =
    elim (shares s t i) [
      | inl (p, q) ↦ R.single _ _ _ _ _ _ s (moved refl q refl t)
      | inr (inl (p, q)) ↦ absurd (R.proper _ _ _ _ s p)
      | inr (inr (p, q)) ↦ absurd (R.proper _ _ _ _ (spin2 s) (sym p))
    ]

-- f is zero but at the triangles at v
abbrev pub Only : HalfEdges → ℕ → (ℕ → ℕ) → Type 0
Only e v f = (t : ℕ) → ((g x y : ℕ) → Tri (held e) g v x y → g / 3 ≢ t) → f t ≡ 0

-- what only triangles at v add is summed along the ring round v
module _ (e : HalfEdges) {v : ℕ} {l : List ℕ} (G : Ring (held e) v l) where
  apart : (i j : ℕ) → i < length l → j < length l → get_or l i 0 / 3 ≡ get_or l j 0 / 3 → i ≡ j
  apart i j p q s = G.distinct i j p q (one_edge (closed_held e) (ring_tri G i p).2 (ring_tri G j q).2 (sym s))

  pub total_round : (f : ℕ → ℕ) → Only e v f → total f 2048 ≡ total (λ j. f (get_or l j 0 / 3)) (length l)
  total_round f else =
      total_along f (λ j. get_or l j 0 / 3) 2048 (length l) (λ j p. low_triangle e (ring_tri G j p).2) apart
      (λ n away. else n (λ g x y s i. let (j, p, q) = G.full g x y s in away j p (ap (λ k. k / 3) q ∙ i)))

-- the sums of what A and C say of the triangles of the first n of l
pub record Gone (A C : ℕ → ℕ) (l : List ℕ) (n sum num : ℕ) : Type 0 where
  pub sum_is : sum ≡ total (λ j. A (get_or l j 0 / 3)) n
  pub num_is : num ≡ total (λ j. C (get_or l j 0 / 3)) n
  pub few : num ≤ n
  pub small : sum ≤ 99488250 * n

-- x and y are what A and C say of the triangle of h
pub record Added (A C : ℕ → ℕ) (h x y : ℕ) : Type 0 where
  pub sum_is : x ≡ A (h / 3)
  pub num_is : y ≡ C (h / 3)
  pub few : y ≤ 1
  pub small : x ≤ 99488250

module _ (A C : ℕ → ℕ) (l : List ℕ) where
  pub gone_start : Gone A C l 0 0 0
  gone_start =
      record {
        sum_is = sym (total_zero (λ j. A (get_or l j 0 / 3)));
        num_is = sym (total_zero (λ j. C (get_or l j 0 / 3)));
        few = omega arith;
        small = omega arith;
      }

  pub gone_on : {n m h sum num x y : ℕ} → Gone A C l n sum num → (n < length l) × (h ≡ get_or l n h) → Added A C h x y → m ≡ suc n → Gone A C l m (sum + x) (num + y)
  gone_on {n} {m} {h} G (p, i) D k =
      let at : get_or l n 0 ≡ h = get_or_default l n 0 h p ∙ sym i in
      record {
        sum_is = one_more A _ _ at G.sum_is D.sum_is ∙ ap (total (λ j. A (get_or l j 0 / 3))) (sym k);
        num_is = one_more C _ _ at G.num_is D.num_is ∙ ap (total (λ j. C (get_or l j 0 / 3))) (sym k);
        few = omega (arith, G.few, D.few);
        small = omega (arith, G.small, D.small);
      }
    where
      one_more : (f : ℕ → ℕ) (n h : ℕ) {sum x : ℕ} → get_or l n 0 ≡ h → sum ≡ total (λ j. f (get_or l j 0 / 3)) n → x ≡ f (h / 3) → sum + x ≡ total (λ j. f (get_or l j 0 / 3)) (suc n)
      one_more f n h at p q =
          let m = total_more (λ j. f (get_or l j 0 / 3)) n in
          let r = ap (λ g. f (g / 3)) at in
          omega arith
