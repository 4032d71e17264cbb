-- What collapses of the octahedron cost, as it is opened and after the first step.
use Rattle.std.proofs.Common.{◌≡◌, ℕ, Bool, true, cond, ◌&&◌, eqb, List, map, sym, refl, ap, ◌∙◌, subst, lit≤}
use Rattle.std.specs.List.{range_with_len}
use Rattle.std.proofs.lemmas.Bool.{and_parts, eqb-true}
use Rattle.surface.specs.Surface.{Surface, next, Side}
use Rattle.surface.specs.Euler.{count, total}
use Rattle.surface.specs.Geometry.{Vector}
use Rattle.gauge.specs.Accounts.{changed}
use Rattle.gauge.specs.Near.{near}
use Rattle.planes.specs.declared.quadric.Quadric.{Quadric}
use Rattle.planes.specs.Quadrics.{zero, plus}
use Rattle.planes.specs.Accounts.{gathered}
use Rattle.fraction.specs.declared.Fraction.{Fraction}
use Rattle.sweep.specs.Sweeps.{moves, size, number_moved}
use Rattle.sweep.specs.Prices.{over}
use Rattle.ledger.specs.Book.{surface_now, account_now, cost_now}
use Rattle.planes.specs.Meaning.{by_planes}
use Rattle.sweep.specs.Meaning.{by_sweep}
use Rattle.examples.specs.Octahedron.{octahedron, once}
use Rattle.examples.specs.Words.{planes_cost, SweepCost}
use Rattle.examples.proofs.Sided.{along}
use Rattle.examples.proofs.Standing.{of_sides}
use Rattle.examples.proofs.Stepping.{asked}
use Rattle.examples.proofs.Cuts.{opening_cut, volume_cut, number_cut}
use Rattle.examples.proofs.Opening.{start, points, start_within, octahedron_sensible}
use Rattle.examples.proofs.Computing.{prices}

-- the account as it is opened, and after 0 is merged into 1
unfoldable pub opening : List Quadric
opening = map (λ c. gathered start points c 24) (range_with_len 0 6)

unfoldable pub merged : List Quadric
merged = changed (λ x y. plus y x) zero 0 1 opening

pub opening_is : account_now by_planes tt octahedron ≡ opening
unfolding prices opening
opening_is = opening_cut start 8 6 start_within points 6 (lit≤ tt)

pub merged_is : account_now by_planes tt once ≡ merged
unfolding prices merged
merged_is = ap {B = List Quadric} (changed (λ x y. plus y x) zero 0 1) opening_is

-- by the account L all sides of S cost k
unfoldable alike : Surface → ℕ → (ℕ → Vector) → List Quadric → ℕ → Bool
alike S T P L k = along S T (λ h. eqb (asked L P (S.corner h) (S.corner (next h))) k)

pub all_by_planes : (u w : ℕ) → Side (surface_now octahedron) u w → planes_cost octahedron u w ≡ 8000000
unfolding prices alike opening
all_by_planes =
    of_sides octahedron octahedron_sensible (λ u w. planes_cost octahedron u w ≡ 8000000) _ test
    (λ h l p. subst (λ (M : List Quadric). asked M points (start.corner h) (start.corner (next h)) ≡ 8000000) (sym opening_is) (eqb-true _ 8000000 p))
  where
    test : alike (surface_now octahedron) 8 points opening 8000000 ≡ true
    test = refl

abbrev swept : ℕ → ℕ → ℕ
swept u w = total (λ t. cond (moves u w (near start points u w t)) (size (points w) (near start points u w t)) 0) 8

abbrev shifted : ℕ → ℕ → ℕ
shifted u w = count (λ t. moves u w (near start points u w t)) 8

fraction : (u w a m : ℕ) → swept u w ≡ a → shifted u w ≡ m → cost_now by_sweep tt octahedron u w ≡ over a m
unfolding prices
fraction u w a m i j =
    ap (λ x. over x (number_moved u w (near start points u w))) (volume_cut start 8 6 start_within points u w (points w) (lit≤ tt) ∙ i)
    ∙ ap (over a) (number_cut start 8 6 start_within points u w (lit≤ tt) ∙ j)

pub all_by_sweep : (u w : ℕ) → Side (surface_now octahedron) u w → SweepCost octahedron u w 4000 2
unfolding prices
all_by_sweep =
    of_sides octahedron octahedron_sensible (λ u w. SweepCost octahedron u w 4000 2)
    (λ h. eqb (swept (start.corner h) (start.corner (next h))) 4000 && eqb (shifted (start.corner h) (start.corner (next h))) 2) refl
    (λ h l p. let (i, j) = and_parts _ _ p in both (start.corner h) (start.corner (next h)) (eqb-true _ 4000 i) (eqb-true _ 2 j))
  where
    both : (u w : ℕ) → swept u w ≡ 4000 → shifted u w ≡ 2 → SweepCost octahedron u w 4000 2
    both u w i j = let e = fraction u w 4000 2 i j in (ap (λ (f : Fraction). f.amount) e, ap (λ (f : Fraction). f.divisor) e)

pub dearer : planes_cost once 4 1 ≡ 16000000
unfolding prices opening merged
dearer = subst (λ (M : List Quadric). asked M points 4 1 ≡ 16000000) (sym merged_is) refl

pub as_dear : planes_cost once 4 3 ≡ 8000000
unfolding prices opening merged
as_dear = subst (λ (M : List Quadric). asked M points 4 3 ≡ 8000000) (sym merged_is) refl
