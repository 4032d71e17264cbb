-- The octahedron after its second step.
use Rattle.std.proofs.Common.{◌≡◌, ℕ, ◌+◌, ◌*◌, not, ◌||◌, eqb, [], ◌∷◌, ℤ, pos, negsuc, nat_abs, refl, ap, subst, arith, lit<, lit≤}
use Rattle.std.proofs.lemmas.Bool.{eqb-true}
use Rattle.surface.specs.Surface.{Surface, prev, Side}
use Rattle.surface.specs.Closed.{Closed}
use Rattle.surface.specs.Geometry.{six_volume}
use Rattle.surface.proofs.Tris.{tri_at}
use Rattle.ledger.specs.Book.{surface_now, PermittedNow}
use Rattle.ledger.specs.Ledger.{noted, placed_at, collapses, not_closed, none_permitted, splits, nothing_ahead, goes, beyond_log, none, next as then}
use Rattle.ledger.specs.declared.call.Call.TheVariants.{Collapse, Step, Split, Redo, Go}
use Rattle.ledger.specs.declared.call.Answer.TheVariants.{Collapsed, Split as Parted, Went, Refused}
use Rattle.ledger.specs.declared.call.Refusal.TheVariants.{NotClosed, NonePermitted, NothingAhead, BeyondLog}
use Rattle.ledger.proofs.Preserves.{standing, within_at}
use Rattle.examples.specs.Octahedron.{octahedron, once, twice}
use Rattle.examples.specs.Words.{Answered, AllAnswered, RefusedBy, LiesFlat}
use Rattle.examples.proofs.Every.{every, every_at, if_so}
use Rattle.examples.proofs.Standing.{tight, tightly, of_sides}
use Rattle.examples.proofs.Costs.{as_dear}
use Rattle.examples.proofs.Once.{four_to_three, twice_sensible}
use Rattle.examples.proofs.Computing.{tests, prices}

abbrev S : Surface
S = surface_now twice

pub still_closed : Closed S
still_closed = (standing twice twice_sensible).closed

size_zero : (z : ℤ) → nat_abs z ≡ 0 → z ≡ pos 0
size_zero (pos n) p = ap pos p
size_zero (negsuc n) p = absurd (omega arith)

-- the six-volume of triangle t at the point of v
abbrev volume : ℕ → ℕ → ℤ
volume t v = six_volume (twice.points (S.corner (3 * t))) (twice.points (S.corner (3 * t + 1))) (twice.points (S.corner (3 * t + 2))) (twice.points v)

pub flat : LiesFlat twice
unfolding tests
flat t v l p =
    let within = within_at twice twice_sensible 2 in
    let all = if_so (S.alive t) _ (every_at (λ t. not (S.alive t) || every (λ v. not (S.present v) || eqb (nat_abs (volume t v)) 0) 6) 8 refl t (within.triangles t l)) l in
    size_zero (volume t v) (eqb-true _ 0 (if_so (S.present v) _ (every_at (λ v. not (S.present v) || eqb (nat_abs (volume t v)) 0) 6 all v (within.vertices v p)) p))

pub all_refused : (u w : ℕ) → Side S u w → RefusedBy twice (Collapse u w) 14
unfolding tests
all_refused =
    of_sides twice twice_sensible (λ u w. RefusedBy twice (Collapse u w) 14) (tight S 8 6) refl
    (λ h l p. (NotClosed, refl, not_closed (h, S.corner (prev h), tri_at S h l) (tightly twice twice_sensible h l p)))

pub no_step : RefusedBy twice Step 16
unfolding tests
no_step = (NonePermitted, refl, none_permitted (λ u w p. never u w p.side p))
  where
    never : (u w : ℕ) → Side S u w → PermittedNow twice u w → ⊥
    never = of_sides twice twice_sensible (λ u w. PermittedNow twice u w → ⊥) (tight S 8 6) refl (λ h l p q. tightly twice twice_sensible h l p q.closed)

pub no_redo : RefusedBy twice Redo 18
no_redo = (NothingAhead, refl, nothing_ahead (lit≤ tt))

pub dropped : AllAnswered twice (Split ∷ Collapse 4 3 ∷ Redo ∷ []) (Parted 1 ∷ Collapsed 8000000 ∷ Refused NothingAhead ∷ []) (noted once 4 3)
unfolding prices
dropped = then (splits (lit< tt)) (then collapsed (then (nothing_ahead (lit≤ tt)) none))
  where
    collapsed : Answered (placed_at twice 1) (Collapse 4 3) (Collapsed 8000000) (noted once 4 3)
    collapsed = subst (λ (c : ℕ). Answered (placed_at twice 1) (Collapse 4 3) (Collapsed c) (noted once 4 3)) as_dear (collapses four_to_three)

pub gone_back : Answered twice (Go 0) (Went 2) (placed_at twice 0) × (surface_now (placed_at twice 0) ≡ octahedron.opened)
unfolding tests
gone_back = (goes (lit≤ tt) (lit≤ tt), refl)

pub beyond : RefusedBy twice (Go 3) 19
beyond = (BeyondLog, refl, beyond_log (lit< tt))
