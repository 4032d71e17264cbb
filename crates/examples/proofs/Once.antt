-- The octahedron after its first step.
use Rattle.std.proofs.Common.{◌≡◌, ℕ, false, pos, refl, inr}
use Rattle.std.proofs.lemmas.Bool.{both_ways}
use Rattle.surface.specs.Surface.{Surface, Tri, Side}
use Rattle.surface.specs.Closed.{Closed}
use Rattle.surface.specs.Collapse.{collapse, Moved}
use Rattle.surface.specs.Permitted.{Upright}
use Rattle.ledger.specs.Book.{Sensible, surface_now, PermittedNow}
use Rattle.ledger.specs.Ledger.{not_closed, folds}
use Rattle.ledger.specs.declared.call.Call.TheVariants.{Collapse, Step}
use Rattle.ledger.specs.declared.call.Answer.TheVariants.{Stepped}
use Rattle.ledger.specs.declared.call.Refusal.TheVariants.{NotClosed, Folds}
use Rattle.ledger.proofs.Preserves.{standing, within_at, noted_sensible}
use Rattle.examples.specs.Octahedron.{octahedron, once, twice}
use Rattle.examples.specs.Words.{Answered, RefusedBy, turned}
use Rattle.examples.proofs.Sided.{told_side}
use Rattle.examples.proofs.Turning.{holds_has}
use Rattle.examples.proofs.Permitting.{seamless_told}
use Rattle.examples.proofs.Standing.{permitted_at, clashing}
use Rattle.examples.proofs.Stepping.{stepped}
use Rattle.examples.proofs.Opening.{octahedron_sensible, all_permitted}
use Rattle.examples.proofs.Costs.{opening, opening_is, merged, merged_is}
use Rattle.examples.proofs.Computing.{tests, prices}

zero_to_one : PermittedNow octahedron 0 1
unfolding tests
zero_to_one = all_permitted 0 1 (told_side (surface_now octahedron) 8 0 1 refl)

pub first_step : Answered octahedron Step (Stepped 0 1 8000000) once
unfolding prices opening
first_step = stepped octahedron octahedron_sensible opening opening_is 0 1 8000000 zero_to_one refl refl

pub once_sensible : Sensible once
once_sensible = noted_sensible octahedron octahedron_sensible 0 1 zero_to_one

abbrev S : Surface
S = surface_now once

pub third_corners : Tri S 3 1 2 4 × Tri S 15 2 1 5
unfolding tests
third_corners = (record { lives = refl; from = refl; to = refl; third = refl }, record { lives = refl; from = refl; to = refl; third = refl })

pub third_neighbour : Side S 1 3 × Side S 2 3
unfolding tests
third_neighbour = (told_side S 8 1 3 refl, told_side S 8 2 3 refl)

pub refused_closed : RefusedBy once (Collapse 1 2) 14
unfolding tests
refused_closed = (NotClosed, refl, not_closed (told_side S 8 1 2 refl) (clashing once once_sensible 3 refl refl))

-- the triangle 3 1 4 is moved by the collapse of 4 to 2
pub upended : Moved S 4 2 3
unfolding tests
upended = record { lives = refl; held = inr (inr refl); free = λ k. both_ways false refl (holds_has S 3 2 k) }

pub right_angle : (t : ℕ) × Moved S 4 2 t × (turned once 4 2 t ≡ pos 0)
unfolding tests
right_angle = (3, upended, refl)

pub folding : RefusedBy once (Collapse 4 2) 15
unfolding tests
folding = (Folds, refl, folds (told_side S 8 4 2 refl) outcome over)
  where
    outcome : Closed (collapse S 4 2)
    outcome = seamless_told S (standing once once_sensible).closed 8 6 (within_at once once_sensible 1) 8 refl refl

    over : Upright S once.points 4 2 → ⊥
    over k = (k 3 upended).lt

two_to_four : PermittedNow once 2 4
unfolding tests
two_to_four = permitted_at once once_sensible 4 refl refl

pub four_to_three : PermittedNow once 4 3
unfolding tests
four_to_three = permitted_at once once_sensible 11 refl refl

pub second_step : Answered once Step (Stepped 2 4 8000000) twice
unfolding prices opening merged
second_step = stepped once once_sensible merged merged_is 2 4 8000000 two_to_four refl refl

pub twice_sensible : Sensible twice
twice_sensible = noted_sensible once once_sensible 2 4 two_to_four
