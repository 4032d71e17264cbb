-- What a collapse costs after calls on a gathered surface, opened on the gauge by planes.
use Rattle.std.specs.Prelude.{ℕ, List, Ok, Err, vec_items, Result}
use Rattle.gathering.specs.Model.{positions, corners}
use Rattle.gathering.specs.declared.gathering.Gathering.{Gathering}
use Rattle.planes.specs.Meaning.{by_planes, whole_order}
use Rattle.planes.specs.declared.planes.Planes.{Planes}
use Rattle.ledger.specs.declared.call.Call.{Call}
use Rattle.opened_surface.specs.Openings.{first_book, HandedBack}
use Rattle.opened_surface.specs.Parts.{mesh_of}
use Rattle.opened_surface.specs.Thinned.{ThinnedBy}
use Rattle.opened_surface.specs.declared.opened.opening.Unopened.{Unopened}
use Rattle.plane_costs.specs.Answered.{AllExact}
use Rattle.plane_costs.specs.ExactCost.{CostNow}
use Rattle.plane_costs.specs.declared.after.Costed.{Costed}

-- the gathered surface g is opened, all is promised of the calls on it, every cost that they answered is exact, of the surface as it
-- stood then, and so is the cost at the end, of the surface as they left it
pub record CostedBy (g : Gathering) (gauge : Planes) (calls : List Call) (u w : ℕ) (x : Costed) : Type 0 where
  pub thinned_by : ThinnedBy by_planes whole_order g gauge calls x.thinned
  pub answers_exact : AllExact (first_book (positions g) (corners g)) calls (vec_items x.thinned.answers)
  pub cost_is : CostNow (mesh_of x.thinned.opened) u w x.cost

-- or it is not opened, and gathering and gauge are handed back
abbrev pub CostsAfter : Gathering → Planes → List Call → ℕ → ℕ → Result Costed (Unopened Planes) → Type 0
CostsAfter g gauge calls u w (Ok x) = CostedBy g gauge calls u w x
CostsAfter g gauge calls u w (Err f) = HandedBack by_planes g gauge f
