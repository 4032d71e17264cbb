-- Worked examples: an octahedron that is opened on the gauge by planes and thinned, and flawed gatherings.
use Rattle.std.specs.Prelude.{◌≡◌, ℕ, [], ◌∷◌, pos, Ok}
use Rattle.surface.specs.Surface.{Tri, Side}
use Rattle.surface.specs.Closed.{Closed}
use Rattle.surface.specs.Collapse.{Moved}
use Rattle.judging.specs.Verdict.{Judged}
use Rattle.ledger.specs.Book.{surface_now, PermittedNow}
use Rattle.ledger.specs.Ledger.{noted, placed_at}
use Rattle.ledger.specs.declared.call.Call.TheVariants.{Collapse, Step, Split, Redo, Go}
use Rattle.ledger.specs.declared.call.Answer.TheVariants.{Collapsed, Stepped, Split as Parted, Went, Refused}
use Rattle.ledger.specs.declared.call.Refusal.TheVariants.{NothingAhead}
use Rattle.examples.specs.Octahedron.{positions, corners, octahedron, once, twice}
use Rattle.examples.specs.Flawed.{alone, sheet, double, Flawed}
use Rattle.examples.specs.Words.{planes_cost, SweepCost, Answered, AllAnswered, RefusedBy, turned, LiesFlat}

pub record Examples : Type 0 where
  -- the octahedron is closed, of 6 vertices and 8 triangles, with Euler number 2, in 1 piece
  pub accepted : Judged positions corners (Ok (record { vertices = 6; triangles = 8; euler = pos 2; pieces = 1 }))
  -- each of its sides may be collapsed, for 8,000,000 by planes, and for 4,000 over 2 by sweep
  pub all_permitted : (u w : ℕ) → Side (surface_now octahedron) u w → PermittedNow octahedron u w
  pub all_by_planes : (u w : ℕ) → Side (surface_now octahedron) u w → planes_cost octahedron u w ≡ 8000000
  pub all_by_sweep : (u w : ℕ) → Side (surface_now octahedron) u w → SweepCost octahedron u w 4000 2
  -- so a step takes the foremost of them: 0 is collapsed to 1
  pub first_step : Answered octahedron Step (Stepped 0 1 8000000) once
  -- then 1 and 2 have, beside the third corners 4 and 5 at their side, the common neighbour 3: their collapse would not leave a
  -- closed surface
  pub third_corners : Tri (surface_now once) 3 1 2 4 × Tri (surface_now once) 15 2 1 5
  pub third_neighbour : Side (surface_now once) 1 3 × Side (surface_now once) 2 3
  pub not_closed : RefusedBy once (Collapse 1 2) 14
  -- the collapse of 4 to 2 would turn a triangle by just a right angle
  pub right_angle : (t : ℕ) × Moved (surface_now once) 4 2 t × (turned once 4 2 t ≡ pos 0)
  pub folding : RefusedBy once (Collapse 4 2) 15
  -- the collapse of 4 to 1 costs twice as much as that of 4 to 3, since 1 has the planes of 0 too
  pub dearer : planes_cost once 4 1 ≡ 16000000
  pub as_dear : planes_cost once 4 3 ≡ 8000000
  -- a step takes the foremost of those that cost 8,000,000 and are permitted: 2 is collapsed to 4
  pub second_step : Answered once Step (Stepped 2 4 8000000) twice
  -- four triangles are left, closed and flat: nothing may be collapsed, and nothing lies ahead
  pub still_closed : Closed (surface_now twice)
  pub flat : LiesFlat twice
  pub all_refused : (u w : ℕ) → Side (surface_now twice) u w → RefusedBy twice (Collapse u w) 14
  pub no_step : RefusedBy twice Step 16
  pub no_redo : RefusedBy twice Redo 18
  -- a collapse after a split drops the record that lay ahead
  pub dropped : AllAnswered twice (Split ∷ Collapse 4 3 ∷ Redo ∷ []) (Parted 1 ∷ Collapsed 8000000 ∷ Refused NothingAhead ∷ []) (noted once 4 3)
  -- at position 0 the triangle list is the opening one, and there is no position 3
  pub gone_back : Answered twice (Go 0) (Went 2) (placed_at twice 0) × (surface_now (placed_at twice 0) ≡ octahedron.opened)
  pub beyond : RefusedBy twice (Go 3) 19
  -- on three vertices: a triangle and the same turned over make no ring at vertex 0
  pub no_ring : Flawed sheet 9 0
  -- a triangle alone has a side that is not met
  pub unmet : Flawed alone 8 0
  -- a triangle that stands twice has a side twice
  pub side_twice : Flawed double 7 0
