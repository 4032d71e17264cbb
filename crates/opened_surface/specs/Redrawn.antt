-- The surface of a mesh, drawn and gathered again, is accepted.
use Rattle.std.specs.Prelude.{Ok, Err, Result}
use Rattle.gathering.specs.Model.{positions, corners}
use Rattle.gathering.specs.declared.gathering.Gathering.{Gathering}
use Rattle.judging.specs.Verdict.{Judged, Counted}
use Rattle.judging.specs.declared.verdict.Counts.{Counts}
use Rattle.mesh.specs.Laws.{triangle_slots, vertex_slots}
use Rattle.mesh.specs.Model.{surface}
use Rattle.mesh.specs.declared.mesh.Mesh.{Mesh}
use Rattle.drawing.specs.declared.regathering.Unfit.{Unfit}

-- the gathered surface is closed, with no zero normal, and has as many vertices and triangles, the Euler number and the pieces of the
-- surface of m as it is now
pub record AcceptedAs (m : Mesh) (g : Gathering) : Type 0 where
  pub counts : Counts
  pub judged : Judged (positions g) (corners g) (Ok counts)
  pub counted : Counted (surface m) (triangle_slots m) (vertex_slots m) counts

-- of what was gathered again, if there was memory
abbrev pub AcceptedAgain : Mesh → Result Gathering Unfit → Type 0
AcceptedAgain m (Ok g) = AcceptedAs m g
AcceptedAgain m (Err e) = Unit {0}
