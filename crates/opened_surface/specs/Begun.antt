-- The parts of opening a gathered surface with a gauge.
use Rattle.std.specs.Prelude.{◌≡◌, ◌≤◌, length, replicate, None, Ok, Err, vec_items, vec_len, Result}
use Rattle.gathering.specs.Model.{positions, corners}
use Rattle.gathering.specs.declared.gathering.Gathering.{Gathering}
use Rattle.judging.specs.Verdict.{Judged}
use Rattle.judging.specs.declared.verdict.Counts.{Counts}
use Rattle.mesh.specs.Model.{surface, points}
use Rattle.mesh.specs.declared.mesh.Mesh.{Mesh}
use Rattle.order.specs.declared.Ordered.{Ghosts as Order}
use Rattle.queue.specs.Meaning.{keys_of}
use Rattle.queue.specs.declared.Queue.{Queue}
use Rattle.gauge.specs.declared.Gauge.{Ghosts}
use Rattle.opened_surface.specs.Openings.{WhyNot}
use Rattle.opened_surface.specs.Stale.{Sized, repriced, reopened}
use Rattle.opened_surface.specs.Tied.{Tied}
use Rattle.opened_surface.specs.declared.stale.Stale.{Stale}
use Rattle.opened_surface.specs.declared.thinning.Thinning.{Thinning}
use Rattle.opened_surface.specs.declared.opened.opening.OpenRefusal.TheVariants.{Flawed, TooManyVertices}
use Rattle.opened_surface.specs.declared.opened.opening.Why.{Why}
use Rattle.opened_surface.specs.declared.opened.opening.Why.TheVariants.{Refused, NoMemory}

-- why a gathering with too many vertices is not opened
abbrev pub LargeWhy : Gathering → Why → Type 0
LargeWhy g (Refused (Flawed f)) = Judged (positions g) (corners g) (Err f)
LargeWhy g (Refused TooManyVertices) = (n : Counts) × Judged (positions g) (corners g) (Ok n)
LargeWhy g NoMemory = Unit {0}

-- an empty queue with a place for each half-edge, and sets with a place for each vertex
pub record Empty {C : Type 0} (o : Order C) (mesh : Mesh) (queue : Queue C o) (stale : Stale) : Type 0 where
  pub none : keys_of queue ≡ replicate (vec_len mesh.edges.corners) None
  pub sized : Sized mesh stale

-- a gathering whose vertices the gauge takes, with an empty queue and empty sets for it
pub record Prepared {G C E Z : Type 0} (m : Ghosts G C E Z) (o : Order C) (g : Gathering) (gauge : G) (queue : Queue C o) (stale : Stale) : Type 0 where
  pub taken : length (positions g) ≤ m.capacity gauge
  pub none : keys_of queue ≡ replicate (length (corners g)) None
  pub fresh : (repriced stale ≡ replicate (length (positions g)) None) × (reopened stale ≡ replicate (length (positions g)) None)

-- or why there is none
abbrev pub Prepares : {G C E Z : Type 0} → Ghosts G C E Z → (o : Order C) → Gathering → G → Result (Queue C o × Stale) Why → Type 0
Prepares m o g gauge (Ok x) = Prepared m o g gauge x.0 x.1
Prepares m o g gauge (Err why) = WhyNot m g gauge why

-- what begins with a mesh, a gauge that takes its vertices and an empty queue
pub record Begun {G C E Z : Type 0} (m : Ghosts G C E Z) (o : Order C) (mesh : Mesh) (gauge : G) (queue : Queue C o) (stale : Stale) (x : Thinning G C E Z o) : Type 0 where
  pub mesh_same : x.mesh ≡ mesh
  pub setting_same : m.setting x.gauge ≡ m.setting gauge
  pub account_is : length (vec_items mesh.positions) ≤ m.capacity gauge → m.account x.gauge ≡ m.opening (m.setting gauge) (surface mesh) (points mesh) (length (vec_items mesh.positions))
  pub tied : length (vec_items mesh.positions) ≤ m.capacity gauge → mesh.position ≡ 0 → Empty o mesh queue stale → Tied m o x
