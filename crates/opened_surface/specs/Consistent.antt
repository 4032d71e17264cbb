-- What holds of every opened surface that its own calls made.
use Rattle.std.specs.Prelude.{Ok}
use Rattle.judging.specs.Verdict.{JudgedSurface}
use Rattle.mesh.specs.Laws.{triangle_slots, vertex_slots}
use Rattle.mesh.specs.Model.{opening, points}
use Rattle.order.specs.declared.Ordered.{Ghosts as Order}
use Rattle.gauge.specs.declared.Gauge.{Ghosts}
use Rattle.opened_surface.specs.Parts.{mesh_of}
use Rattle.opened_surface.specs.Tied.{Tied}
use Rattle.opened_surface.specs.declared.opened.Opened.{Opened}

-- gauge and queue are tied to the mesh, and the surface was accepted with its counts as it was opened; m is what the gauge means,
-- and o the order of its costs
pub record Consistent {G C E Z : Type 0} (m : Ghosts G C E Z) (o : Order C) (x : Opened G C E Z m o) : Type 0 where
  pub tied : Tied m o x.thinning
  pub judged : JudgedSurface (opening (mesh_of x)) (points (mesh_of x)) (triangle_slots (mesh_of x)) (vertex_slots (mesh_of x)) (Ok x.counts)
