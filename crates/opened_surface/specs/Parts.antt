-- What an opened surface holds: the mesh, which is the surface as it is now with its log, and the gauge.
use Rattle.mesh.specs.declared.mesh.Mesh.{Mesh}
use Rattle.order.specs.declared.Ordered.{Ghosts as Order}
use Rattle.gauge.specs.declared.Gauge.{Ghosts}
use Rattle.opened_surface.specs.declared.opened.Opened.{Opened}

abbrev pub mesh_of : {G C E Z : Type 0} {m : Ghosts G C E Z} {o : Order C} → Opened G C E Z m o → Mesh
mesh_of x = x.thinning.mesh

abbrev pub gauge_of : {G C E Z : Type 0} {m : Ghosts G C E Z} {o : Order C} → Opened G C E Z m o → G
gauge_of x = x.thinning.gauge
