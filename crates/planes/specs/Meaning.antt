-- What the gauge by planes means, as a whole, and the order of its costs.
use Rattle.std.specs.Prelude.{ℕ}
use Rattle.order.specs.declared.Ordered.{Ghosts as Order}
use Rattle.order.specs.contracts.U64Ordered.TheImpl.{ghosts as whole_ordered}
use Rattle.gauge.specs.declared.Gauge.{Ghosts}
use Rattle.planes.specs.declared.planes.Planes.{Planes}
use Rattle.planes.specs.declared.quadric.Quadric.{Quadric}
use Rattle.planes.specs.contracts.planes.calls.PlanesGauge.TheImpl.{ghosts as planes_gauge}

abbrev pub by_planes : Ghosts Planes ℕ Quadric (Unit {0})
by_planes = planes_gauge

-- costs are whole numbers
abbrev pub whole_order : Order ℕ
whole_order = whole_ordered
