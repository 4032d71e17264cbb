use Rattle.std.proofs.Common.{ℕ, ◌<◌}
use Rattle.gathering.specs.Model.{point_of}
use Rattle.planes.specs.Exact.{Bytes}
use Rattle.plane_costs.proofs.coordinates.look_at.Given as goal

abbrev pub invariant-loop-position : goal.invariant-loop-position
invariant-loop-position l = (v : ℕ) → v < l.position-index → Bytes (point_of l.positions v)
