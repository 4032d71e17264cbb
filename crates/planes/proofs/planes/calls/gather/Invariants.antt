use Rattle.std.proofs.Common.{◌*◌}
use Rattle.mesh.specs.Model.{surface, points}
use Rattle.planes.specs.Accounts.{Gathered}
use Rattle.planes.proofs.planes.calls.gather.Given as goal

abbrev pub invariant-loop-t : goal.invariant-loop-t
invariant-loop-t l = Gathered (surface l.mesh) (points l.mesh) 0 l.initial.table → Gathered (surface l.mesh) (points l.mesh) (3 * l.t) l.table
