-- A gauge never has more entries than it takes vertices.
use Rattle.std.proofs.Common.{◌≤◌, length, arith}
use Rattle.planes.specs.Model.{account, capacity}
use Rattle.planes.specs.declared.planes.Planes.{Planes}

pub entries_fit : (g : Planes) → length (account g) ≤ capacity g
entries_fit g = omega (arith, g.within, g.table.ok.0)
