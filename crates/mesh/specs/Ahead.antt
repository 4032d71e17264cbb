-- What a walk round a vertex still gives.
use Rattle.std.specs.Prelude.{ℕ, List}
use Rattle.mesh.specs.Rings.{left_from}
use Rattle.mesh.specs.declared.halfedges.ring.Ring.{Ring}

abbrev pub rest : Ring → List ℕ
rest r = left_from r.edges.now r.first r.ahead
