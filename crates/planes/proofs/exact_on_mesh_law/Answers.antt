use Rattle.planes.proofs.OnMesh.{exact_on_mesh}
use Rattle.planes.proofs.exact_on_mesh_law.Goals as goal

pub returns : goal.returns
returns c = record { stands = exact_on_mesh }
