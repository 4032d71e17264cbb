use Rattle.mesh.proofs.Hiding.{way_hidden}
use Rattle.mesh.proofs.law.way_hidden_law.Goals as goal

pub returns : goal.returns
returns c = record { stands = way_hidden }
