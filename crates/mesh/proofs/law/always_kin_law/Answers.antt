use Rattle.mesh.proofs.Kinship.{always_kin}
use Rattle.mesh.proofs.law.always_kin_law.Goals as goal

pub returns : goal.returns
returns c = record { stands = always_kin }
