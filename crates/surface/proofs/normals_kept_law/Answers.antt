use Rattle.surface.proofs.Normals.{normals_kept}
use Rattle.surface.proofs.normals_kept_law.Goals as goal

pub returns : goal.returns
returns c = record { stands = normals_kept }
