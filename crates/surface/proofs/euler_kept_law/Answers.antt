use Rattle.surface.proofs.Thinned.{euler_kept}
use Rattle.surface.proofs.euler_kept_law.Goals as goal

pub returns : goal.returns
returns c = record { stands = euler_kept }
