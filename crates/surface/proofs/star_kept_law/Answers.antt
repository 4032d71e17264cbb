use Rattle.surface.proofs.Changes.{star_kept}
use Rattle.surface.proofs.star_kept_law.Goals as goal

pub returns : goal.returns
returns c = record { stands = star_kept }
