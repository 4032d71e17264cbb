use Rattle.surface.proofs.Changes.{permitted_local}
use Rattle.surface.proofs.permitted_local_law.Goals as goal

pub returns : goal.returns
returns c = record { stands = permitted_local }
