use Rattle.surface.proofs.PiecesKept.{pieces_kept}
use Rattle.surface.proofs.pieces_kept_law.Goals as goal

pub returns : goal.returns
returns c = record { stands = pieces_kept }
