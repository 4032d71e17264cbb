use Rattle.surface.proofs.PiecesUnique.{pieces_unique}
use Rattle.surface.proofs.pieces_unique_law.Goals as goal

pub returns : goal.returns
returns c = record { stands = pieces_unique }
