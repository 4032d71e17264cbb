use Rattle.drawing.proofs.Shapes.{closing_up}
use Rattle.drawing.proofs.law.closing_up_law.Goals as goal

pub returns : goal.returns
returns c = record { stands = closing_up }
