use Rattle.drawing.proofs.Returned.{drawn_back}
use Rattle.drawing.proofs.law.drawn_back_law.Goals as goal

pub returns : goal.returns
returns c = record { stands = drawn_back }
