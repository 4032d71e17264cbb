use Rattle.drawing.proofs.Returned.{drawn_back_whole}
use Rattle.drawing.proofs.law.drawn_back_whole_law.Goals as goal

pub returns : goal.returns
returns c = record { stands = drawn_back_whole }
