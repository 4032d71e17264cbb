use Rattle.drawing.proofs.Fitting.{drawn_and_regathered_whole}
use Rattle.drawing.proofs.law.drawn_and_regathered_whole_law.Goals as goal

pub returns : goal.returns
returns c = record { stands = drawn_and_regathered_whole }
