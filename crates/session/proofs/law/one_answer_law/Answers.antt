use Rattle.session.proofs.SessionOnce.{answered_once}
use Rattle.session.proofs.law.one_answer_law.Goals as goal

pub returns : goal.returns
returns c = record { stands = answered_once }
