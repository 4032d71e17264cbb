use Rattle.ledger.proofs.Deciding.{folds_in_words}
use Rattle.ledger.proofs.laws.folds_in_words_law.Goals as goal

pub returns : goal.returns
returns c = record { stands = folds_in_words }
