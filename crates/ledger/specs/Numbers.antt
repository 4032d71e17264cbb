-- The numbers of the refusals.
use Rattle.std.specs.Prelude.{ℕ}
use Rattle.ledger.specs.declared.call.Refusal.{Refusal}
use Rattle.ledger.specs.declared.call.Refusal.TheVariants.{NoSide, NotClosed, Folds, NonePermitted, NothingDone, NothingAhead, BeyondLog}

abbrev pub number : Refusal → ℕ
number NoSide = 13
number NotClosed = 14
number Folds = 15
number NonePermitted = 16
number NothingDone = 17
number NothingAhead = 18
number BeyondLog = 19
