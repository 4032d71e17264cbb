-- The answers of the ledger, from what the calls return.
use Rattle.std.specs.Prelude.{ℕ, Some, None, Ok, Err, Option, Result}
use Rattle.mesh.specs.declared.mesh.permits.CollapseRefusal.{CollapseRefusal}
pub use Rattle.ledger.specs.Refusals.{refusal_of}
use Rattle.queue.specs.declared.keys.Key.{Key}
use Rattle.ledger.specs.declared.call.Answer.{Answer}
use Rattle.ledger.specs.declared.call.Answer.TheVariants.{Collapsed, Stepped, Split, Redone, Went, Refused}
use Rattle.ledger.specs.declared.call.Refusal.{Refusal}
use Rattle.ledger.specs.declared.call.Refusal.TheVariants.{NonePermitted, NothingDone, NothingAhead, BeyondLog}

abbrev pub collapse_answer : {C : Type 0} → Result C CollapseRefusal → Answer C
collapse_answer (Ok cost) = Collapsed cost
collapse_answer (Err x) = Refused (refusal_of x)

abbrev pub step_answer : {C : Type 0} → Option (Key C) → Answer C
step_answer (Some k) = Stepped k.u k.w k.cost
step_answer None = Refused NonePermitted

abbrev pub split_answer : {C : Type 0} → Option ℕ → Answer C
split_answer (Some position) = Split position
split_answer None = Refused NothingDone

abbrev pub redo_answer : {C : Type 0} → Option ℕ → Answer C
redo_answer (Some position) = Redone position
redo_answer None = Refused NothingAhead

abbrev pub go_answer : {C : Type 0} → Option ℕ → Answer C
go_answer (Some moves) = Went moves
go_answer None = Refused BeyondLog

abbrev pub answer_of : {C : Type 0} → Result (Answer C) Refusal → Answer C
answer_of (Ok answer) = answer
answer_of (Err why) = Refused why
