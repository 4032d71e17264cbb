-- What each step of a list of calls took, of the book as it stood then.
use Rattle.std.specs.Prelude.{◌≡◌, ℕ, ◌<◌, List, length, take, slice_index_or}
use Rattle.order.specs.declared.Ordered.{Ghosts as Order}
use Rattle.gauge.specs.declared.Gauge.{Ghosts}
use Rattle.ledger.specs.Book.{Book, cost_now}
use Rattle.ledger.specs.Choice.{InWords, NonePermittedNow}
use Rattle.ledger.specs.Ledger.{Kept}
use Rattle.ledger.specs.declared.call.Call.{Call}
use Rattle.ledger.specs.declared.call.Call.TheVariants.{Step, Split}
use Rattle.ledger.specs.declared.call.Answer.{Answer}
use Rattle.ledger.specs.declared.call.Answer.TheVariants.{Collapsed, Stepped, Split as Parted, Redone, Went, Refused}
use Rattle.ledger.specs.declared.call.Refusal.TheVariants.{NoSide, NotClosed, Folds, NonePermitted, NothingDone, NothingAhead, BeyondLog}

-- m is what a gauge means, o the order of its costs, and s its setting
module _ {G C E S : Type 0} (m : Ghosts G C E S) (o : Order C) (s : S) where
  -- the answer to a step on the book b: the collapse of u to w was permitted, every other permitted one costs more, or ranks equal
  -- and has a greater u, or ranks equal with the same u and a greater w, and the cost is what this one cost; or none was permitted
  abbrev pub StepRight : Book → Answer C → Type 0
  StepRight b (Stepped u w cost) = InWords m o s b u w × (cost ≡ cost_now m s b u w)
  StepRight b (Refused NonePermitted) = NonePermittedNow b
  StepRight b (Refused NoSide) = ⊥
  StepRight b (Refused NotClosed) = ⊥
  StepRight b (Refused Folds) = ⊥
  StepRight b (Refused NothingDone) = ⊥
  StepRight b (Refused NothingAhead) = ⊥
  StepRight b (Refused BeyondLog) = ⊥
  StepRight b (Collapsed cost) = ⊥
  StepRight b (Parted k) = ⊥
  StepRight b (Redone k) = ⊥
  StepRight b (Went k) = ⊥

  -- the step at place i of a list of calls on the book b
  pub record StepAt (b : Book) (calls : List Call) (answers : List (Answer C)) (i : ℕ) : Type 0 where
    pub stood : Book  -- the book as it stood then: after the calls before
    pub before : Kept m o s b (take i calls) (take i answers) stood
    pub right : StepRight stood (slice_index_or answers i (Went 0))

  -- each step among the calls
  abbrev pub AllSteps : Book → List Call → List (Answer C) → Type 0
  AllSteps b calls answers = (i : ℕ) → i < length calls → slice_index_or calls i Split ≡ Step → StepAt b calls answers i

-- of whatever the ledger keeps, each step was right
abbrev pub StepsRight : {G C E S : Type 0} → Ghosts G C E S → Order C → Type 0
StepsRight {C = C} {S = S} m o = (s : S) (b d : Book) (calls : List Call) (answers : List (Answer C)) → Kept m o s b calls answers d → AllSteps m o s b calls answers
