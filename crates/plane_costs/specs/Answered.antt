-- What a list of calls answers of costs, each of the book as it stood then.
use Rattle.std.specs.Prelude.{◌≡◌, ℕ, ◌<◌, List, length, take, slice_index_or}
use Rattle.planes.specs.Meaning.{by_planes, whole_order}
use Rattle.ledger.specs.Book.{Book}
use Rattle.ledger.specs.Ledger.{Kept}
use Rattle.ledger.specs.declared.call.Call.{Call}
use Rattle.ledger.specs.declared.call.Call.TheVariants.{Collapse, Split}
use Rattle.ledger.specs.declared.call.Answer.{Answer}
use Rattle.ledger.specs.declared.call.Answer.TheVariants.{Collapsed, Stepped, Split as Parted, Redone, Went, Refused}
use Rattle.plane_costs.specs.ExactCost.{ExactCost}

-- the answer to the call c on the book b: the cost is exact, of the collapse that was asked for or of the one that a step took
abbrev pub ExactAnswer : Book → Call → Answer ℕ → Type 0
ExactAnswer b c (Collapsed k) = (u w : ℕ) → c ≡ Collapse u w → ExactCost b u w k
ExactAnswer b c (Stepped u w k) = ExactCost b u w k
ExactAnswer b c (Parted k) = Unit {0}
ExactAnswer b c (Redone k) = Unit {0}
ExactAnswer b c (Went k) = Unit {0}
ExactAnswer b c (Refused e) = Unit {0}

-- the answer at place i of a list of calls on the book b
pub record ExactAt (b : Book) (calls : List Call) (answers : List (Answer ℕ)) (i : ℕ) : Type 0 where
  pub stood : Book  -- the book as it stood then: after the calls before
  pub before : Kept by_planes whole_order tt b (take i calls) (take i answers) stood
  pub exact : ExactAnswer stood (slice_index_or calls i Split) (slice_index_or answers i (Went 0))

-- each of the answers
abbrev pub AllExact : Book → List Call → List (Answer ℕ) → Type 0
AllExact b calls answers = (i : ℕ) → i < length calls → ExactAt b calls answers i
