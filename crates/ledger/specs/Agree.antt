-- Answers that are the same but for the counts of moves.
use Rattle.std.specs.Prelude.{ℕ, List, [], ◌∷◌}
use Rattle.ledger.specs.declared.call.Answer.{Answer}
use Rattle.ledger.specs.declared.call.Answer.TheVariants.{Went}

pub data Agree {C : Type 0} : Answer C → Answer C → Type 0 where
  same : {r : Answer C} → Agree r r
  moves : {k l : ℕ} → Agree (Went k) (Went l)

-- answer by answer
pub data AllAgree {C : Type 0} : List (Answer C) → List (Answer C) → Type 0 where
  none : AllAgree [] []
  next : {r t : Answer C} {rs ts : List (Answer C)} → Agree r t → AllAgree rs ts → AllAgree (r ∷ rs) (t ∷ ts)
