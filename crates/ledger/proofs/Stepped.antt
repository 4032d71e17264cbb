-- Each step of what the ledger keeps was right.
use Rattle.std.proofs.Common.{zero, suc, List, refl, subst, arith}
use Rattle.order.specs.declared.Ordered.{Ghosts as Order}
use Rattle.gauge.specs.declared.Gauge.{Ghosts}
use Rattle.ledger.specs.Book.{Book}
use Rattle.ledger.specs.Ledger.{Entry, steps, none_permitted, Kept, none, next}
use Rattle.ledger.specs.Stepped.{StepRight, AllSteps}
use Rattle.ledger.specs.Laws.{StepInWords}
use Rattle.ledger.specs.declared.call.Call.{Call}
use Rattle.ledger.specs.declared.call.Call.TheVariants.{Step}
use Rattle.ledger.specs.declared.call.Answer.{Answer}

module _ {G C E S : Type 0} (m : Ghosts G C E S) (o : Order C) (words : StepInWords m o) (s : S) where
  pub step_right : {b d : Book} {r : Answer C} → Entry m o s b Step r d → StepRight m o s b r
  step_right (steps {b = b} {u = u} {w = w} f) = ((words s b u w).0 f, refl)
  step_right (none_permitted n) = n

  pub steps_right : {b d : Book} {cs : List Call} {rs : List (Answer C)} → Kept m o s b cs rs d → AllSteps m o s b cs rs
  steps_right none i l e = absurd (omega arith)
  steps_right (next {a = a} {b = b} {c = c} {r = r} x k) zero l e =
      record { stood = a; before = none; right = step_right (subst (λ (d : Call). Entry m o s a d r b) e x) }
  steps_right (next x k) (suc i) l e =
      let t = steps_right k i (omega arith) e in
      record { stood = t.stood; before = next x t.before; right = t.right }
