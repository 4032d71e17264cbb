-- What a call on an opened surface is answered: what the ledger has, with the figures of the cost.
use Rattle.std.specs.Prelude.{ℕ, Ok, Err, Result}
use Rattle.order.specs.declared.Ordered.{Ghosts as Order}
use Rattle.gauge.specs.declared.Gauge.{Ghosts}
use Rattle.ledger.specs.Book.{Book}
use Rattle.ledger.specs.Ledger.{Entry}
use Rattle.ledger.specs.declared.call.Call.{Call}
use Rattle.ledger.specs.declared.call.Call.TheVariants.{Collapse, Step, Split, Redo, Go}
use Rattle.ledger.specs.declared.call.Answer.TheVariants as answer
use Rattle.ledger.specs.declared.call.Refusal.{Refusal as CallRefusal}
use Rattle.planes.specs.Meaning.{by_planes, whole_order}
use Rattle.sweep.specs.Meaning.{by_sweep, fraction_order}
use Rattle.session.specs.declared.gauges.Gauge.{Gauge}
use Rattle.session.specs.declared.gauges.Gauge.TheVariants.{Planes, Sweep}
use Rattle.session.specs.declared.refusal.Refusal.{Refusal}
use Rattle.session.specs.declared.refusal.Refusal.TheVariants as no
use Rattle.session.specs.declared.reply.Priced.{Priced}
use Rattle.session.specs.declared.reply.Reply.{Reply}
use Rattle.session.specs.declared.reply.Reply.TheVariants as reply

-- the collapse of u to w, with the figures of its cost
abbrev pub priced : {G C E S : Type 0} → Ghosts G C E S → ℕ → ℕ → C → Priced
priced m u w cost = record { u = u; w = w; amount = m.amount cost; divisor = m.divisor cost }

-- m is what the gauge means, o the order of its costs, and s its setting
module _ {G C E S : Type 0} (m : Ghosts G C E S) (o : Order C) (s : S) where
  -- the book before, a call, the reply to it, and the book after
  pub data CallReplied : Book → Call → Result Reply Refusal → Book → Type 0 where
    collapsed : {b d : Book} {u w : ℕ} {cost : C} → Entry m o s b (Collapse u w) (answer.Collapsed cost) d → CallReplied b (Collapse u w) (Ok (reply.Collapsed (priced m u w cost))) d
    stepped : {b d : Book} {u w : ℕ} {cost : C} → Entry m o s b Step (answer.Stepped u w cost) d → CallReplied b Step (Ok (reply.Stepped (priced m u w cost))) d
    -- the new position
    split : {b d : Book} {k : ℕ} → Entry m o s b Split (answer.Split k) d → CallReplied b Split (Ok (reply.Split k)) d
    redone : {b d : Book} {k : ℕ} → Entry m o s b Redo (answer.Redone k) d → CallReplied b Redo (Ok (reply.Redone k)) d
    went : {b d : Book} {k moves : ℕ} → Entry m o s b (Go k) (answer.Went moves) d → CallReplied b (Go k) (Ok (reply.Went k)) d
    refused : {b d : Book} {c : Call} {x : CallRefusal} → Entry m o s b c (answer.Refused x) d → CallReplied b c (Err (no.Call x)) d

-- on the gauge that the surface was opened on
abbrev pub RepliedOn : Gauge → Book → Call → Result Reply Refusal → Book → Type 0
RepliedOn Planes b c r d = CallReplied by_planes whole_order tt b c r d
RepliedOn Sweep b c r d = CallReplied by_sweep fraction_order tt b c r d
