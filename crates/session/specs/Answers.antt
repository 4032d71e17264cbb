-- A call on an opened surface, and the answer to it.
use Rattle.std.specs.Prelude.{Result}
use Rattle.order.specs.declared.Ordered.{Ghosts as Order}
use Rattle.gauge.specs.declared.Gauge.{Ghosts}
use Rattle.ledger.specs.declared.call.Call.{Call}
use Rattle.opened_surface.specs.Parts.{gauge_of, mesh_of}
use Rattle.opened_surface.specs.Tied.{book_of}
use Rattle.opened_surface.specs.declared.opened.Opened.{Opened}
use Rattle.session.specs.Calls.{CallReplied}
use Rattle.session.specs.declared.refusal.Refusal.{Refusal}
use Rattle.session.specs.declared.reply.Reply.{Reply}

-- a call on the opened surface x leaves y, with this answer
abbrev pub CalledOn : {G C E S : Type 0} → (m : Ghosts G C E S) → (o : Order C) → Opened G C E S m o → Call → Result Reply Refusal → Opened G C E S m o → Type 0
CalledOn m o x c r y = CallReplied m o (m.setting (gauge_of x)) (book_of (mesh_of x)) c r (book_of (mesh_of y))
