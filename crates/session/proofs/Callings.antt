-- The answers to calls are those of the ledger.
use Rattle.std.proofs.Common.{◌≡◌, [], ◌∷◌, None, Err, Option, Result}
use Rattle.std.specs.Option.{ok_or}
use Rattle.order.specs.declared.Ordered.{Ghosts as Order}
use Rattle.gauge.specs.declared.Gauge.{Ghosts}
use Rattle.ledger.specs.Book.{Book}
use Rattle.ledger.specs.Ledger.{Entry, Kept, none, next}
use Rattle.ledger.specs.declared.call.Answer.{Answer}
use Rattle.ledger.specs.declared.call.Answer.TheVariants.{Refused}
use Rattle.ledger.specs.declared.call.Call.{Call}
use Rattle.ledger.specs.declared.call.Refusal.{Refusal as CallRefusal}
use Rattle.opened_surface.specs.Parts.{gauge_of, mesh_of}
use Rattle.opened_surface.specs.Promise.{Called}
use Rattle.opened_surface.specs.Tied.{book_of}
use Rattle.opened_surface.specs.declared.opened.Opened.{Opened}
use Rattle.session.specs.Answers.{CalledOn}
use Rattle.session.specs.Calls.{CallReplied, refused}
use Rattle.session.specs.declared.refusal.Refusal.{Refusal}
use Rattle.session.specs.declared.refusal.Refusal.TheVariants as no
use Rattle.session.specs.declared.reply.Reply.{Reply}

module _ {G C E S : Type 0} (m : Ghosts G C E S) (o' : Order C) where
  one_entry : {s : S} {b d : Book} {c : Call} {r : Answer C} → Kept m o' s b (c ∷ []) (r ∷ []) d → Entry m o' s b c r d
  one_entry (next e none) = e

  module _ (x y : Opened G C E S m o') (c : Call) where
    -- by what the rules make of the ledger's entry
    pub called_on : {a : Answer C} {r : Result Reply Refusal} →
        (Entry m o' (m.setting (gauge_of x)) (book_of (mesh_of x)) c a (book_of (mesh_of y)) → CallReplied m o' (m.setting (gauge_of x)) (book_of (mesh_of x)) c r (book_of (mesh_of y))) → Called m o' x c a y → CalledOn m o' x c r y
    called_on f K = f (one_entry K.promise.ledger)

    -- where the call answers nothing, by this refusal
    pub none_refused : {A : Type 0} (answer : Option A → Answer C) (o : Option A) (e why : CallRefusal) (r : Result Reply Refusal) → answer None ≡ Refused why → o ≡ None → Err e ≡ ok_or o why → r ≡ Err (no.Call e) →
        Called m o' x c (answer o) y → CalledOn m o' x c r y
    none_refused answer o e why r a n v i K =
        let same : e ≡ why = let w = rw n at v in cc in
        rw (i, same) (called_on refused (rw (n, a) at K))
