-- What is kept over one list of calls and then over another is kept over both.
use Rattle.std.proofs.Common.{List, [], ◌∷◌, ◌++◌}
use Rattle.order.specs.declared.Ordered.{Ghosts as Order}
use Rattle.gauge.specs.declared.Gauge.{Ghosts}
use Rattle.ledger.specs.Book.{Book}
use Rattle.ledger.specs.Ledger.{Entry, Kept, none, next}
use Rattle.ledger.specs.declared.call.Call.{Call}
use Rattle.ledger.specs.declared.call.Answer.{Answer}

module _ {G C E S : Type 0} (m : Ghosts G C E S) (o : Order C) (s : S) where
  pub kept_then : {b x y : Book} {cs ds : List Call} {rs ts : List (Answer C)} → Kept m o s b cs rs x → Kept m o s x ds ts y → Kept m o s b (cs ++ ds) (rs ++ ts) y
  kept_then none l = l
  kept_then (next e k) l = next e (kept_then k l)

  -- one call more
  pub kept_more : {b x y : Book} {cs : List Call} {rs : List (Answer C)} {c : Call} {r : Answer C} → Kept m o s b cs rs x → Entry m o s x c r y → Kept m o s b (cs ++ c ∷ []) (rs ++ r ∷ []) y
  kept_more k e = kept_then k (next e none)
