-- What is proved of the ledger, for every gauge.
use Rattle.std.specs.Prelude.{◌≡◌, ℕ, ◌↔◌, List}
use Rattle.surface.specs.Permitted.{Upright}
use Rattle.order.specs.declared.Ordered.{Ghosts as Order}
use Rattle.gauge.specs.declared.Gauge.{Ghosts}
use Rattle.ledger.specs.Book.{Book, surface_now, Sensible, PermittedNow}
use Rattle.ledger.specs.Choice.{First, InWords}
use Rattle.ledger.specs.Ledger.{Entry, Kept}
use Rattle.ledger.specs.Followed.{Followed}
use Rattle.ledger.specs.Folded.{Folded}
use Rattle.ledger.specs.Agree.{AllAgree}
use Rattle.ledger.specs.Standing.{SameOpening, Standing}
use Rattle.ledger.specs.declared.call.Call.{Call}
use Rattle.ledger.specs.declared.call.Answer.{Answer}

-- what folds is a moved triangle whose normals before and after have a scalar product of zero or below
abbrev pub FoldsInWords : Type 0
FoldsInWords = (b : Book) (u w : ℕ) → Sensible b → (Upright (surface_now b) b.points u w → ⊥) ↔ Folded (surface_now b) b.points u w

-- m is what a gauge means, and o the order of its costs
module _ {G C E S : Type 0} (m : Ghosts G C E S) (o : Order C) where
  -- a call on a sensible book leaves a sensible one, of the same opened surface
  abbrev pub Preserved : Type 0
  Preserved = (s : S) (b d : Book) (c : Call) (r : Answer C) → Sensible b → Entry m o s b c r d → Sensible d × SameOpening b d

  -- so does a list of calls, and the triangle list stays closed, with the Euler number and the number of pieces that it had
  abbrev pub Stands : Type 0
  Stands =
      (s : S) (b d : Book) (calls : List Call) (answers : List (Answer C)) →
      Sensible b → Kept m o s b calls answers d → Sensible d × SameOpening b d × Standing d

  -- a book and a list of calls fix the book after them and the answers, but for the counts of moves
  abbrev pub SingleValued : Type 0
  SingleValued =
      (s : S) (b x y : Book) (calls : List Call) (answers others : List (Answer C)) →
      Kept m o s b calls answers x → Kept m o s b calls others y → (x ≡ y) × AllAgree answers others

  -- for every sensible book and list of calls there are answers and a book after them
  abbrev pub Total : Type 0
  Total = (s : S) (b : Book) (calls : List Call) → Sensible b → (answers : List (Answer C)) × (d : Book) × Kept m o s b calls answers d

  -- whether or not the order can be told, there is no sensible book and list of calls without them
  abbrev pub NeverStuck : Type 0
  NeverStuck =
      (s : S) (b : Book) (calls : List Call) → Sensible b → ((answers : List (Answer C)) (d : Book) → Kept m o s b calls answers d → ⊥) → ⊥

  -- what a step takes, in the words of costing more and ranking equal
  abbrev pub StepInWords : Type 0
  StepInWords = (s : S) (b : Book) (u w : ℕ) → First m o s b u w ↔ InWords m o s b u w

  -- a collapse works on the triangle list and the account as they stand, and taking it back restores both
  abbrev pub CollapseFollowed : Type 0
  CollapseFollowed = (s : S) (b : Book) (u w : ℕ) → Sensible b → PermittedNow b u w → Followed m s b u w
