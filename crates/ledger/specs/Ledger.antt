-- The ledger: what each call answers, and the book that it leaves. It is kept from the opened surface, what the gauge means and
-- the calls with their arguments, and from none of their answers.
use Rattle.std.specs.Prelude.{◌≡◌, ℕ, ◌+◌, ◌-◌, ◌<◌, ◌≤◌, List, [], ◌∷◌, ◌++◌, length, take}
use Rattle.surface.specs.Surface.{Side}
use Rattle.surface.specs.Closed.{Closed}
use Rattle.surface.specs.Collapse.{collapse}
use Rattle.surface.specs.Permitted.{Upright}
use Rattle.order.specs.declared.Ordered.{Ghosts as Order}
use Rattle.gauge.specs.declared.Gauge.{Ghosts}
use Rattle.ledger.specs.Book.{Book, surface_now, PermittedNow, cost_now}
use Rattle.ledger.specs.Choice.{First, NonePermittedNow}
use Rattle.ledger.specs.declared.call.Call.{Call}
use Rattle.ledger.specs.declared.call.Call.TheVariants.{Collapse, Step, Split, Redo, Go}
use Rattle.ledger.specs.declared.call.Answer.{Answer}
use Rattle.ledger.specs.declared.call.Answer.TheVariants.{Collapsed, Stepped, Split as Parted, Redone, Went, Refused}
use Rattle.ledger.specs.declared.call.Refusal.TheVariants.{NoSide, NotClosed, Folds, NonePermitted, NothingDone, NothingAhead, BeyondLog}

-- the book with the collapse of u to w done: the records ahead are gone, this one is added, and the position is behind it
abbrev pub noted : Book → ℕ → ℕ → Book
noted b u w =
    record {
      opened = b.opened;
      points = b.points;
      triangles = b.triangles;
      vertices = b.vertices;
      log = take b.position b.log ++ record { u = u; w = w } ∷ [];
      position = b.position + 1;
    }

-- the book at position k
abbrev pub placed_at : Book → ℕ → Book
placed_at b k =
    record {
      opened = b.opened;
      points = b.points;
      triangles = b.triangles;
      vertices = b.vertices;
      log = b.log;
      position = k;
    }

-- m is what a gauge means, o the order of its costs, and s its setting
module _ {G C E S : Type 0} (m : Ghosts G C E S) (o : Order C) (s : S) where
  -- the book before, a call, its answer, and the book after; a refused call changes nothing
  pub data Entry : Book → Call → Answer C → Book → Type 0 where
    -- a collapse that is permitted is done, and answers what it cost just before
    collapses : {b : Book} {u w : ℕ} → PermittedNow b u w → Entry b (Collapse u w) (Collapsed (cost_now m s b u w)) (noted b u w)
    -- else it is refused by the first rule that it breaks: (u, w) is no side
    no_side : {b : Book} {u w : ℕ} → (Side (surface_now b) u w → ⊥) → Entry b (Collapse u w) (Refused NoSide) b
    -- it is a side, and the outcome is no closed surface
    not_closed : {b : Book} {u w : ℕ} → Side (surface_now b) u w → (Closed (collapse (surface_now b) u w) → ⊥) → Entry b (Collapse u w) (Refused NotClosed) b
    -- it is a side with a closed outcome, and a moved triangle is folded over
    folds : {b : Book} {u w : ℕ} → Side (surface_now b) u w → Closed (collapse (surface_now b) u w) → (Upright (surface_now b) b.points u w → ⊥) → Entry b (Collapse u w) (Refused Folds) b
    -- a step does the first of the permitted collapses, and answers it and what it cost just before
    steps : {b : Book} {u w : ℕ} → First m o s b u w → Entry b Step (Stepped u w (cost_now m s b u w)) (noted b u w)
    -- it is refused just where none is permitted
    none_permitted : {b : Book} → NonePermittedNow b → Entry b Step (Refused NonePermitted) b
    -- a split lowers the position by one, and answers the new one
    splits : {b : Book} → 0 < b.position → Entry b Split (Parted (b.position - 1)) (placed_at b (b.position - 1))
    -- it is refused at position 0
    nothing_done : {b : Book} → b.position ≡ 0 → Entry b Split (Refused NothingDone) b
    -- a redo raises the position by one, and answers the new one
    redoes : {b : Book} → b.position < length b.log → Entry b Redo (Redone (b.position + 1)) (placed_at b (b.position + 1))
    -- it is refused where no record lies ahead
    nothing_ahead : {b : Book} → length b.log ≤ b.position → Entry b Redo (Refused NothingAhead) b
    -- go sets the position, and answers a count of moves, of which no more is said than that it is at most the log's length
    goes : {b : Book} {k moves : ℕ} → k ≤ length b.log → moves ≤ length b.log → Entry b (Go k) (Went moves) (placed_at b k)
    -- it is refused above the log's length
    beyond_log : {b : Book} {k : ℕ} → length b.log < k → Entry b (Go k) (Refused BeyondLog) b

  -- the same over a list of calls
  pub data Kept : Book → List Call → List (Answer C) → Book → Type 0 where
    none : {b : Book} → Kept b [] [] b
    next : {a b z : Book} {c : Call} {r : Answer C} {cs : List Call} {rs : List (Answer C)} → Entry a c r b → Kept b cs rs z → Kept a (c ∷ cs) (r ∷ rs) z
