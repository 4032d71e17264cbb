-- What is promised of every list of calls on an opened surface, for every gauge.
use Rattle.std.specs.Prelude.{◌≡◌, List, [], ◌∷◌}
use Rattle.mesh.specs.Laws.{Kin}
use Rattle.mesh.specs.Model.{surface}
use Rattle.order.specs.declared.Ordered.{Ghosts as Order}
use Rattle.gauge.specs.declared.Gauge.{Ghosts}
use Rattle.ledger.specs.Book.{Book, surface_now, account_now}
use Rattle.ledger.specs.Ledger.{Kept}
use Rattle.ledger.specs.Stepped.{AllSteps}
use Rattle.ledger.specs.declared.call.Call.{Call}
use Rattle.ledger.specs.declared.call.Answer.{Answer}
use Rattle.opened_surface.specs.Consistent.{Consistent}
use Rattle.opened_surface.specs.Parts.{gauge_of, mesh_of}
use Rattle.opened_surface.specs.Tied.{book_of}
use Rattle.opened_surface.specs.declared.opened.Opened.{Opened}

-- from the book b with the gauge's setting s, by the calls and their answers, to the opened surface y; m is what the gauge means,
-- and o the order of its costs
pub record Promise {G C E Z : Type 0} (m : Ghosts G C E Z) (o : Order C) (s : Z) (b : Book) (calls : List Call) (answers : List (Answer C)) (y : Opened G C E Z m o) : Type 0 where
  -- the triangle list is a closed surface with the Euler number and the pieces that it was opened with, and no new zero normal
  pub standing : Kin b.opened (surface (mesh_of y)) b.points b.triangles b.vertices
  -- answers, refusals, log and position are the ledger's
  pub ledger : Kept m o s b calls answers (book_of (mesh_of y))
  -- so are the triangle list and the account
  pub surface_is : surface (mesh_of y) ≡ surface_now (book_of (mesh_of y))
  pub account_is : m.account (gauge_of y) ≡ account_now m s (book_of (mesh_of y))
  pub setting_same : m.setting (gauge_of y) ≡ s
  -- each step took a permitted collapse, and every other one that was permitted then costs more, or ranks equal and has a greater u,
  -- or the same u and a greater w; it was refused just where none was permitted
  pub steps : AllSteps m o s b calls answers

-- after calls on the opened surface x
pub record Ran {G C E Z : Type 0} (m : Ghosts G C E Z) (o : Order C) (x : Opened G C E Z m o) (calls : List Call) (answers : List (Answer C)) (y : Opened G C E Z m o) : Type 0 where
  pub promise : Promise m o (m.setting (gauge_of x)) (book_of (mesh_of x)) calls answers y
  pub consistent : Consistent m o y

-- surface, log, position and gauge are as they were
pub record Untouched {G C E Z : Type 0} {m : Ghosts G C E Z} {o : Order C} (x y : Opened G C E Z m o) : Type 0 where
  pub mesh_same : mesh_of y ≡ mesh_of x
  pub gauge_same : gauge_of y ≡ gauge_of x
  pub counts_same : y.counts ≡ x.counts

-- after one call
abbrev pub Called : {G C E Z : Type 0} → (m : Ghosts G C E Z) → (o : Order C) → Opened G C E Z m o → Call → Answer C → Opened G C E Z m o → Type 0
Called m o x c r y = Ran m o x (c ∷ []) (r ∷ []) y
