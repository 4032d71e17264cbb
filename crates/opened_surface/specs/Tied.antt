-- An opened surface with its gauge and its queue, and the ledger's book of it.
use Rattle.std.specs.Prelude.{◌≡◌, ℕ, ◌*◌, ◌/◌, List, length, vec_items, vec_len}
use Rattle.surface.specs.Surface.{Surface, Tri}
use Rattle.surface.specs.Collapse.{collapse}
use Rattle.mesh.specs.Model.{surface, opening, points, log}
use Rattle.mesh.specs.Moves.{SameOpening}
use Rattle.mesh.specs.declared.mesh.Mesh.{Mesh}
use Rattle.order.specs.declared.Ordered.{Ghosts as Order}
use Rattle.queue.specs.Meaning.{keys_of}
use Rattle.gauge.specs.Accounts.{changed, TwoOf}
use Rattle.gauge.specs.declared.Gauge.{Ghosts}
use Rattle.ledger.specs.Book.{Book, account_now}
use Rattle.ledger.specs.Ledger.{placed_at, Entry, Kept}
use Rattle.ledger.specs.declared.call.Call.{Call}
use Rattle.ledger.specs.declared.call.Answer.{Answer}
use Rattle.opened_surface.specs.Stale.{KeyedBut, Sized, repriced, reopened}
use Rattle.opened_surface.specs.declared.thinning.Thinning.{Thinning}

abbrev pub book_of : Mesh → Book
book_of mesh =
    record {
      opened = opening mesh;
      points = points mesh;
      triangles = length (vec_items mesh.opened) / 3;
      vertices = length (vec_items mesh.positions);
      log = log mesh;
      position = mesh.position;
    }

-- the gauge has the account of the book, and the queue has a place for each half-edge and the key of each that is not near a stale vertex;
-- m is what the gauge means, and o the order of its costs
pub record Tied {G C E Z : Type 0} (m : Ghosts G C E Z) (o : Order C) (x : Thinning G C E Z o) : Type 0 where
  pub account : m.account x.gauge ≡ account_now m (m.setting x.gauge) (book_of x.mesh)
  pub long : length (keys_of x.queue) ≡ 3 * vec_len x.mesh.edges.triangles
  pub keyed : KeyedBut m (surface x.mesh) (points x.mesh) (m.setting x.gauge) (m.account x.gauge) (repriced x.stale) (reopened x.stale) (vec_len x.mesh.edges.triangles) (keys_of x.queue)
  pub sized : Sized x.mesh x.stale

-- the same gauge, queue and stale vertices with another mesh
abbrev pub with_mesh : {G C E Z : Type 0} {o : Order C} → Mesh → Thinning G C E Z o → Thinning G C E Z o
with_mesh a x = record { mesh = a; gauge = x.gauge; queue = x.queue; stale = x.stale }

-- what a call on x leaves: the ledger's entry, the setting as it was, and all tied again
pub record Follows {G C E Z : Type 0} (m : Ghosts G C E Z) (o : Order C) (x : Thinning G C E Z o) (c : Call) (r : Answer C) (y : Thinning G C E Z o) : Type 0 where
  pub entry : Entry m o (m.setting x.gauge) (book_of x.mesh) c r (book_of y.mesh)
  pub fixed : m.setting y.gauge ≡ m.setting x.gauge
  pub tied : Tied m o y

-- e leads from u to w and f back
pub record Astride (S : Surface) (u w e f : ℕ) : Type 0 where
  pub there : (c : ℕ) × Tri S e u w c
  pub back : (d : ℕ) × Tri S f w u d

-- mesh b is mesh a with the half-edge e collapsed, which leads from u to w; f leads back
pub record Joined {G C E Z : Type 0} (m : Ghosts G C E Z) (a : Mesh) (u w e f : ℕ) (b : Mesh) : Type 0 where
  pub astride : Astride (surface a) u w e f
  pub two : TwoOf (length (vec_items a.positions)) u w
  pub opening_same : SameOpening a b
  pub surface_next : surface b ≡ collapse (surface a) u w
  pub account_next : (s : Z) → account_now m s (book_of b) ≡ changed (m.merged s) m.blank u w (account_now m s (book_of a))

-- the same book at position k, the setting as it was, and all tied
pub record Placed {G C E Z : Type 0} (m : Ghosts G C E Z) (o : Order C) (x : Thinning G C E Z o) (k : ℕ) (y : Thinning G C E Z o) : Type 0 where
  pub book_is : book_of y.mesh ≡ placed_at (book_of x.mesh) k
  pub fixed : m.setting y.gauge ≡ m.setting x.gauge
  pub tied : Tied m o y

-- what a list of calls on x leaves: the ledger over the list, the setting as it was, and all tied again
pub record FollowsAll {G C E Z : Type 0} (m : Ghosts G C E Z) (o : Order C) (x : Thinning G C E Z o) (calls : List Call) (answers : List (Answer C)) (y : Thinning G C E Z o) : Type 0 where
  pub kept : Kept m o (m.setting x.gauge) (book_of x.mesh) calls answers (book_of y.mesh)
  pub fixed : m.setting y.gauge ≡ m.setting x.gauge
  pub tied : Tied m o y
