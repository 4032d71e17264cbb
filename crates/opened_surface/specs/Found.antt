-- The first of the permitted collapses, found in the queue.
use Rattle.std.specs.Prelude.{◌≡◌, ◌*◌, length, Some, None, vec_len, Option}
use Rattle.mesh.specs.declared.mesh.Mesh.{Mesh}
use Rattle.order.specs.declared.Ordered.{Ghosts as Order}
use Rattle.queue.specs.Meaning.{keys_of}
use Rattle.queue.specs.declared.Queue.{Queue}
use Rattle.queue.specs.declared.keys.Key.{Key}
use Rattle.gauge.specs.declared.Gauge.{Ghosts}
use Rattle.ledger.specs.Book.{account_now}
use Rattle.ledger.specs.Choice.{First, NonePermittedNow}
use Rattle.opened_surface.specs.Mending.{KeyedNow}
use Rattle.opened_surface.specs.Tied.{book_of}

-- the gauge has the account of the book, and the queue the key of each half-edge
pub record Ready {G C E Z : Type 0} (m : Ghosts G C E Z) (o : Order C) (mesh : Mesh) (gauge : G) (queue : Queue C o) : Type 0 where
  pub account : m.account gauge ≡ account_now m (m.setting gauge) (book_of mesh)
  pub long : length (keys_of queue) ≡ 3 * vec_len mesh.edges.triangles
  pub keyed : KeyedNow m mesh gauge (vec_len mesh.edges.triangles) (keys_of queue)

-- the collapse that a step takes, or none is permitted
abbrev pub Chosen : {G C E Z : Type 0} → Ghosts G C E Z → Order C → Mesh → G → Option (Key C) → Type 0
Chosen m o mesh gauge (Some k) = First m o (m.setting gauge) (book_of mesh) k.u k.w
Chosen m o mesh gauge None = NonePermittedNow (book_of mesh)

-- of any gauge for which the queue is ready the first is found, and the queue stays ready
abbrev pub Found : {G C E Z : Type 0} → Ghosts G C E Z → (o : Order C) → Mesh → Queue C o → Option (Key C) → Queue C o → Type 0
Found {G = G} m o mesh before r after = (gauge : G) → Ready m o mesh gauge before → Ready m o mesh gauge after × Chosen m o mesh gauge r
