-- Keys by the surface of a mesh and the account of a gauge.
use Rattle.std.specs.Prelude.{◌≡◌, ℕ, ◌/◌, Bool, true, false, ◌⊎◌, List, length, Some, None, vec_items, Option, slice_index_or, slice_set}
use Rattle.surface.specs.Surface.{Surface, next, Side}
use Rattle.mesh.specs.Model.{surface, points}
use Rattle.mesh.specs.declared.mesh.Mesh.{Mesh}
use Rattle.queue.specs.declared.keys.Key.{Key}
use Rattle.gauge.specs.declared.Gauge.{Ghosts}
use Rattle.opened_surface.specs.Keys.{KeyIs, Keyed, Mended}

-- the account has an entry for each vertex
abbrev pub Accounted : {G C E Z : Type 0} → Ghosts G C E Z → Mesh → G → Type 0
Accounted m mesh gauge = length (m.account gauge) ≡ length (vec_items mesh.positions)

abbrev pub KeyNow : {G C E Z : Type 0} → Ghosts G C E Z → Mesh → G → ℕ → Option (Key C) → Type 0
KeyNow m mesh gauge h k = KeyIs m (surface mesh) (points mesh) (m.setting gauge) (m.account gauge) h k

abbrev pub KeyedNow : {G C E Z : Type 0} → Ghosts G C E Z → Mesh → G → ℕ → List (Option (Key C)) → Type 0
KeyedNow m mesh gauge T keys = Keyed m (surface mesh) (points mesh) (m.setting gauge) (m.account gauge) T keys

abbrev pub MendedNow : {G C E Z : Type 0} → Ghosts G C E Z → Mesh → G → (ℕ → Type 0) → List (Option (Key C)) → List (Option (Key C)) → Type 0
MendedNow m mesh gauge Q before after = Mended m (surface mesh) (points mesh) (m.setting gauge) (m.account gauge) Q before after

-- each key that there is, is right
abbrev pub AllPriced : {G C E Z : Type 0} → Ghosts G C E Z → Mesh → G → List (Option (Key C)) → Type 0
AllPriced {C = C} m mesh gauge keys = (h : ℕ) (k : Key C) → slice_index_or keys h None ≡ Some k → KeyNow m mesh gauge h (Some k)

-- the keys that mending leaves alone are right: all that there are where only the missing ones are mended, and else none
abbrev pub Fit : {G C E Z : Type 0} → Ghosts G C E Z → Mesh → G → Bool → List (Option (Key C)) → Type 0
Fit m mesh gauge false keys = Unit {0}
Fit m mesh gauge true keys = AllPriced m mesh gauge keys

-- candidate h has its key, and the other candidates have theirs as before
pub record Refreshed {G C E Z : Type 0} (m : Ghosts G C E Z) (mesh : Mesh) (gauge : G) (h : ℕ) (before after : List (Option (Key C))) : Type 0 where
  pub key : Option (Key C)
  pub written : after ≡ slice_set before h key
  pub right : Accounted m mesh gauge → KeyNow m mesh gauge h key

-- h is a half-edge of a live triangle that begins or ends at x
abbrev pub Touches : Surface → ℕ → ℕ → Type 0
Touches S x h = (S.alive (h / 3) ≡ true) × ((S.corner h ≡ x) ⊎ (S.corner (next h) ≡ x))

-- x is w or a neighbour of w
abbrev pub Beside : Surface → ℕ → ℕ → Type 0
Beside S w x = (x ≡ w) ⊎ Side S w x
