-- Vertices at which keys may be wrong until the next step: those that are to be priced again, and those at which half-edges that have no
-- key are to be priced.
use Rattle.std.specs.Prelude.{◌≡◌, ℕ, ◌*◌, ◌<◌, Bool, true, ◌⊎◌, List, length, None, vec_items, Option, slice_index_or}
use Rattle.surface.specs.Surface.{Surface, Side}
use Rattle.surface.specs.Geometry.{Vector}
use Rattle.mesh.specs.declared.mesh.Mesh.{Mesh}
use Rattle.queue.specs.Meaning.{keys_of}
use Rattle.queue.specs.declared.keys.Key.{Key}
use Rattle.gauge.specs.declared.Gauge.{Ghosts}
use Rattle.opened_surface.specs.Keys.{KeyIs}
use Rattle.opened_surface.specs.Marks.{Marks, Marked, NearMark}
use Rattle.opened_surface.specs.declared.stale.Stale.{Stale}

abbrev pub repriced : Stale → Marks
repriced s = keys_of s.repriced

abbrev pub reopened : Stale → Marks
reopened s = keys_of s.reopened

-- candidate h has its key, unless it is near a vertex that is to be priced again, or has none and is near one that is to be opened again
abbrev pub KeyBut : {G C E Z : Type 0} → Ghosts G C E Z → Surface → (ℕ → Vector) → Z → List E → Marks → Marks → ℕ → Option (Key C) → Type 0
KeyBut m S P setting account strong weak h k = (NearMark S strong h → ⊥) → ((k ≡ None) × NearMark S weak h → ⊥) → KeyIs m S P setting account h k

-- so do the candidates of the first T triangles
abbrev pub KeyedBut : {G C E Z : Type 0} → Ghosts G C E Z → Surface → (ℕ → Vector) → Z → List E → Marks → Marks → ℕ → List (Option (Key C)) → Type 0
KeyedBut m S P setting account strong weak T keys = (h : ℕ) → h < 3 * T → KeyBut m S P setting account strong weak h (slice_index_or keys h None)

-- what the collapse of u to w, and its undoing, ask for: u and w are to be priced again, and so are the neighbours of u; where prices do
-- not rest on the triangles, the neighbours are only to be opened again
pub record Covered (blind : Bool) (S : Surface) (u w : ℕ) (strong weak : Marks) : Type 0 where
  pub from : Marked strong u
  pub to : Marked strong w
  pub round : (x : ℕ) → Side S u x → Marked strong x ⊎ ((blind ≡ true) × Marked weak x)

-- the members stay, and there may be more
pub record Grown (s t : Stale) : Type 0 where
  pub price_kept : (x : ℕ) → Marked (repriced s) x → Marked (repriced t) x
  pub open_kept : (x : ℕ) → Marked (reopened s) x → Marked (reopened t) x
  pub price_long : length (repriced t) ≡ length (repriced s)
  pub open_long : length (reopened t) ≡ length (reopened s)

-- there is room for each vertex
abbrev pub Sized : Mesh → Stale → Type 0
Sized mesh s = (length (repriced s) ≡ length (vec_items mesh.positions)) × (length (reopened s) ≡ length (vec_items mesh.positions))
