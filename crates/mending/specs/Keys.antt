-- The keys of the candidates, for every gauge. A candidate is a half-edge: its collapse is that of the vertex at which it begins
-- to the one at which it ends.
use Rattle.std.specs.Prelude.{◌≡◌, ℕ, ◌*◌, ◌/◌, ◌<◌, true, ◌⊎◌, List, length, Some, None, Option, slice_index_or}
use Rattle.surface.specs.Surface.{Surface, next}
use Rattle.surface.specs.Geometry.{Vector}
use Rattle.surface.specs.Permitted.{Permitted}
use Rattle.queue.specs.declared.keys.Key.{Key}
use Rattle.gauge.specs.Near.{near}
use Rattle.gauge.specs.declared.Gauge.{Ghosts}

-- u may be collapsed to w, and k has the price of that; P gives the points of the vertices
pub record KeyFor {G C E Z : Type 0} (m : Ghosts G C E Z) (S : Surface) (P : ℕ → Vector) (setting : Z) (account : List E) (u w : ℕ) (k : Key C) : Type 0 where
  pub permitted : Permitted S P u w
  pub from : k.u ≡ u
  pub to : k.w ≡ w
  pub price : k.cost ≡ m.price setting u w (slice_index_or account u m.blank) (slice_index_or account w m.blank) (P u) (P w) (near S P u w)

-- the key of candidate h: there is one just where h is a half-edge of a live triangle and its collapse is permitted
abbrev pub KeyIs : {G C E Z : Type 0} → Ghosts G C E Z → Surface → (ℕ → Vector) → Z → List E → ℕ → Option (Key C) → Type 0
KeyIs m S P setting account h None = S.alive (h / 3) ≡ true → Permitted S P (S.corner h) (S.corner (next h)) → ⊥
KeyIs m S P setting account h (Some k) = (S.alive (h / 3) ≡ true) × KeyFor m S P setting account (S.corner h) (S.corner (next h)) k

-- the candidates of the first T triangles have their keys
abbrev pub Keyed : {G C E Z : Type 0} → Ghosts G C E Z → Surface → (ℕ → Vector) → Z → List E → ℕ → List (Option (Key C)) → Type 0
Keyed m S P setting account T keys = (h : ℕ) → h < 3 * T → KeyIs m S P setting account h (slice_index_or keys h None)

-- each key is right or as it was before, and the candidates in Q have the right ones
pub record Mended {G C E Z : Type 0} (m : Ghosts G C E Z) (S : Surface) (P : ℕ → Vector) (setting : Z) (account : List E) (Q : ℕ → Type 0) (before after : List (Option (Key C))) : Type 0 where
  pub long : length after ≡ length before
  pub either : (h : ℕ) → KeyIs m S P setting account h (slice_index_or after h None) ⊎ (slice_index_or after h None ≡ slice_index_or before h None)
  pub right : (h : ℕ) → h < length after → Q h → KeyIs m S P setting account h (slice_index_or after h None)
