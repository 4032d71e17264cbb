-- What is proved of the keys of candidates, for every gauge.
use Rattle.std.specs.Prelude.{◌≡◌, ◌≢◌, ℕ, ◌*◌, ◌/◌, ◌≤◌, ◌<◌, true, ◌⊎◌, List, length, get_or, Option}
use Rattle.surface.specs.Surface.{Surface, Tri, Side}
use Rattle.surface.specs.Closed.{Closed}
use Rattle.surface.specs.Collapse.{collapse}
use Rattle.surface.specs.Geometry.{Vector}
use Rattle.queue.specs.declared.keys.Key.{Key}
use Rattle.gauge.specs.declared.Gauge.{Ghosts}
use Rattle.mending.specs.Keys.{Keyed, Mended}

-- no live triangle has a number of T or more
abbrev pub Below : Surface → ℕ → Type 0
Below S T = (t : ℕ) → S.alive t ≡ true → t < T

-- the entries but that of w are the same; `blank` is only the default of the reads
abbrev pub SameBut : {E : Type 0} → E → ℕ → List E → List E → Type 0
SameBut blank w acc acc' = (x : ℕ) → x ≢ w → get_or acc x blank ≡ get_or acc' x blank

-- the half-edges of two triangles, and those of a region
abbrev pub And : (ℕ → Type 0) → ℕ → ℕ → ℕ → Type 0
And Q t r h = (Q h ⊎ (h / 3 ≡ t)) ⊎ (h / 3 ≡ r)

-- Q gives a region round a vertex; e and f are the half-edges of the side that is collapsed, from u to w and back
module _ {G C E Z : Type 0} (m : Ghosts G C E Z) (Q : Surface → ℕ → ℕ → Type 0) where
  -- keys that are right before a collapse of u to w are right after it, once those of the region round w are mended and those of
  -- the two dead triangles
  abbrev pub MendedAfter : Type 0
  MendedAfter =
      (P : ℕ → Vector) (z : Z) (S : Surface) (u w : ℕ) → Closed S → Side S u w → Closed (collapse S u w) → (acc acc' : List E) → SameBut m.blank w acc acc' →
      (T : ℕ) → Below S T → (keys after : List (Option (Key C))) → 3 * T ≤ length keys → (e f a b : ℕ) → Tri S e u w a → Tri S f w u b → Keyed m S P z acc T keys →
      Mended m (collapse S u w) P z acc' (And (Q (collapse S u w) w) (e / 3) (f / 3)) keys after → Keyed m (collapse S u w) P z acc' T after

  -- keys that are right after it are right before it, once those of the region round u are mended
  abbrev pub MendedBefore : Type 0
  MendedBefore =
      (P : ℕ → Vector) (z : Z) (S : Surface) (u w : ℕ) → Closed S → Side S u w → Closed (collapse S u w) → (acc acc' : List E) → SameBut m.blank w acc acc' →
      (T : ℕ) → Below S T → (keys after : List (Option (Key C))) → 3 * T ≤ length keys →
      Keyed m (collapse S u w) P z acc' T keys → Mended m S P z acc (Q S u) keys after → Keyed m S P z acc T after
