-- Flooding a surface from vertex to vertex along its sides. The seen vertices are marked, and those that sides are still to be
-- followed from stand in a list.
use Rattle.std.specs.Prelude.{◌≡◌, ℕ, ◌+◌, ◌<◌, ◌≤◌, Bool, true, false, ◌⊎◌, List, length, get_or, Option, slice_index, slice_index_or}
use Rattle.surface.specs.Surface.{next}
use Rattle.surface.specs.Euler.{count}
use Rattle.surface.specs.Read.{whole}
use Rattle.surface.specs.Pieces.{Chain}
use Rattle.judging.specs.Chains.{LastBelow}

-- vertex v is seen
abbrev pub Marked : List Bool → ℕ → Type 0
Marked seen v = slice_index_or seen v false ≡ true

-- how many of the first n vertices are seen
abbrev pub marked : List Bool → ℕ → ℕ
marked seen n = count (λ v. get_or seen v false) n

-- v stands in the list, at place k or later
abbrev pub Waits : List ℕ → ℕ → ℕ → Type 0
Waits list k v = (i : ℕ) × (k ≤ i) × (i < length list) × (slice_index list i ≡ v)

-- a side leads from x to y
abbrev pub Leads : List ℕ → ℕ → ℕ → Type 0
Leads cs x y = (h : ℕ) × (h < length cs) × (slice_index cs h ≡ x) × (slice_index cs (next h) ≡ y)

-- of n vertices no more stand in the list than are seen
pub record Level (n : ℕ) (seen : List Bool) (list : List ℕ) : Type 0 where
  pub flags : length seen ≡ n
  pub level : length list ≤ marked seen n
  pub below : (i : ℕ) → i < length list → slice_index list i < n

-- each side from a seen vertex leads to a seen vertex
abbrev pub Settled : List ℕ → List Bool → Type 0
Settled cs seen = (h : ℕ) → h < length cs → Marked seen (slice_index cs h) → Marked seen (slice_index cs (next h))

-- of n vertices, seen and list have grown to seen' and list' by the same ends of sides from x
pub record Grown (cs : List ℕ) (n x : ℕ) (seen : List Bool) (list : List ℕ) (seen' : List Bool) (list' : List ℕ) : Type 0 where
  pub kept : (v : ℕ) → Marked seen v → Marked seen' v
  pub longer : length list ≤ length list'
  pub as_many : length list' + marked seen n ≡ length list + marked seen' n
  pub same : (i : ℕ) → i < length list → slice_index list' i ≡ slice_index list i
  pub listed : (v : ℕ) → Marked seen' v → Marked seen v ⊎ Waits list' (length list) v
  pub led : (i : ℕ) → length list ≤ i → i < length list' → Leads cs x (slice_index list' i)

-- each side from x leads to a seen vertex
abbrev pub Spread : List ℕ → ℕ → List Bool → Type 0
Spread cs x seen = (h : ℕ) → h < length cs → slice_index cs h ≡ x → Marked seen (slice_index cs (next h))

-- on the walk along the sides from x: `at` is the last one below `done`, and each one from `done` on leads to a seen vertex
pub record Walked (cs : List ℕ) (x : ℕ) (at : Option ℕ) (seen : List Bool) : Type 0 where
  pub done : ℕ
  pub within : done ≤ length cs
  pub last : LastBelow cs x done at
  pub past : (h : ℕ) → done ≤ h → h < length cs → slice_index cs h ≡ x → Marked seen (slice_index cs (next h))

-- a flood from v has seen v and what sides lead to from it
pub record Flooded (cs : List ℕ) (n v : ℕ) (seen seen' : List Bool) : Type 0 where
  pub kept : (y : ℕ) → Marked seen y → Marked seen' y
  pub root : Marked seen' v
  pub reached : (y : ℕ) → Marked seen' y → Marked seen y ⊎ Chain (whole cs n) v y

-- while a flood from v goes on: its vertices that have yet to be spread from stand in the list
pub record Flooding (cs : List ℕ) (n v : ℕ) (seen seen' : List Bool) (list : List ℕ) : Type 0 where
  pub so_far : Flooded cs n v seen seen'
  pub chained : (i : ℕ) → i < length list → Chain (whole cs n) v (slice_index list i)
  pub pending : (h : ℕ) → h < length cs → Marked seen' (slice_index cs h) → Marked seen' (slice_index cs (next h)) ⊎ Waits list 0 (slice_index cs h)

-- k pieces are found, and all vertices below i are seen
pub record Found (cs : List ℕ) (n i k : ℕ) (seen : List Bool) : Type 0 where
  pub roots : List ℕ
  pub many : length roots ≡ k
  pub few : k ≤ i
  pub known : (j : ℕ) → j < k → slice_index roots j < n
  pub marks : (j : ℕ) → j < k → Marked seen (slice_index roots j)
  pub apart : (i j : ℕ) → i < k → j < k → Chain (whole cs n) (slice_index roots i) (slice_index roots j) → i ≡ j
  pub reached : (v : ℕ) → Marked seen v → (j : ℕ) × (j < k) × Chain (whole cs n) v (slice_index roots j)
  pub past : (v : ℕ) → v < i → Marked seen v
