-- The half-edges that begin at one vertex, each linked to the last one before it.
use Rattle.std.specs.Prelude.{◌≡◌, ℕ, suc, ◌<◌, ◌≤◌, List, length, Some, None, Option, ◌≢◌, slice_index, slice_index_or}

-- the last half-edge below i that begins at v, if there is one
abbrev pub LastBelow : List ℕ → ℕ → ℕ → Option ℕ → Type 0
LastBelow cs v i None = (g : ℕ) → g < i → slice_index cs g ≢ v
LastBelow cs v i (Some h) = (h < i) × (slice_index cs h ≡ v) × ((g : ℕ) → h < g → g < i → slice_index cs g ≢ v)

-- of the half-edges below i: for each of n vertices the last one that begins there, and for each half-edge the last one
-- below it with the same beginning
pub record ChainedBelow (cs : List ℕ) (n i : ℕ) (last link : List (Option ℕ)) : Type 0 where
  pub vertices : length last ≡ n
  pub halfedges : length link ≡ length cs
  pub ends : (v : ℕ) → v < n → LastBelow cs v i (slice_index_or last v None)
  pub links : (h : ℕ) → h < i → LastBelow cs (slice_index cs h) h (slice_index_or link h None)

-- all half-edges
abbrev pub Chained : List ℕ → ℕ → List (Option ℕ) → List (Option ℕ) → Type 0
Chained cs n last link = ChainedBelow cs n (length cs) last link

-- on a walk that stands at r and comes down, g is not passed yet
abbrev pub Waiting : Option ℕ → ℕ → Type 0
Waiting None g = ⊥
Waiting (Some h) g = g ≤ h

-- r, where it is a half-edge, begins at v
abbrev pub Standing : List ℕ → ℕ → Option ℕ → Type 0
Standing cs v None = Unit {0}
Standing cs v (Some h) = (h < length cs) × (slice_index cs h ≡ v)

-- the numbers up to r
abbrev pub below : Option ℕ → ℕ
below None = 0
below (Some h) = suc h

-- each half-edge is linked to one below it
abbrev pub Descending : List (Option ℕ) → Type 0
Descending link = (h : ℕ) → h < length link → below (slice_index_or link h None) ≤ h

-- where the walk goes on from r
abbrev pub linked : List (Option ℕ) → Option ℕ → Option ℕ
linked link None = None
linked link (Some h) = slice_index_or link h None
