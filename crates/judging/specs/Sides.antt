-- Finding the half-edges of an ordered pair of vertices.
use Rattle.std.specs.Prelude.{◌≡◌, ℕ, suc, ◌<◌, ◌≤◌, ◌⊎◌, List, length, get_or, Some, None, Option, slice_index, slice_index_or}
use Rattle.surface.specs.Surface.{next, prev}
use Rattle.judging.specs.Chains.{Waiting, Standing}

-- the half-edge h leads from a to b
pub record Leads (cs : List ℕ) (a b h : ℕ) : Type 0 where
  pub inside : h < length cs
  pub from : get_or cs h 0 ≡ a
  pub to : get_or cs (next h) 0 ≡ b

-- the lowest half-edge from a to b, if there is one
abbrev pub LowestSide : List ℕ → ℕ → ℕ → Option ℕ → Type 0
LowestSide cs a b None = (h : ℕ) → Leads cs a b h → ⊥
LowestSide cs a b (Some g) = Leads cs a b g × ((h : ℕ) → Leads cs a b h → g ≤ h)

-- each mark is a half-edge that leads from a vertex below u to the marked one
pub record Marks (cs : List ℕ) (u : ℕ) (marks : List (Option ℕ)) : Type 0 where
  pub real : (x g : ℕ) → slice_index_or marks x None ≡ Some g → (g < length cs) × (slice_index cs g < u) × (slice_index cs (next g) ≡ x)

-- h leads from u to a vertex that is marked so, by h or a lower one
abbrev pub MarkedSide : List ℕ → ℕ → List (Option ℕ) → ℕ → Type 0
MarkedSide cs u marks h = (g : ℕ) × (slice_index_or marks (slice_index cs (next h)) None ≡ Some g) × (slice_index cs g ≡ u) × (g ≤ h)

-- all that leads from u is marked
pub record MarkedAt (cs : List ℕ) (u : ℕ) (marks : List (Option ℕ)) : Type 0 where
  pub marks_real : Marks cs (suc u) marks
  pub all : (h : ℕ) → h < length cs → slice_index cs h ≡ u → MarkedSide cs u marks h

-- the half-edge h begins below u, or at u and the walk down the chain of u has passed it
abbrev pub Passed : List ℕ → ℕ → Option ℕ → ℕ → Type 0
Passed cs u at h = (slice_index cs h < u) ⊎ ((slice_index cs h ≡ u) × (Waiting at h → ⊥))

-- the half-edge h begins below u
abbrev pub BeginsBelow : List ℕ → ℕ → ℕ → Type 0
BeginsBelow cs u h = slice_index cs h < u

-- for each half-edge h that is done the lowest one of the same pair, and for the one before h, which ends where h begins,
-- the lowest one of the pair turned round
pub record Found (cs : List ℕ) (Done : ℕ → Type 0) (first twin : List (Option ℕ)) : Type 0 where
  pub long_first : length first ≡ length cs
  pub long_twin : length twin ≡ length cs
  pub firsts : (h : ℕ) → h < length cs → Done h → LowestSide cs (slice_index cs h) (slice_index cs (next h)) (slice_index_or first h None)
  pub twins : (h : ℕ) → h < length cs → Done h → LowestSide cs (slice_index cs h) (slice_index cs (prev h)) (slice_index_or twin (prev h) None)

-- for each half-edge the lowest one of its pair, and the lowest one of the pair turned round
pub record Paired (cs : List ℕ) (first twin : List (Option ℕ)) : Type 0 where
  pub long_first : length first ≡ length cs
  pub long_twin : length twin ≡ length cs
  pub firsts : (h : ℕ) → h < length cs → LowestSide cs (slice_index cs h) (slice_index cs (next h)) (slice_index_or first h None)
  pub twins : (h : ℕ) → h < length cs → LowestSide cs (slice_index cs (next h)) (slice_index cs h) (slice_index_or twin h None)

-- part of the way down the chain of u: what the walk has passed is marked
pub record Marking (cs : List ℕ) (u : ℕ) (at : Option ℕ) (marks : List (Option ℕ)) : Type 0 where
  pub stands : Standing cs u at
  pub marks_real : Marks cs (suc u) marks
  pub passed : (h : ℕ) → h < length cs → slice_index cs h ≡ u → Waiting at h ⊎ MarkedSide cs u marks h
