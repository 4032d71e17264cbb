-- Permitted collapses, and the local test for a closed outcome.
use Rattle.std.specs.Prelude.{◌≡◌, ℕ, ◌≢◌, ◌⊎◌, pos, ◌<ℤ◌}
use Rattle.surface.specs.Surface.{Surface, Side}
use Rattle.surface.specs.Closed.{Closed}
use Rattle.surface.specs.Geometry.{Vector, dot, normal_at}
use Rattle.surface.specs.Collapse.{collapse, Moved}

-- each moved triangle's normals before and after have a scalar product above zero
abbrev pub Upright : Surface → (ℕ → Vector) → ℕ → ℕ → Type 0
Upright S P u w = (t : ℕ) → Moved S u w t → pos 0 <ℤ dot (normal_at S P t) (normal_at (collapse S u w) P t)

-- u may be collapsed to w; P gives the points of the vertices
pub record Permitted (S : Surface) (P : ℕ → Vector) (u w : ℕ) : Type 0 where
  pub side : Side S u w
  pub closed : Closed (collapse S u w)
  pub upright : Upright S P u w

-- x, y and z are the neighbours of v, three in number
pub record Three (S : Surface) (v x y z : ℕ) : Type 0 where
  pub first : Side S v x
  pub second : Side S v y
  pub third : Side S v z
  pub apart : (x ≢ y) × (y ≢ z) × (z ≢ x)
  pub only : (n : ℕ) → Side S v n → (n ≡ x) ⊎ ((n ≡ y) ⊎ (n ≡ z))

-- v has three neighbours
abbrev pub HasThree : Surface → ℕ → Type 0
HasThree S v = (x : ℕ) × (y : ℕ) × (z : ℕ) × Three S v x y z

-- the local test of u and w, with a and b the third corners of the two triangles at their side
pub record Link (S : Surface) (u w a b : ℕ) : Type 0 where
  -- their only common neighbours are a and b
  pub common : (c : ℕ) → Side S u c → Side S w c → (c ≡ a) ⊎ (c ≡ b)
  -- they do not both have three neighbours
  pub large : HasThree S u → HasThree S w → ⊥
