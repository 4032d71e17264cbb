-- Collapses that fold a triangle over.
use Rattle.std.specs.Prelude.{ℕ, pos, ◌≤ℤ◌}
use Rattle.surface.specs.Surface.{Surface}
use Rattle.surface.specs.Geometry.{Vector, dot, normal_at}
use Rattle.surface.specs.Collapse.{collapse, Moved}

-- the normals of some moved triangle before and after have a scalar product of zero or below
abbrev pub Folded : Surface → (ℕ → Vector) → ℕ → ℕ → Type 0
Folded S P u w = (t : ℕ) × Moved S u w t × (dot (normal_at S P t) (normal_at (collapse S u w) P t) ≤ℤ pos 0)
