-- Positions and normals in machine integers, as vectors.
use Rattle.std.specs.Prelude.{ℕ, ◌≤◌, ℤ, pos, unsigned_abs}
use Rattle.surface.specs.Geometry.{Vector}
use Rattle.geometry.specs.declared.Normal.{Normal}
use Rattle.geometry.specs.declared.Position.{Position}

-- z lies between -n and n
abbrev pub Bounded : ℕ → ℤ → Type 0
Bounded n z = unsigned_abs z ≤ n

abbrev pub value_of : Normal → Vector
value_of n = record { x = n.x; y = n.y; z = n.z }

abbrev pub vector_of : Position → Vector
vector_of p = record { x = pos p.x; y = pos p.y; z = pos p.z }
