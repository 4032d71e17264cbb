-- Normals and six-volumes over the integers.
use Rattle.std.specs.Prelude.{ℕ, ◌+◌, ◌*◌, ℤ, pos, ◌+ℤ◌, ◌-ℤ◌, ◌*ℤ◌}
use Rattle.surface.specs.Surface.{Surface}

-- three coordinates, of a point or of a vector
pub record Vector : Type 0 where
  pub x : ℤ
  pub y : ℤ
  pub z : ℤ

abbrev pub minus : Vector → Vector → Vector
minus p q = record { x = p.x -ℤ q.x; y = p.y -ℤ q.y; z = p.z -ℤ q.z }

abbrev pub dot : Vector → Vector → ℤ
dot p q = p.x *ℤ q.x +ℤ p.y *ℤ q.y +ℤ p.z *ℤ q.z

abbrev pub cross : Vector → Vector → Vector
cross p q =
    record {
      x = p.y *ℤ q.z -ℤ p.z *ℤ q.y;
      y = p.z *ℤ q.x -ℤ p.x *ℤ q.z;
      z = p.x *ℤ q.y -ℤ p.y *ℤ q.x;
    }

-- the normal of the triangle a, b, c
abbrev pub normal : Vector → Vector → Vector → Vector
normal a b c = cross (minus b a) (minus c a)

-- the six-volume of the triangle a, b, c at the point p
abbrev pub six_volume : Vector → Vector → Vector → Vector → ℤ
six_volume a b c p = dot (normal a b c) (minus p a)

-- the normal of triangle t, P giving the points of the vertices
abbrev pub normal_at : Surface → (ℕ → Vector) → ℕ → Vector
normal_at S P t = normal (P (S.corner (3 * t))) (P (S.corner (3 * t + 1))) (P (S.corner (3 * t + 2)))

abbrev pub null : Vector
null = record { x = pos 0; y = pos 0; z = pos 0 }
