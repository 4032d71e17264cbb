-- Polynomials of degree 2 in a point (x, y, z), with coefficients modulo 2 ^ 64.
use Rattle.std.specs.Prelude.{ℕ, ◌+◌, ◌-◌, ◌%◌, ◌^◌, ◌<◌, ℤ, pos, ◌+ℤ◌, ◌*ℤ◌, neg_ℤ, unsigned_abs}
use Rattle.std.specs.Int.{int_rem_euclid}
use Rattle.surface.specs.Geometry.{Vector, dot, normal}
use Rattle.planes.specs.declared.quadric.Quadric.{Quadric}

-- an integer modulo 2 ^ 64
abbrev pub residue : ℤ → ℕ
residue z = unsigned_abs (int_rem_euclid z (pos (2 ^ 64)))

abbrev pub zero : Quadric
zero = record { xx = 0; yy = 0; zz = 0; xy = 0; xz = 0; yz = 0; x = 0; y = 0; z = 0; one = 0 }

-- sums and differences of coefficients modulo 2 ^ 64
abbrev pub sum : ℕ → ℕ → ℕ
sum a b = (a + b) % 2 ^ 64

abbrev pub difference : ℕ → ℕ → ℕ
difference a b = (a + (2 ^ 64 - b)) % 2 ^ 64

unfoldable pub plus : Quadric → Quadric → Quadric
plus q r =
    record {
      xx = sum q.xx r.xx;
      yy = sum q.yy r.yy;
      zz = sum q.zz r.zz;
      xy = sum q.xy r.xy;
      xz = sum q.xz r.xz;
      yz = sum q.yz r.yz;
      x = sum q.x r.x;
      y = sum q.y r.y;
      z = sum q.z r.z;
      one = sum q.one r.one;
    }

unfoldable pub minus : Quadric → Quadric → Quadric
minus q r =
    record {
      xx = difference q.xx r.xx;
      yy = difference q.yy r.yy;
      zz = difference q.zz r.zz;
      xy = difference q.xy r.xy;
      xz = difference q.xz r.xz;
      yz = difference q.yz r.yz;
      x = difference q.x r.x;
      y = difference q.y r.y;
      z = difference q.z r.z;
      one = difference q.one r.one;
    }

-- the value at a point, modulo 2 ^ 64
unfoldable pub at_point : Quadric → Vector → ℕ
at_point q p =
    residue
    (pos q.xx *ℤ (p.x *ℤ p.x)
    +ℤ pos q.yy *ℤ (p.y *ℤ p.y)
    +ℤ pos q.zz *ℤ (p.z *ℤ p.z)
    +ℤ pos q.xy *ℤ (p.x *ℤ p.y)
    +ℤ pos q.xz *ℤ (p.x *ℤ p.z)
    +ℤ pos q.yz *ℤ (p.y *ℤ p.z)
    +ℤ pos q.x *ℤ p.x
    +ℤ pos q.y *ℤ p.y
    +ℤ pos q.z *ℤ p.z
    +ℤ pos q.one)

-- the square of a x + b y + c z + d
unfoldable pub square_of : ℤ → ℤ → ℤ → ℤ → Quadric
square_of a b c d =
    record {
      xx = residue (a *ℤ a);
      yy = residue (b *ℤ b);
      zz = residue (c *ℤ c);
      xy = residue (pos 2 *ℤ (a *ℤ b));
      xz = residue (pos 2 *ℤ (a *ℤ c));
      yz = residue (pos 2 *ℤ (b *ℤ c));
      x = residue (pos 2 *ℤ (a *ℤ d));
      y = residue (pos 2 *ℤ (b *ℤ d));
      z = residue (pos 2 *ℤ (c *ℤ d));
      one = residue (d *ℤ d);
    }

-- the square of n · (p - a) in the point p, n being the normal of the triangle a, b, c: of n · p + d with d = - n · a
unfoldable pub quadric : Vector → Vector → Vector → Quadric
quadric a b c = let n : Vector = normal a b c in square_of n.x n.y n.z (neg_ℤ (dot n a))

-- every coefficient is below 2 ^ 64
pub record Sound (q : Quadric) : Type 0 where
  pub xx : q.xx < 2 ^ 64
  pub yy : q.yy < 2 ^ 64
  pub zz : q.zz < 2 ^ 64
  pub xy : q.xy < 2 ^ 64
  pub xz : q.xz < 2 ^ 64
  pub yz : q.yz < 2 ^ 64
  pub x : q.x < 2 ^ 64
  pub y : q.y < 2 ^ 64
  pub z : q.z < 2 ^ 64
  pub one : q.one < 2 ^ 64
