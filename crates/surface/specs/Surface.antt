-- Surfaces of triangles.
-- Triangle t has the half-edges 3 t, 3 t + 1 and 3 t + 2. A half-edge begins at its own corner and ends at the corner of the
-- next half-edge of its triangle, so that the three of them are the sides of the triangle in order.
use Rattle.std.specs.Prelude.{◌≡◌, ℕ, ◌+◌, ◌-◌, ◌/◌, ◌%◌, ◌<◌, Bool, true, cond, ◌==◌}

pub record Surface : Type 0 where
  pub corner : ℕ → ℕ  -- the vertex at which a half-edge begins
  pub alive : ℕ → Bool  -- of a triangle
  pub present : ℕ → Bool  -- of a vertex: it is live

-- the next half-edge of the same triangle, and the one before
unfoldable pub next : ℕ → ℕ
next h = cond (h % 3 == 2) (h - 2) (h + 1)

abbrev pub prev : ℕ → ℕ
prev h = next (next h)

-- h is a half-edge of a live triangle, whose corners are a, b and c from h on: the side h leads from a to b
pub record Tri (S : Surface) (h a b c : ℕ) : Type 0 where
  pub lives : S.alive (h / 3) ≡ true
  pub from : S.corner h ≡ a
  pub to : S.corner (next h) ≡ b
  pub third : S.corner (prev h) ≡ c

-- (a, b) is a side of a live triangle
abbrev pub Side : Surface → ℕ → ℕ → Type 0
Side S a b = (h : ℕ) × (c : ℕ) × Tri S h a b c

-- no live triangle has a number of T or more, and no live vertex one of V or more
pub record Within (S : Surface) (T V : ℕ) : Type 0 where
  pub triangles : (t : ℕ) → S.alive t ≡ true → t < T
  pub vertices : (v : ℕ) → S.present v ≡ true → v < V
