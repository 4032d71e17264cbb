-- What the collapse of u to w sweeps: the volumes between the triangles that it moves and the point of w.
use Rattle.std.specs.Prelude.{ℕ, Bool, false, cond, not, ◌&&◌, ◌||◌, Some, None, Option, ◌==◌, unsigned_abs}
use Rattle.surface.specs.Geometry.{Vector, six_volume}
use Rattle.surface.specs.Euler.{count, total}
use Rattle.gauge.specs.Near.{Placed}

-- v is a corner of the triangle
unfoldable pub holds : Placed → ℕ → Bool
holds t v = t.a == v || (t.b == v || t.c == v)

-- there is a triangle and it is moved: it holds u and not w
unfoldable pub moves : ℕ → ℕ → Option Placed → Bool
moves u w None = false
moves u w (Some t) = holds t u && not (holds t w)

-- the size of the triangle's six-volume at the point p
unfoldable pub size : Vector → Option Placed → ℕ
size p None = 0
size p (Some t) = unsigned_abs (six_volume t.p t.q t.r p)

-- the sum of the sizes over the moved triangles, p being the point of w; no triangle has a number of 2,048 or more
unfoldable pub volume_swept : ℕ → ℕ → Vector → (ℕ → Option Placed) → ℕ
volume_swept u w p near = total (λ t. cond (moves u w (near t)) (size p (near t)) 0) 2048

-- how many are moved
unfoldable pub number_moved : ℕ → ℕ → (ℕ → Option Placed) → ℕ
number_moved u w near = count (λ t. moves u w (near t)) 2048
