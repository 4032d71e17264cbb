-- Points in metres, of positions in quarter metres.
use Rattle.std.specs.Prelude.{◌≡◌, ℕ, ◌≤◌, false, pos, Float}
use Rattle.std.specs.Float.{binary32, fin}
use Rattle.std.specs.Float.Ieee.{mul, of_int}
use Rattle.std.specs.Float.Ieee.Exact.{HasValue}
use Rattle.geometry.specs.declared.Position.{Position}
use Rattle.drawing.specs.declared.point.Point.{Point}

-- the coordinate n divided by 4 is f, exactly; four times f is n again
pub record Quarter (n : ℕ) (f : Float) : Type 0 where
  pub low : n ≤ 255
  pub exact : HasValue f false n 4
  pub back : mul binary32 f (fin false 1 (pos 2)) ≡ of_int binary32 (pos n)

pub record Placed (q : Position) (p : Point) : Type 0 where
  pub x_quarter : Quarter q.x p.x
  pub y_quarter : Quarter q.y p.y
  pub z_quarter : Quarter q.z p.z
