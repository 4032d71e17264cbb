-- The live triangles at two vertices.
use Rattle.std.specs.Prelude.{ℕ, ◌+◌, ◌*◌, Bool, cond, ◌&&◌, ◌||◌, Some, None, Option, ◌==◌}
use Rattle.surface.specs.Surface.{Surface}
use Rattle.surface.specs.Geometry.{Vector}

-- the corners of a triangle in order, and their points
pub record Placed : Type 0 where
  pub a : ℕ
  pub b : ℕ
  pub c : ℕ
  pub p : Vector
  pub q : Vector
  pub r : Vector

-- v is a corner of triangle t
unfoldable pub has : Surface → ℕ → ℕ → Bool
has S t v = S.corner (3 * t) == v || (S.corner (3 * t + 1) == v || S.corner (3 * t + 2) == v)

-- triangle t with its points
unfoldable pub placed : Surface → (ℕ → Vector) → ℕ → Placed
placed S P t =
    record {
      a = S.corner (3 * t);
      b = S.corner (3 * t + 1);
      c = S.corner (3 * t + 2);
      p = P (S.corner (3 * t));
      q = P (S.corner (3 * t + 1));
      r = P (S.corner (3 * t + 2));
    }

-- the live triangles with corner u or w, by number, with their points; nothing of any other triangle
unfoldable pub near : Surface → (ℕ → Vector) → ℕ → ℕ → ℕ → Option Placed
near S P u w t = cond (S.alive t && (has S t u || has S t w)) (Some (placed S P t)) None
