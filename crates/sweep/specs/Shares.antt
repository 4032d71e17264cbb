-- What the triangle of a half-edge h adds to what a collapse to w sweeps, S being the surface and P giving the points of the vertices.
use Rattle.std.specs.Prelude.{◌≡◌, ℕ, ◌≤◌, ◌≢◌, unsigned_abs}
use Rattle.surface.specs.Surface.{Surface, next, prev}
use Rattle.surface.specs.Geometry.{Vector, six_volume}

-- the size of its six-volume at the point of w
abbrev pub size_at : Surface → (ℕ → Vector) → ℕ → ℕ → ℕ
size_at S P w h = unsigned_abs (six_volume (P (S.corner h)) (P (S.corner (next h))) (P (S.corner (prev h))) (P w))

-- that size and one, or nothing where w is its second or third corner; a size is at most 3 × 130,050 × 255
pub record Share (S : Surface) (P : ℕ → Vector) (w h volume number : ℕ) : Type 0 where
  pub moved : S.corner (next h) ≢ w → S.corner (prev h) ≢ w → (volume ≡ size_at S P w h) × (number ≡ 1)
  pub to : S.corner (next h) ≡ w → (volume ≡ 0) × (number ≡ 0)
  pub third : S.corner (prev h) ≡ w → (volume ≡ 0) × (number ≡ 0)
  pub small : volume ≤ 99488250
  pub few : number ≤ 1
