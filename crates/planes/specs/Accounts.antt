-- The account of the gauge by planes. Corner h is the corner at which half-edge h begins, of triangle h / 3.
use Rattle.std.specs.Prelude.{◌≡◌, ℕ, zero, suc, ◌+◌, ◌*◌, ◌/◌, ◌<◌, cond, ◌&&◌, List, map, length, ◌==◌, slice_index_or}
use Rattle.std.specs.List.{range_with_len}
use Rattle.surface.specs.Surface.{Surface}
use Rattle.surface.specs.Geometry.{Vector}
use Rattle.planes.specs.declared.quadric.Quadric.{Quadric}
use Rattle.planes.specs.Quadrics as quadrics
use Rattle.planes.specs.Quadrics.{quadric, plus, sum, at_point}

-- the quadric of triangle t, P giving the points of the vertices
unfoldable pub quadric_at : Surface → (ℕ → Vector) → ℕ → Quadric
quadric_at S P t = quadric (P (S.corner (3 * t))) (P (S.corner (3 * t + 1))) (P (S.corner (3 * t + 2)))

-- the sum of the quadrics of the live triangles over those of the first H corners that are the vertex c
unfoldable pub gathered : Surface → (ℕ → Vector) → ℕ → ℕ → Quadric
gathered S P c zero = quadrics.zero
gathered S P c (suc h) = cond (S.alive (h / 3) && S.corner h == c) (plus (gathered S P c h) (quadric_at S P (h / 3))) (gathered S P c h)

-- each vertex has the sum over all corners: there are 2048 triangles at most
abbrev pub opening : Surface → (ℕ → Vector) → ℕ → List Quadric
opening S P n = map (λ c. gathered S P c 6144) (range_with_len 0 n)

-- each entry is the sum over the first H corners
abbrev pub Gathered : Surface → (ℕ → Vector) → ℕ → List Quadric → Type 0
Gathered S P H entries = (c : ℕ) → c < length entries → slice_index_or entries c quadrics.zero ≡ gathered S P c H

-- what the two polynomials give at a point, modulo 2 ^ 64
abbrev pub price : Quadric → Quadric → Vector → ℕ
price q r p = sum (at_point q p) (at_point r p)
