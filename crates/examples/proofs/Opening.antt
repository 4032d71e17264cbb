-- The octahedron as it is opened.
use Rattle.std.proofs.Common.{ℕ, ◌+◌, not, eqb, [], ◌∷◌, get_or, pos, Ok, nat_abs, refl, ap, arith, lit≤}
use Rattle.std.proofs.lemmas.Bool.{eqb-false, not-true}
use Rattle.surface.specs.Surface.{Surface, Side, Within}
use Rattle.surface.specs.Closed.{Closed}
use Rattle.surface.specs.Geometry.{Vector, normal_at}
use Rattle.mesh.proofs.Along.{whole_within}
use Rattle.gathering.specs.Model.{surface_of, point_of}
use Rattle.judging.specs.Verdict.{NoneFlat, Judged}
use Rattle.ledger.specs.Book.{Sensible, surface_now, PermittedNow}
use Rattle.examples.specs.Octahedron.{positions, corners, octahedron}
use Rattle.examples.proofs.Every.{every_at}
use Rattle.examples.proofs.Sealing.{closed_told}
use Rattle.examples.proofs.Reaching.{one_piece}
use Rattle.examples.proofs.Permitting.{allows}
use Rattle.examples.proofs.Standing.{permitted_at, of_sides}
use Rattle.examples.proofs.Computing.{tests}

abbrev pub start : Surface
start = surface_of positions corners

abbrev pub points : ℕ → Vector
points = point_of positions

pub start_within : Within start 8 6
unfolding tests
start_within = whole_within corners 6

-- the half-edge across from h
unfoldable opposite : ℕ → ℕ
opposite h = get_or (12 ∷ 5 ∷ 10 ∷ 15 ∷ 8 ∷ 1 ∷ 18 ∷ 11 ∷ 4 ∷ 21 ∷ 2 ∷ 7 ∷ 0 ∷ 23 ∷ 16 ∷ 3 ∷ 14 ∷ 19 ∷ 6 ∷ 17 ∷ 22 ∷ 9 ∷ 20 ∷ 13 ∷ []) h 0

pub start_closed : Closed start
unfolding tests opposite
start_closed = closed_told start opposite 4 8 6 start_within refl 0 refl

-- the sum of the sizes of the coordinates
abbrev span : Vector → ℕ
span n = nat_abs n.x + nat_abs n.y + nat_abs n.z

none_flat : NoneFlat start points
unfolding tests
none_flat t (l, e) = eqb-false _ 0 (not-true _ (every_at (λ t. not (eqb (span (normal_at start points t)) 0)) 8 refl t (start_within.triangles t l))) (ap span e)

pub accepted : Judged positions corners (Ok (record { vertices = 6; triangles = 8; euler = pos 2; pieces = 1 }))
unfolding tests
accepted = (
  start_closed,
  none_flat,
  record { vertices_are = refl; triangles_are = refl; euler_is = refl; pieces_are = one_piece start 8 0 2 6 start_within refl refl },
)

pub octahedron_sensible : Sensible octahedron
unfolding tests
octahedron_sensible = record { closed = start_closed; within = start_within; placed = lit≤ tt; permitted = λ k l. absurd (omega arith) }

pub all_permitted : (u w : ℕ) → Side (surface_now octahedron) u w → PermittedNow octahedron u w
unfolding tests
all_permitted = of_sides octahedron octahedron_sensible (PermittedNow octahedron) (allows (surface_now octahedron) 8 6 points) refl (permitted_at octahedron octahedron_sensible)
