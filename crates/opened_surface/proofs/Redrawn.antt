-- What came back of an accepted surface is accepted.
use Rattle.std.proofs.Common.{ℕ, length, Ok, Err, Result, sym, refl, ap, ◌∙◌}
use Rattle.surface.specs.Surface.{Surface}
use Rattle.surface.specs.Euler.{vertices, triangles, euler}
use Rattle.gathering.specs.Model.{positions, corners, point_of, surface_of, triangle_count}
use Rattle.gathering.specs.declared.gathering.Gathering.{Gathering}
use Rattle.judging.specs.Verdict.{JudgedSurface, Counted}
use Rattle.judging.specs.declared.verdict.Counts.{Counts}
use Rattle.mesh.specs.Laws.{triangle_slots, vertex_slots}
use Rattle.mesh.specs.Model.{surface, opening, points}
use Rattle.mesh.specs.declared.mesh.Mesh.{Mesh}
use Rattle.mesh.proofs.Kinship.{always_kin}
use Rattle.drawing.specs.Back.{CameBackWhole, ComesBackWhole}
use Rattle.drawing.specs.declared.regathering.Unfit.{Unfit}
use Rattle.opened_surface.specs.Redrawn.{AcceptedAs, AcceptedAgain}

-- the mesh m was accepted with the counts n as it was opened
module _ (m : Mesh) (n : Counts) (J : JudgedSurface (opening m) (points m) (triangle_slots m) (vertex_slots m) (Ok n)) where
  -- the counts of the surface as it is now
  abbrev now_counts : Counts
  now_counts =
      record {
        vertices = vertices (surface m) (vertex_slots m);
        triangles = triangles (surface m) (triangle_slots m);
        euler = n.euler;
        pieces = n.pieces;
      }

  counted_now : Counted (surface m) (triangle_slots m) (vertex_slots m) now_counts
  counted_now =
      let kin = always_kin m in
      record { vertices_are = refl; triangles_are = refl; euler_is = J.2.euler_is ∙ sym kin.euler_same; pieces_are = (kin.pieces_same n.pieces).0 J.2.pieces_are }

  module _ (g : Gathering) (B : CameBackWhole m (positions g) (corners g)) where
    abbrev N : Surface
    N = surface_of (positions g) (corners g)

    counted_again : Counted N (triangle_count (corners g)) (length (positions g)) now_counts
    counted_again =
        let S = B.came.same_shape in
        let v = B.vertices_many in
        let t = B.triangles_many in
        record {
          vertices_are = sym (ap (vertices N) v ∙ S.vertices_same);
          triangles_are = sym (ap (triangles N) t ∙ S.triangles_same);
          euler_is = counted_now.euler_is ∙ sym (ap (λ (k : ℕ). euler N k (length (positions g))) t ∙ ap (λ (k : ℕ). euler N (triangles (surface m) (triangle_slots m)) k) v ∙ S.euler_same);
          pieces_are = (S.pieces_same n.pieces).0 counted_now.pieces_are;
        }

    accepted_as : AcceptedAs m g
    accepted_as =
        let S = B.came.same_shape in
        let normals = S.normals (points m) (point_of (positions g)) B.came.same_points ((always_kin m).normals (λ t l z. J.1 t (l, z))) in
        record {
          counts = now_counts;
          judged = (S.closed, λ t f. normals t f.0 f.1, counted_again);
          counted = counted_now;
        }

  pub accepted_again : (r : Result Gathering Unfit) → ComesBackWhole m r → AcceptedAgain m r
  accepted_again (Ok g) B = accepted_as g B
  accepted_again (Err e) B = tt
