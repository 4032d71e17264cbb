-- What was drawn comes back when it is gathered.
use Rattle.std.proofs.Common.{◌≡◌, ℕ, zero, suc, ◌+◌, ◌*◌, ◌/◌, ◌<◌, true, false, ltb, List, [], ◌∷◌, length, get_or, replicate, vec_items, sym, refl, ap, ◌∙◌, inl, inr, arith}
use lib.Ieee.{nan}
use Rattle.std.proofs.lemmas.List.{get_or_past, get_or-replicate, length-replicate}
use Rattle.std.proofs.lemmas.Bool.{cases_lt, lt-ltb, le-ltb}
use Rattle.surface.specs.Surface.{Within}
use Rattle.surface.specs.Read.{read}
use Rattle.surface.specs.Euler.{triangles}
use Rattle.geometry.specs.declared.Position.{Position}
use Rattle.geometry.specs.Values.{vector_of}
use Rattle.gathering.specs.Model.{surface_of}
use Rattle.mesh.specs.Model.{surface}
use Rattle.mesh.specs.Laws.{vertex_slots, triangle_slots}
use Rattle.mesh.specs.declared.mesh.Mesh.{Mesh}
use Rattle.mesh.proofs.Round.{closed_held}
use Rattle.drawing.specs.Places.{place, triangle_place}
use Rattle.drawing.specs.Drawn.{Drawn, position_at}
use Rattle.drawing.specs.ClosedUp.{ClosedUp}
use Rattle.drawing.specs.Back.{TakenFrom, CameBackWhole, DrawnBack, DrawnBackWhole}
use Rattle.drawing.specs.declared.point.Point.{Point}
use Rattle.drawing.proofs.Counts.{count_before}
use Rattle.drawing.proofs.Lows.{live_low, vertex_low, vertex_slots_lem, triangle_slots_lem}
use Rattle.drawing.proofs.Shapes.{closing_up}

-- n entries that are set
all_set : (n i : ℕ) → get_or (replicate n true) i false ≡ ltb i n
all_set n i = elim (cases_lt i n) [
  | inl l ↦ get_or-replicate n i true false l ∙ sym (lt-ltb i n l)
  | inr l ↦ get_or_past (replicate n true) i false (let e = length-replicate n true in omega arith) ∙ sym (le-ltb i n l)
]

-- a point for where none is read
pub unread : Point
unread = record { x = nan; y = nan; z = nan }

pub mesh_within : (m : Mesh) → Within (surface m) (triangle_slots m) (vertex_slots m)
mesh_within m =
    record {
      triangles = λ t l. let a = live_low m.edges t l in let b = triangle_slots_lem m in omega arith;
      vertices = λ v l. let a = vertex_low m.edges v l in let b = vertex_slots_lem m in omega arith;
    }

module _ (m : Mesh) (ps : List Point) (ts : List (List ℕ)) (a b : ℕ) (ps' : List Point) (ts' : List (List ℕ)) (D : Drawn m ps ts a b ps' ts')
    (qs : List Position) (cs : List ℕ) (G : TakenFrom ps' ts' a b qs cs) where
  entry : (x y z k : ℕ) (f : ℕ → ℕ) → f 0 ≡ x → f 1 ≡ y → f 2 ≡ z → k < 3 → get_or (x ∷ y ∷ z ∷ []) k 0 ≡ f k
  entry x y z zero f p q r l = sym p
  entry x y z (suc zero) f p q r l = sym q
  entry x y z (suc (suc zero)) f p q r l = sym r
  entry x y z (suc (suc (suc k))) f p q r l = absurd (omega arith)

  triangles_many : length cs / 3 ≡ triangles (surface m) (triangle_slots m)
  triangles_many = let x = G.corners_many in let y = D.triangles_counted in omega arith

  regathered : ClosedUp (surface m) (surface_of qs cs) (triangle_slots m) (vertex_slots m)
  unfolding read
  regathered =
      record {
        vertices_up = λ v. ap (λ n. get_or (replicate n true) v false) (G.positions_many ∙ D.vertices_counted) ∙ all_set _ v;
        triangles_up = λ t. ap (λ n. get_or (replicate n true) t false) triangles_many ∙ all_set _ t;
        corners_up = λ t k l i.
            let S = surface m in
            let low = count_before S.alive t (triangle_slots m) ((mesh_within m).triangles t l) l in
            let z : 3 * t + 0 ≡ 3 * t = omega arith in
            G.corners_are (triangle_place S t) k (let c = D.triangles_counted in omega arith) i
            ∙ ap (λ e. get_or e k 0) (D.at_triangle t l)
            ∙ entry _ _ _ k (λ j. place S (S.corner (3 * t + j))) (ap (λ h. place S (S.corner h)) z) refl refl i;
      }

  pub came_back_whole : CameBackWhole m qs cs
  came_back_whole =
      record {
        came =
            record {
              same_shape = closing_up (surface m) (surface_of qs cs) (triangle_slots m) (vertex_slots m) (closed_held m.edges) (mesh_within m) regathered;
              same_points = λ v l.
                  let S = surface m in
                  let low = count_before S.present v (vertex_slots m) ((mesh_within m).vertices v l) l in
                  ap vector_of (G.positions_are (place S v) unread (position_at (vec_items m.positions) v) (let c = D.vertices_counted in omega arith) (D.at_vertex v unread l));
            };
        vertices_many = G.positions_many ∙ D.vertices_counted;
        triangles_many = triangles_many;
        closed_up = regathered;
      }

pub drawn_back_whole : DrawnBackWhole
drawn_back_whole m ps ts a b ps' ts' D qs cs G = came_back_whole m ps ts a b ps' ts' D qs cs G

pub drawn_back : DrawnBack
drawn_back m ps ts a b ps' ts' D qs cs G = (drawn_back_whole m ps ts a b ps' ts' D qs cs G).came
