-- What was drawn fits, and so is not refused when it is gathered again.
use Rattle.std.proofs.Common.{◌≡◌, ℕ, zero, suc, ◌+◌, ◌*◌, ◌<◌, true, ◌≢◌, List, [], length, get_or, take, Ok, Err, Result, sym, ap, ◌∙◌, subst, arith}
use Rattle.std.proofs.lemmas.List.{get_or-take, length-take-le}
use Rattle.surface.specs.Surface.{Surface, Tri}
use Rattle.surface.proofs.Tris.{spin, spin2, first_of}
use Rattle.geometry.specs.declared.Position.{Position}
use Rattle.gathering.specs.Model.{positions, corners}
use Rattle.gathering.specs.declared.gathering.Gathering.{Gathering}
use Rattle.mesh.specs.Model.{surface}
use Rattle.mesh.specs.Laws.{vertex_slots, triangle_slots}
use Rattle.mesh.specs.declared.mesh.Mesh.{Mesh}
use Rattle.mesh.proofs.Round.{closed_held}
use Rattle.drawing.specs.Points.{Placed}
use Rattle.drawing.specs.Places.{place, triangle_place, corners_at}
use Rattle.drawing.specs.Drawn.{Drawn}
use Rattle.drawing.specs.Back.{TakenFrom, PointsFit, TrianglesFit, Regathers, ComesBack, ComesBackWhole, DrawnAndRegathered, DrawnAndRegatheredWhole}
use Rattle.drawing.specs.declared.point.Point.{Point}
use Rattle.drawing.specs.declared.regathering.Unfit.{Unfit}
use Rattle.drawing.specs.declared.regathering.Unfit.TheVariants.{NoMemory, Vertex, Triangle}
use Rattle.drawing.proofs.Counts.{count_before, count_most, count_one_place, nth, nth_is}
use Rattle.drawing.proofs.Lows.{triangle_slots_lem, few_triangles}
use Rattle.drawing.proofs.Returned.{mesh_within, came_back_whole}

module _ (m : Mesh) (ps : List Point) (ts : List (List ℕ)) (a b : ℕ) (ps' : List Point) (ts' : List (List ℕ)) (D : Drawn m ps ts a b ps' ts') where
  abbrev S : Surface
  S = surface m

  points_long : length (take a ps') ≡ a
  points_long = length-take-le a ps' (let x = D.room.0 in let y = D.lengths_same.0 in omega arith)

  triangles_long : length (take b ts') ≡ b
  triangles_long = length-take-le b ts' (let x = D.room.1 in let y = D.lengths_same.1 in omega arith)

  points_fit : PointsFit (take a ps')
  points_fit =
      record {
        few =
            let x = count_most S.present (vertex_slots m) in
            let y = m.few_vertices in
            let z = m.positions.ok.0 in
            omega (arith, points_long, D.vertices_counted);
        each = λ i p l.
            let k : i < a = omega (arith, points_long) in
            let (_, live, is) = nth_is S.present (vertex_slots m) i (let c = D.vertices_counted in omega arith) in
            let at = D.at_vertex (nth S.present (vertex_slots m) i) p live in
            (_, subst (Placed _) (ap (λ (j : ℕ). get_or ps' j p) is ∙ sym (get_or-take a ps' i p k)) at);
      }

  -- the triangle of the mesh that stands at place t
  module _ (t : ℕ) (l : t < length (take b ts')) where
    below : t < b
    below = omega (arith, triangles_long)

    s : ℕ
    s = nth S.alive (triangle_slots m) t

    found : (s < triangle_slots m) × (S.alive s ≡ true) × (triangle_place S s ≡ t)
    unfolding s
    found = nth_is S.alive (triangle_slots m) t (let c = D.triangles_counted in let k = below in omega arith)

    is : get_or (take b ts') t [] ≡ corners_at S s
    is = get_or-take b ts' t [] below ∙ ap (λ (j : ℕ). get_or ts' j []) (sym found.2) ∙ D.at_triangle s found.1

    tri : Tri S (3 * s) (S.corner (3 * s)) (S.corner (3 * s + 1)) (S.corner (3 * s + 2))
    tri = first_of S s found.1

    low : {h x y z : ℕ} → Tri S h x y z → place S x < a
    low {h} {x} {y} {z} t =
        let p = (closed_held m.edges).known h x y z t in
        let q = count_before S.present x (vertex_slots m) ((mesh_within m).vertices x p) p in
        omega (arith, D.vertices_counted)

    apart : {h x y z : ℕ} → Tri S h x y z → place S x ≢ place S y
    apart {h} {x} {y} {z} t e =
        let C = closed_held m.edges in
        C.proper h x y z t (count_one_place S.present x y (C.known h x y z t) (C.known _ y z x (spin t)) e)

    known : (k : ℕ) → k < 3 → get_or (corners_at S s) k 0 < a
    known zero i = low tri
    known (suc zero) i = low (spin tri)
    known (suc (suc zero)) i = low (spin2 tri)
    known (suc (suc (suc k))) i = absurd (omega arith)

    differ : (get_or (corners_at S s) 0 0 ≢ get_or (corners_at S s) 1 0) × (get_or (corners_at S s) 1 0 ≢ get_or (corners_at S s) 2 0) × (get_or (corners_at S s) 2 0 ≢ get_or (corners_at S s) 0 0)
    differ = (apart tri, apart (spin tri), apart (spin2 tri))

  triangles_fit : TrianglesFit (take b ts') a
  triangles_fit =
      record {
        few =
            let x = count_most S.alive (triangle_slots m) in
            omega (arith, triangles_long, D.triangles_counted, triangle_slots_lem m, few_triangles m.edges);
        known = λ t k l i. subst (λ (e : List ℕ). get_or e k 0 < a) (sym (is t l)) (known t l k i);
        differ = λ t l.
            subst (λ (e : List ℕ). (get_or e 0 0 ≢ get_or e 1 0) × (get_or e 1 0 ≢ get_or e 2 0) × (get_or e 2 0 ≢ get_or e 0 0)) (sym (is t l)) (differ t l);
      }

  whole : (qs : List Position) (cs : List ℕ) → TakenFrom (take a ps') (take b ts') (length (take a ps')) (length (take b ts')) qs cs → TakenFrom ps' ts' a b qs cs
  whole qs cs G =
      record {
        positions_many = G.positions_many ∙ points_long;
        corners_many = G.corners_many ∙ ap (λ (n : ℕ). 3 * n) triangles_long;
        positions_are = λ i p q l A. G.positions_are i p q (omega (arith, points_long)) (subst (Placed q) (sym (get_or-take a ps' i p l)) A);
        corners_are = λ t k l i. G.corners_are t k (omega (arith, triangles_long)) i ∙ ap (λ (e : List ℕ). get_or e k 0) (get_or-take b ts' t [] l);
      }

  pub comes_back_whole : (r : Result Gathering Unfit) → Regathers (take a ps') (take b ts') r → ComesBackWhole m r
  comes_back_whole (Ok g) G = came_back_whole m ps ts a b ps' ts' D (positions g) (corners g) (whole (positions g) (corners g) G)
  comes_back_whole (Err NoMemory) G = tt
  comes_back_whole (Err (Vertex e)) G = G points_fit
  comes_back_whole (Err (Triangle e)) G = G (subst (TrianglesFit (take b ts')) (sym points_long) triangles_fit)

came : (m : Mesh) (r : Result Gathering Unfit) → ComesBackWhole m r → ComesBack m r
came m (Ok g) W = W.came
came m (Err NoMemory) W = tt
came m (Err (Vertex e)) W = W
came m (Err (Triangle e)) W = W

pub drawn_and_regathered : DrawnAndRegathered
drawn_and_regathered m ps ts a b ps' ts' D r G = came m r (comes_back_whole m ps ts a b ps' ts' D r G)

pub drawn_and_regathered_whole : DrawnAndRegatheredWhole
drawn_and_regathered_whole m ps ts a b ps' ts' D r G = comes_back_whole m ps ts a b ps' ts' D r G
