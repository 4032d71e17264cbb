use Rattle.std.proofs.Common.{◌≡◌, ℕ, List, length, vec_items, vec_len, sym, ap, ◌∙◌, subst, arith}
use Rattle.geometry.specs.declared.Position.{Position}
use Rattle.mesh.specs.Model.{held, surface}
use Rattle.mesh.specs.declared.halfedges.HalfEdges.{HalfEdges}
use Rattle.drawing.specs.Points.{Placed}
use Rattle.drawing.specs.Drawn.{Pointed, position_at}
use Rattle.drawing.specs.declared.point.Point.{Point}
use Rattle.drawing.proofs.Counts.{count_zero, count_most}
use Rattle.drawing.proofs.Fills.{filled_none, turn_on, turn_off, place_room}
use Rattle.drawing.proofs.writing.write_points.Goals as goal
use Rattle.drawing.proofs.writing.write_points.Goals.{then-is_vertex, else-is_vertex}

pub loop-v-init : goal.loop-v-init
loop-v-init c =
    let m = c.args.mesh.now in
    let S = surface m in
    (sym (count_zero S.present), filled_none Point S.present (λ v p. Placed (position_at (vec_items m.positions) v) p) c.args.points.now)

pub offset_bounds-points-k : goal.offset_bounds-points-k
offset_bounds-points-k c =
    let m = c.args.mesh.now in
    let e = ap (λ (x : HalfEdges). vec_len x.vertices) c.edges-edges.ensures.value in
    omega (arith, count_most (surface m).present c.loop-v.v, c.loop-v.invariant.0, m.edges.few_vertices)

pub bounds-points-k : goal.bounds-points-k
bounds-points-k c =
    let m = c.args.mesh.now in
    let e = ap (λ (x : HalfEdges). vec_len x.vertices) c.edges-edges.ensures.value in
    let v = c.loop-v.v in
    place_room (surface m).present v (vec_len m.edges.vertices) c.loop-v.k (length c.loop-v.points) c.loop-v.invariant.0 (omega arith)
    (ap (λ (x : HalfEdges). (held x).present v) (sym c.edges-edges.ensures.value) ∙ sym c.is_vertex.ensures.value ∙ c.if-is_vertex.true)
    (let r = c.requires.room in let k = c.loop-v.auto.points in omega arith)

pub overflow_add-k : goal.overflow_add-k
overflow_add-k c =
    let m = c.args.mesh.now in
    let e = ap (λ (x : HalfEdges). vec_len x.vertices) c.edges-edges.ensures.value in
    omega (arith, count_most (surface m).present c.loop-v.v, c.loop-v.invariant.0, m.edges.few_vertices)

pub loop-v-preserved : goal.loop-v-preserved
loop-v-preserved c =
    let m = c.args.mesh.now in
    let S = surface m in
    let qs = vec_items m.positions in
    let e = ap (λ (x : HalfEdges). vec_len x.vertices) c.edges-edges.ensures.value in
    let v = c.loop-v.v in
    let k = c.loop-v.k in
    let l = c.loop-v.points in
    let r = ap (λ (x : HalfEdges). (held x).present v) (sym c.edges-edges.ensures.value) ∙ sym c.is_vertex.ensures.value in
    elim c.if-is_vertex.branch [
      | then-is_vertex w ↦
          let q = r ∙ w.if-is_vertex.true in
          turn_on Point S.present (λ j p. Placed (position_at qs j) p) c.args.points.now v l _ w.from.result k _
          c.loop-v.invariant.0 w.k-is w.points-is q
          (place_room S.present v (vec_len m.edges.vertices) k (length l) c.loop-v.invariant.0 (omega arith) q (let x = c.requires.room in let y = c.loop-v.auto.points in omega arith))
          (subst (λ (q : List Position). Placed (position_at q v) w.from.result) c.positions-positions.ensures.value w.from.ensures) c.loop-v.invariant.1
      | else-is_vertex w ↦
          turn_off Point S.present (λ j p. Placed (position_at qs j) p) c.args.points.now v l _ k _
          c.loop-v.invariant.0 w.k-is w.points-is (r ∙ w.if-is_vertex.false) c.loop-v.invariant.1
    ]

pub returns : goal.returns
returns c =
    let m = c.args.mesh.now in
    let e = ap (λ (x : HalfEdges). vec_len x.vertices) c.edges-edges.ensures.value in
    let i : c.loop-v.v ≡ vec_len m.edges.vertices = omega arith in
    record { written = subst (λ (n : ℕ). Pointed (surface m) (vec_items m.positions) n c.args.points.now c.loop-v.points) i c.loop-v.invariant.1 }
