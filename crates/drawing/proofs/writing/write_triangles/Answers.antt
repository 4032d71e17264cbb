use Rattle.std.proofs.Common.{◌≡◌, ℕ, ◌*◌, ◌/◌, List, length, vec_len, sym, ap, ◌∙◌, subst, arith}
use Rattle.mesh.specs.Model.{held}
use Rattle.mesh.specs.declared.halfedges.HalfEdges.{HalfEdges}
use Rattle.drawing.specs.Places.{corners_at}
use Rattle.drawing.specs.Drawn.{Cornered}
use Rattle.drawing.proofs.Counts.{count_zero, count_most}
use Rattle.drawing.proofs.Fills.{filled_none, turn_on, turn_off, place_room}
use Rattle.drawing.proofs.Lows.{slots, few_triangles}
use Rattle.drawing.proofs.writing.write_triangles.Goals as goal
use Rattle.drawing.proofs.writing.write_triangles.Goals.{then-is_live, else-is_live}

pub loop-t-init : goal.loop-t-init
loop-t-init c =
    let S = held c.args.edges.now in
    (sym (count_zero S.alive), filled_none (List ℕ) S.alive (λ t e. e ≡ corners_at S t) c.args.triangles.now)

-- what was asked at the first half-edge of t
at : (e : HalfEdges) (t : ℕ) → (held e).alive t ≡ (held e).alive (3 * t / 3)
at e t = let i : 3 * t / 3 ≡ t = omega arith in ap (held e).alive (sym i)

pub offset_bounds-triangles-k : goal.offset_bounds-triangles-k
offset_bounds-triangles-k c =
    let e = c.args.edges.now in
    omega (arith, count_most (held e).alive c.loop-t.t, c.loop-t.invariant.0, slots e, few_triangles e)

pub bounds-triangles-k : goal.bounds-triangles-k
bounds-triangles-k c =
    let e = c.args.edges.now in
    let s = slots e in
    place_room (held e).alive c.loop-t.t (vec_len e.triangles) c.loop-t.k (length c.loop-t.triangles) c.loop-t.invariant.0 (omega arith)
    (at e c.loop-t.t ∙ sym c.is_live.ensures.value ∙ c.if-is_live.true) (let r = c.requires.room in let k = c.loop-t.auto.triangles in omega arith)

pub overflow_add-k : goal.overflow_add-k
overflow_add-k c =
    let e = c.args.edges.now in
    omega (arith, count_most (held e).alive c.loop-t.t, c.loop-t.invariant.0, slots e, few_triangles e)

pub loop-t-preserved : goal.loop-t-preserved
loop-t-preserved c =
    let e = c.args.edges.now in
    let S = held e in
    let s = slots e in
    let t = c.loop-t.t in
    let k = c.loop-t.k in
    let l = c.loop-t.triangles in
    let r = at e t ∙ sym c.is_live.ensures.value in
    elim c.if-is_live.branch [
      | then-is_live w ↦
          let q = r ∙ w.if-is_live.true in
          turn_on (List ℕ) S.alive (λ j x. x ≡ corners_at S j) c.args.triangles.now t l _ w.corner_places.result k _
          c.loop-t.invariant.0 w.k-is w.triangles-is q
          (place_room S.alive t (vec_len e.triangles) k (length l) c.loop-t.invariant.0 (omega arith) q (let x = c.requires.room in let y = c.loop-t.auto.triangles in omega arith))
          w.corner_places.ensures.value c.loop-t.invariant.1
      | else-is_live w ↦
          turn_off (List ℕ) S.alive (λ j x. x ≡ corners_at S j) c.args.triangles.now t l _ k _
          c.loop-t.invariant.0 w.k-is w.triangles-is (r ∙ w.if-is_live.false) c.loop-t.invariant.1
    ]

pub returns : goal.returns
returns c =
    let e = c.args.edges.now in
    let s = slots e in
    let i : c.loop-t.t ≡ vec_len e.triangles = omega arith in
    record { written = subst (λ (n : ℕ). Cornered (held e) n c.args.triangles.now c.loop-t.triangles) i c.loop-t.invariant.1 }
