use Rattle.std.proofs.Common.{◌≡◌, ◌*◌, ◌/◌, ◌++◌, vec_items, vec_len, sym, ap, ◌∙◌, arith}
use Rattle.mesh.specs.Model.{held}
use Rattle.session.specs.Lines.{texts, triangle_lines}
use Rattle.session.proofs.Written.{same_line, one_triangle, no_triangle}
use Rattle.session.proofs.lines.write_triangles.Goals as goal
use Rattle.session.proofs.lines.write_triangles.Goals.{then-is_live+in_ok-write_triangle, else-is_live}

pub loop-t-preserved : goal.loop-t-preserved
loop-t-preserved c =
    let S = held c.args.edges.now in
    let t = c.loop-t.t in
    let i : 3 * t / 3 ≡ t = omega arith in
    let live = ap S.alive (sym i) ∙ sym c.is_live.ensures.value in
    elim c.if-is_live.branch [
      | then-is_live+in_ok-write_triangle w ↦
          rw w.out-is
          (one_triangle S (vec_items c.args.out.now) (vec_items c.loop-t.out) t c.loop-t.invariant _ (live ∙ w.if-is_live.true)
          (w.in_ok-write_triangle.ensures.written ∙ ap (λ l. vec_items c.loop-t.out ++ l) (same_line S t _ _ _ w.start.ensures.value w.end.ensures.value w.third.ensures.value)))
      | else-is_live w ↦ rw w.out-is (no_triangle S (vec_items c.args.out.now) (vec_items c.loop-t.out) t c.loop-t.invariant (live ∙ w.if-is_live.false))
    ]

pub returns : goal.returns
returns c =
    let e = c.args.edges.now in
    let i : c.loop-t.t ≡ vec_len e.triangles =
    let t = e.threes in let n = c.half_edge_count-t-end.ensures.value in omega (arith, c.loop-t-test.false, c.loop-t.auto.t-end) in
    record { written = c.loop-t.invariant ∙ ap (λ n. vec_items c.args.out.now ++ texts (triangle_lines (held e) n)) i }
