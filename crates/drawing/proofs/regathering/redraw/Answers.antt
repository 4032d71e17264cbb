use Rattle.std.proofs.Common.{subst, ◌∙◌, arith}
use Rattle.std.proofs.lemmas.List.{with_items_is}
use Rattle.drawing.specs.Drawn.{Draws}
use Rattle.drawing.proofs.Redrawn.{made_long, just_drawn, all_back}
use Rattle.drawing.proofs.regathering.redraw.Goals as goal

pub unwrap-requires : goal.unwrap-requires
unwrap-requires c =
    let p = made_long c.in_ok-points.points _ _ c.deref_mut.ensures.value c.in_ok-points.ensures.len in
    let q = made_long c.in_ok-triangles.triangles _ _ c.deref_mut-2.ensures.value c.in_ok-triangles.ensures.len in
    just_drawn c.args.mesh.now c.edges-edges.result.now c.edges-edges.ensures.value _ _
    (c.from-vertex_count.ensures ∙ c.count_vertices.ensures.value) (c.from-triangle_count.ensures ∙ c.live_triangles.ensures.value)
    c.deref_mut.result.now c.deref_mut-2.result.now p q c.draw.result c.draw.new.points c.draw.new.triangles c.draw.ensures.drawn

pub returns : goal.returns
returns c =
    let p = made_long c.in_ok-points.points _ _ c.deref_mut.ensures.value c.in_ok-points.ensures.len in
    let q = made_long c.in_ok-triangles.triangles _ _ c.deref_mut-2.ensures.value c.in_ok-triangles.ensures.len in
    let f = with_items_is c.in_ok-points.points c.draw.new.points (omega (arith, p, c.draw.auto.points, c.in_ok-points.ensures.len)) in
    let g = with_items_is c.in_ok-triangles.triangles c.draw.new.triangles (omega (arith, q, c.draw.auto.triangles, c.in_ok-triangles.ensures.len)) in
    let d = subst (λ r. Draws c.args.mesh.now c.deref_mut.result.now c.deref_mut-2.result.now r c.draw.new.points c.draw.new.triangles) c.unwrap.ensures c.draw.ensures.drawn in
    record {
      outcome =
          all_back c.args.mesh.now c.edges-edges.result.now c.edges-edges.ensures.value _ _
          (c.from-vertex_count.ensures ∙ c.count_vertices.ensures.value) (c.from-triangle_count.ensures ∙ c.live_triangles.ensures.value)
          c.deref_mut.result.now c.deref_mut-2.result.now p q _ _ c.draw.new.points c.draw.new.triangles d
          c.deref.result.now c.deref-2.result.now (c.deref.ensures.value ∙ f) (c.deref-2.ensures.value ∙ g) c.regather.result c.regather.ensures.outcome;
    }
