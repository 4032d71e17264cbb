use Rattle.std.proofs.Common.{◌∙◌, inl, inr}
use Rattle.drawing.proofs.Drawings.{all_drawn, too_short}
use Rattle.drawing.proofs.draw.Goals as goal
use Rattle.drawing.proofs.draw.Goals.{then-points-vertex_count-via-then-points-vertex_count, then-points-vertex_count-via-else-points-vertex_count+then-triangles-triangle_count}

pub returns : goal.returns
returns c =
    record {
      drawn =
          all_drawn c.args.mesh.now c.edges-edges.result.now c.edges-edges.ensures.value _ _
          (c.from-vertex_count.ensures ∙ c.count_vertices.ensures.value) (c.from-triangle_count.ensures ∙ c.live_triangles.ensures.value) c.args.points.now c.args.triangles.now
          c.if-points-vertex_count.false c.if-triangles-triangle_count.false _ _ c.write_points.auto.points c.write_triangles.auto.triangles c.write_points.ensures.written c.write_triangles.ensures.written;
    }

pub returns-then-points-vertex_count : goal.returns-then-points-vertex_count
returns-then-points-vertex_count c =
    record {
      drawn =
          too_short c.args.mesh.now c.edges-edges.result.now c.edges-edges.ensures.value _ _
          (c.from-vertex_count.ensures ∙ c.count_vertices.ensures.value) (c.from-triangle_count.ensures ∙ c.live_triangles.ensures.value) c.args.points.now c.args.triangles.now
          (elim c.then-points-vertex_count.branch [
            | then-points-vertex_count-via-then-points-vertex_count w ↦ inl w.if-points-vertex_count.true
            | then-points-vertex_count-via-else-points-vertex_count+then-triangles-triangle_count w ↦ inr w.if-triangles-triangle_count.true
          ]);
    }
