use Rattle.std.proofs.Common.{ℕ, ◌≤◌, vec_items, vec_len, Vec, refl, ap, arith}
use Rattle.std.specs.declared.alloc.Global.{Global}
use Rattle.geometry.specs.declared.Position.{Position}
use Rattle.judging.proofs.Floods.{carried}
use Rattle.mesh.proofs.Openings.{Begun, begun}
use Rattle.mesh.proofs.mesh.opening.open.Goals as goal

pub invariant_of-mesh : goal.invariant_of-mesh
invariant_of-mesh c =
    let g = c.args.gathering in
    let e = c.in-Ok.field-0.edges in
    let l = c.in-Ok.field-0.log in
    let ready = c.in-Ok.ensures.outcome in
    let parts = c.into_parts-positions.ensures in
    let b = carried (λ (p : Vec Position Global) (o : Vec ℕ Global). Begun p o e l) parts.positions parts.corners (begun g e l ready.edges_live ready.log_empty ready.log_room ready.judged.0) in
    let placed : 0 ≤ vec_len l = omega arith in
    record { few_vertices = b.few_vertices; few_corners = b.few_corners; corners_long = b.corners_long; vertices_long = b.vertices_long; numbered = b.numbered; placed = placed; log_room = b.log_room; begun = b.closed; permitted = b.permitted; corners_are = b.corners_are; triangles_are = b.triangles_are; vertices_are = b.vertices_are; twins_dead = b.twins_dead; out_dead = b.out_dead }

pub returns-in-Ok : goal.returns-in-Ok
returns-in-Ok c =
    let ready = c.in-Ok.ensures.outcome in
    let parts = c.into_parts-positions.ensures in
    record {
      outcome =
          record {
            judged = ready.judged;
            positions_are = ap vec_items parts.positions;
            corners_are = ap vec_items parts.corners;
            log_empty = ready.log_empty;
            at_start = refl;
          };
    }
