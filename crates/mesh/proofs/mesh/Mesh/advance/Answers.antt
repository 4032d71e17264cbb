use Rattle.std.proofs.Common.{◌+◌, ◌≤◌, vec_len, ◌∙◌, arith}
use Rattle.mesh.proofs.Meshes as meshes
use Rattle.mesh.proofs.mesh.Mesh.advance.Goals as goal

pub join-requires : goal.join-requires
join-requires c =
    record {
      live = c.requires.live;
      closed = meshes.join_closed c.args.self.now c.args.e c.requires.ahead c.requires.live c.requires.same;
    }

pub invariant_of-self : goal.invariant_of-self
invariant_of-self c =
    let m = c.args.self.now in
    let long = c.join.ensures.joined.corners_long ∙ m.corners_long in
    let many = c.join.ensures.joined.vertices_long ∙ m.vertices_long in
    let placed : m.position + 1 ≤ vec_len m.log = omega (arith, c.requires.ahead) in
    let cs = meshes.corners_next m c.args.e c.requires.ahead c.requires.live c.requires.same c.join.new.self c.join.ensures.joined in
    let ts = meshes.triangles_next m c.args.e c.requires.ahead c.requires.live c.requires.same c.join.new.self c.join.ensures.joined in
    let vs = meshes.vertices_next m c.args.e c.requires.ahead c.requires.live c.requires.same c.join.new.self c.join.ensures.joined in
    let twins = meshes.twins_next m c.args.e c.requires.ahead c.requires.live c.requires.same c.join.new.self c.join.ensures.joined in
    let outs = meshes.outs_next m c.args.e c.requires.ahead c.requires.live c.requires.same c.join.new.self c.join.ensures.joined in
    record { few_vertices = m.few_vertices; few_corners = m.few_corners; corners_long = long; vertices_long = many; numbered = m.numbered; placed = placed; log_room = m.log_room; begun = m.begun; permitted = m.permitted; corners_are = cs; triangles_are = ts; vertices_are = vs; twins_dead = twins; out_dead = outs }
