use Rattle.std.proofs.Common.{◌≡◌, suc, ◌≤◌, vec_items, vec_len, ◌∙◌, arith}
use Rattle.mesh.specs.Model.{opening}
use Rattle.mesh.specs.Stages.{stage, record_at}
use Rattle.mesh.proofs.Meshes as meshes
use Rattle.mesh.proofs.mesh.Mesh.split.Goals as goal

pub part-requires : goal.part-requires
part-requires c =
    let m = c.args.self.now in
    let q = c.in_ok-before.before in
    let e = c.in_ok-before.ensures in
    let back : suc q ≡ m.position = omega arith in
    record {
      taken = (
        stage (opening m) (vec_items m.log) q,
        (record_at (vec_items m.log) q).w,
        meshes.taken_at m q back c.index-r.result.now c.index-r.ensures,
      );
    }

pub invariant_of-self : goal.invariant_of-self
invariant_of-self c =
    let m = c.args.self.now in
    let q = c.in_ok-before.before in
    let e = c.in_ok-before.ensures in
    let back : suc q ≡ m.position = omega arith in
    let J = meshes.parted m q back c.index-r.result.now c.index-r.ensures c.part.new.self c.part.ensures.parted in
    let t = meshes.twins_back m q back c.index-r.result.now c.index-r.ensures c.part.new.self c.part.ensures.parted in
    let o = meshes.outs_back m q back c.index-r.result.now c.index-r.ensures c.part.new.self c.part.ensures.parted in
    let long = J.corners_long ∙ m.corners_long in
    let many = J.vertices_long ∙ m.vertices_long in
    let placed : q ≤ vec_len m.log = omega (arith, m.placed) in
    record { few_vertices = m.few_vertices; few_corners = m.few_corners; corners_long = long; vertices_long = many; numbered = m.numbered; placed = placed; log_room = m.log_room; begun = m.begun; permitted = m.permitted; corners_are = J.corners_are; triangles_are = J.triangles_are; vertices_are = J.vertices_are; twins_dead = t; out_dead = o }
