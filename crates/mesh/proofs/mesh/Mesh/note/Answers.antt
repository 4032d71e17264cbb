use Rattle.std.proofs.Common.{◌≡◌, ◌≤◌, [], ◌∷◌, ◌++◌, take, vec_items, vec_len, vec_capacity, arith}
use Rattle.mesh.proofs.Meshes as meshes
use Rattle.mesh.proofs.mesh.Mesh.note.Goals as goal

pub push_reserved-requires : goal.push_reserved-requires
push_reserved-requires c =
    let p = meshes.note_room c.args.self.now c.args.r.u c.args.r.w c.requires.permitted in
    let q = c.truncate.ensures.len in
    let r = c.truncate.ensures.capacity in
    let s = c.args.self.now.placed in
    omega arith

pub invariant_of-self : goal.invariant_of-self
invariant_of-self c =
    let m = c.args.self.now in
    let r = c.args.r in
    let n = c.push_reserved.new.self in
    let is : vec_items n ≡ take m.position (vec_items m.log) ++ r ∷ [] = meshes.cut_is m r (vec_items c.truncate.new.self) (vec_items n) c.truncate.ensures.items c.push_reserved.ensures.items in
    let long : m.position ≤ vec_len n =
    (let p = c.push_reserved.ensures.len in let q = c.truncate.ensures.len in let s = m.placed in omega arith) in
    let roomy : vec_len m.positions ≤ vec_capacity n =
    (let p = c.push_reserved.ensures.capacity in let q = c.truncate.ensures.capacity in let s = m.log_room in omega arith) in
    let ps = meshes.noted_permitted m r c.requires.permitted (vec_items n) is in
    let cs = meshes.noted_corners m r c.requires.permitted (vec_items n) is in
    let ts = meshes.noted_triangles m r c.requires.permitted (vec_items n) is in
    let vs = meshes.noted_vertices m r c.requires.permitted (vec_items n) is in
    let twins = meshes.noted_twins m r c.requires.permitted (vec_items n) is in
    let outs = meshes.noted_outs m r c.requires.permitted (vec_items n) is in
    record { few_vertices = m.few_vertices; few_corners = m.few_corners; corners_long = m.corners_long; vertices_long = m.vertices_long; numbered = m.numbered; placed = long; log_room = roomy; begun = m.begun; permitted = ps; corners_are = cs; triangles_are = ts; vertices_are = vs; twins_dead = twins; out_dead = outs }
