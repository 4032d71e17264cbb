use Rattle.std.proofs.Common.{refl}
use Rattle.mesh.proofs.Parts as parts
use Rattle.mesh.proofs.halfedges.HalfEdges.part.Goals as goal

pub index-e-requires : goal.index-e-requires
index-e-requires c =
    let (S, w, H) = c.requires.taken in
    parts.u_out c.args.self.now S c.args.u w H

pub index-f-requires : goal.index-f-requires
index-f-requires c =
    let (S, w, H) = c.requires.taken in
    parts.e_twin c.args.self.now S c.args.u w H c.index-e.result.now c.index-e.ensures

pub index-w-requires : goal.index-w-requires
index-w-requires c =
    let (S, w, H) = c.requires.taken in
    parts.f_corner c.args.self.now S c.args.u w H c.index-e.result.now c.index-e.ensures c.index-f.result.now c.index-f.ensures

pub turn-requires : goal.turn-requires
turn-requires c =
    let (S, w, H) = c.requires.taken in
    record {
      beside = parts.beside_at c.args.self.now S c.args.u w H c.index-e.result.now c.index-e.ensures c.index-f.result.now c.index-f.ensures c.deref.result.now c.deref.ensures.value;
      ready =
          parts.walkable_at c.args.self.now S c.args.u w H c.index-e.result.now c.index-e.ensures c.index-f.result.now c.index-f.ensures
          c.deref_mut.result.now c.deref.result.now c.deref_mut.ensures.value c.deref.ensures.value;
    }

pub uncross-requires : goal.uncross-requires
uncross-requires c =
    let (S, w, H) = c.requires.taken in
    record {
      beside = parts.beside_at c.args.self.now S c.args.u w H c.index-e.result.now c.index-e.ensures c.index-f.result.now c.index-f.ensures c.deref_mut-2.result.now c.deref_mut-2.ensures.value;
    }

pub mark-requires : goal.mark-requires
mark-requires c =
    let (S, w, H) = c.requires.taken in
    record {
      first = parts.e_triangle c.args.self.now S c.args.u w H c.index-e.result.now c.index-e.ensures c.index-f.result.now c.index-f.ensures c.deref_mut-3.result.now c.deref_mut-3.ensures.value;
      second = parts.f_triangle c.args.self.now S c.args.u w H c.index-e.result.now c.index-e.ensures c.index-f.result.now c.index-f.ensures c.deref_mut-3.result.now c.deref_mut-3.ensures.value;
    }

pub index_mut-requires : goal.index_mut-requires
index_mut-requires c =
    let (S, w, H) = c.requires.taken in
    parts.u_vertex c.args.self.now S c.args.u w H

pub index_mut-requires-2 : goal.index_mut-requires-2
index_mut-requires-2 c =
    let (S, w, H) = c.requires.taken in
    parts.v_out c.args.self.now S c.args.u w H c.index-e.result.now c.index-e.ensures c.index-f.result.now c.index-f.ensures c.index-w.result.now c.index-w.ensures

pub invariant_of-self : goal.invariant_of-self
invariant_of-self c =
    let (S, w, H) = c.requires.taken in
    let x = c.args.self.now in
    let G =
    parts.steps x c.args.u c.index-e.result.now c.index-f.result.now c.index-w.result.now c.index-e.ensures c.index-f.ensures c.index-w.ensures
    c.deref_mut.result.now c.deref.result.now c.deref_mut-2.result.now c.deref_mut-3.result.now
    c.deref_mut.ensures.value c.deref.ensures.value c.deref_mut-2.ensures.value c.deref_mut-3.ensures.value
    c.turn.new.corners c.uncross.new.twin c.mark.new.triangles
    c.turn.ensures.moved c.turn.auto.corners c.uncross.ensures.value c.mark.ensures.value in
    let closed = parts.closed_now c.args.self.now S c.args.u w H G in
    let twins = parts.twins_now c.args.self.now S c.args.u w H G in
    let outs = parts.outs_now c.args.self.now S c.args.u w H G in
    record { few = x.few; threes = x.threes; twin_long = x.twin_long; few_vertices = x.few_vertices; out_long = x.out_long; closed = closed; twins = twins; outs = outs }

pub returns : goal.returns
returns c =
    let x = c.args.self.now in
    let G =
    parts.steps x c.args.u c.index-e.result.now c.index-f.result.now c.index-w.result.now c.index-e.ensures c.index-f.ensures c.index-w.ensures
    c.deref_mut.result.now c.deref.result.now c.deref_mut-2.result.now c.deref_mut-3.result.now
    c.deref_mut.ensures.value c.deref.ensures.value c.deref_mut-2.ensures.value c.deref_mut-3.ensures.value
    c.turn.new.corners c.uncross.new.twin c.mark.new.triangles
    c.turn.ensures.moved c.turn.auto.corners c.uncross.ensures.value c.mark.ensures.value in
    record {
      parted = λ S w H.
          record {
            corners_are = parts.corners_are c.args.self.now S c.args.u w H G;
            triangles_are = parts.triangles_are c.args.self.now S c.args.u w H G;
            vertices_are = parts.vertices_are c.args.self.now S c.args.u w H G;
            twins_kept = parts.twins_kept c.args.self.now S c.args.u w H G;
            outs_kept = parts.outs_kept c.args.self.now S c.args.u w H G;
            corners_long = refl;
            vertices_long = refl;
          };
    }
