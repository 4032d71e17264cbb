use Rattle.std.proofs.Common.{length, sym, refl, ap, ◌∙◌}
use Rattle.mesh.proofs.Joins as joins
use Rattle.mesh.proofs.halfedges.HalfEdges.join.Goals as goal

pub index-f-requires : goal.index-f-requires
index-f-requires c = joins.e_twin c.args.self.now c.args.e c.requires.live

pub index-u-requires : goal.index-u-requires
index-u-requires c = joins.e_corner c.args.self.now c.args.e c.requires.live

pub index-w-requires : goal.index-w-requires
index-w-requires c = joins.f_corner c.args.self.now c.args.e c.requires.live c.index-f.result.now c.index-f.ensures

pub mend-requires : goal.mend-requires
mend-requires c =
    record {
      beside = joins.beside_at c.args.self.now c.args.e c.requires.live c.index-f.result.now c.index-f.ensures c.deref-2.result.now c.deref-2.ensures.value;
      long = ap length c.deref.ensures.value ∙ sym (joins.twin_long c.args.self.now) ∙ sym (ap length c.deref-2.ensures.value);
      cornered =
          joins.cornered_at c.args.self.now c.args.e c.requires.live c.index-f.result.now c.index-f.ensures
          c.deref.result.now c.deref_mut.result.now c.deref.ensures.value c.deref_mut.ensures.value;
    }

pub turn-requires : goal.turn-requires
turn-requires c =
    record {
      beside = joins.beside_at c.args.self.now c.args.e c.requires.live c.index-f.result.now c.index-f.ensures c.deref-3.result.now c.deref-3.ensures.value;
      ready =
          joins.walkable_at c.args.self.now c.args.e c.requires.live c.index-f.result.now c.index-f.ensures
          c.deref_mut-2.result.now c.deref-3.result.now c.index-w.result.now c.deref_mut-2.ensures.value c.deref-3.ensures.value c.index-w.ensures;
    }

pub cross-requires : goal.cross-requires
cross-requires c =
    record {
      beside =
          joins.beside_at c.args.self.now c.args.e c.requires.live c.index-f.result.now c.index-f.ensures c.deref_mut-3.result.now c.deref_mut-3.ensures.value;
    }

pub mark-requires : goal.mark-requires
mark-requires c =
    record {
      first =
          joins.e_triangle c.args.self.now c.args.e c.requires.live c.index-f.result.now c.index-f.ensures c.deref_mut-4.result.now c.deref_mut-4.ensures.value;
      second =
          joins.f_triangle c.args.self.now c.args.e c.requires.live c.index-f.result.now c.index-f.ensures c.deref_mut-4.result.now c.deref_mut-4.ensures.value;
    }

pub index_mut-requires : goal.index_mut-requires
index_mut-requires c =
    joins.u_low c.args.self.now c.args.e c.requires.live c.index-f.result.now c.index-f.ensures c.index-u.result.now c.index-u.ensures

pub invariant_of-self : goal.invariant_of-self
invariant_of-self c =
    let x = c.args.self.now in
    let H =
    joins.steps x c.args.e c.requires.live c.index-f.result.now c.index-u.result.now c.index-w.result.now
    c.index-f.ensures c.index-u.ensures c.index-w.ensures
    c.deref_mut.result.now c.deref.result.now c.deref-2.result.now c.deref_mut-2.result.now c.deref-3.result.now c.deref_mut-3.result.now c.deref_mut-4.result.now
    c.deref_mut.ensures.value c.deref.ensures.value c.deref-2.ensures.value c.deref_mut-2.ensures.value c.deref-3.ensures.value c.deref_mut-3.ensures.value
    c.deref_mut-4.ensures.value c.mend.new.out c.turn.new.corners c.cross.new.twin c.mark.new.triangles c.mend.ensures.value
    c.turn.ensures.moved c.turn.auto.corners c.cross.ensures.value c.mark.ensures.value in
    let closed = joins.closed_now x c.args.e c.requires.live H c.requires.closed in
    let twins = joins.twins_now x c.args.e c.requires.live H in
    let outs = joins.outs_now x c.args.e c.requires.live H in
    record { few = x.few; threes = x.threes; twin_long = x.twin_long; few_vertices = x.few_vertices; out_long = x.out_long; closed = closed; twins = twins; outs = outs }

pub returns : goal.returns
returns c =
    let x = c.args.self.now in
    let H =
    joins.steps x c.args.e c.requires.live c.index-f.result.now c.index-u.result.now c.index-w.result.now
    c.index-f.ensures c.index-u.ensures c.index-w.ensures
    c.deref_mut.result.now c.deref.result.now c.deref-2.result.now c.deref_mut-2.result.now c.deref-3.result.now c.deref_mut-3.result.now c.deref_mut-4.result.now
    c.deref_mut.ensures.value c.deref.ensures.value c.deref-2.ensures.value c.deref_mut-2.ensures.value c.deref-3.ensures.value c.deref_mut-3.ensures.value
    c.deref_mut-4.ensures.value c.mend.new.out c.turn.new.corners c.cross.new.twin c.mark.new.triangles c.mend.ensures.value
    c.turn.ensures.moved c.turn.auto.corners c.cross.ensures.value c.mark.ensures.value in
    record {
      joined =
          record {
            corners_are = joins.corners_are x c.args.e c.requires.live H;
            triangles_are = joins.triangles_are x c.args.e c.requires.live H;
            vertices_are = joins.vertices_are x c.args.e c.requires.live H;
            twins_kept = joins.twins_kept x c.args.e c.requires.live H;
            outs_kept = joins.outs_kept x c.args.e c.requires.live H;
            out_is = joins.out_is x c.args.e c.requires.live H;
            corners_long = refl;
            vertices_long = refl;
          };
    }
