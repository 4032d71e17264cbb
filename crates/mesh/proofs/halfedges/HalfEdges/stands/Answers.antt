use Rattle.std.proofs.Common.{◌<◌, vec_len, sym, ◌∙◌, arith}
use Rattle.surface.specs.Surface.{next, prev}
use Rattle.surface.proofs.Tris.{spin, spin2, tri_at}
use Rattle.gathering.specs.Model.{point_of}
use Rattle.mesh.specs.Model.{held}
use Rattle.mesh.proofs.Round.{corner_within}
use Rattle.mesh.proofs.FoldTest.{stands_told}
use Rattle.mesh.proofs.halfedges.HalfEdges.stands.Goals as goal

pub bounds-positions-from : goal.bounds-positions-from
bounds-positions-from c =
    let e = c.args.self.now in
    let p : (held e).corner (next c.args.h) < vec_len e.vertices = corner_within e (spin (tri_at (held e) c.args.h c.requires.live)) in
    omega arith

pub bounds-positions-from-2 : goal.bounds-positions-from-2
bounds-positions-from-2 c =
    let e = c.args.self.now in
    let p : (held e).corner (prev c.args.h) < vec_len e.vertices = corner_within e (spin2 (tri_at (held e) c.args.h c.requires.live)) in
    omega arith

pub bounds-positions-from-3 : goal.bounds-positions-from-3
bounds-positions-from-3 c =
    let e = c.args.self.now in
    let p : (held e).corner c.args.h < vec_len e.vertices = corner_within e (tri_at (held e) c.args.h c.requires.live) in
    omega arith

pub returns : goal.returns
returns c =
    let i = c.from-3.ensures ∙ c.start-a.ensures.value in
    let j = c.from.ensures ∙ c.end-b.ensures.value in
    let k = c.from-2.ensures ∙ c.third-c.ensures.value in
    record {
      stands =
          stands_told (held c.args.self.now) (point_of c.args.positions.now) c.args.h i j k c.from-4.ensures (λ e. c.if-b-w.false (sym c.from.ensures ∙ e)) (λ e. c.if-c-w.false (sym c.from-2.ensures ∙ e))
          c.fold_free.result c.fold_free.ensures.above;
    }
