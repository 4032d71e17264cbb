use Rattle.std.proofs.Common.{◌<◌, vec_len, arith}
use Rattle.surface.specs.Surface.{next, prev}
use Rattle.surface.proofs.Tris.{spin, spin2, tri_at}
use Rattle.mesh.specs.Model.{held}
use Rattle.mesh.proofs.Round.{corner_within}
use Rattle.sweep.proofs.walk.share.Goals as goal

pub bounds-positions-from : goal.bounds-positions-from
bounds-positions-from c =
    let e = c.args.edges.now in
    let p : (held e).corner c.args.h < vec_len e.vertices = corner_within e (tri_at (held e) c.args.h c.requires.live) in
    omega arith

pub bounds-positions-from-2 : goal.bounds-positions-from-2
bounds-positions-from-2 c =
    let e = c.args.edges.now in
    let p : (held e).corner (next c.args.h) < vec_len e.vertices = corner_within e (spin (tri_at (held e) c.args.h c.requires.live)) in
    omega arith

pub bounds-positions-from-3 : goal.bounds-positions-from-3
bounds-positions-from-3 c =
    let e = c.args.edges.now in
    let p : (held e).corner (prev c.args.h) < vec_len e.vertices = corner_within e (spin2 (tri_at (held e) c.args.h c.requires.live)) in
    omega arith
