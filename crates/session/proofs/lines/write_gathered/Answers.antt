use Rattle.std.proofs.Common.{vec_items}
use Rattle.session.proofs.Written.{more_gathered}
use Rattle.session.proofs.lines.write_gathered.Goals as goal

pub loop-t-preserved : goal.loop-t-preserved
loop-t-preserved c = more_gathered (vec_items c.args.out.now) (vec_items c.loop-t.out) _ c.args.corners.now c.loop-t.t c.loop-t.invariant c.in_ok-write_triangle.ensures.written
