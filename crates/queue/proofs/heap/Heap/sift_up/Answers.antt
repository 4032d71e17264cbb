use Rattle.std.proofs.Common.{◌∙◌, arith}
use Rattle.queue.proofs.Queues.{rises}
use Rattle.queue.proofs.heap.Heap.sift_up.Goals as goal

pub loop-up-preserved : goal.loop-up-preserved
loop-up-preserved g c =
    let laws = g.met.C.Ordered in
    let found = c.in-Some.ensures in
    let after = c.exchange.ensures in
    let inv = c.loop-up.invariant in (
      omega (arith, found.0, found.1, after.count, inv.0),
      after.keys ∙ inv.1,
      rises g.C.Ordered laws.total laws.transitive c.loop-up.self c.exchange.new.self c.loop-up.seat c.in-Some.up found.1 found.0 inv.0 found.2 after.exchanged after.count inv.2,
    )
