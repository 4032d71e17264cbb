use Rattle.std.proofs.Common.{not, eqb}
use Rattle.queue.specs.Meaning.{keys_of}
use Rattle.opened_surface.proofs.Drained.{Draining}
use Rattle.opened_surface.proofs.Present.{present}
use Rattle.opened_surface.proofs.draining.drain.Given as goal

abbrev pub invariant-loop-x : goal.invariant-loop-x
invariant-loop-x g l =
    Draining g.G.Gauge l.mesh l.gauge (not (eqb g.row.ONLY_MISSING 0)) (keys_of l.initial.set) (keys_of l.initial.queue) (keys_of l.set) (keys_of l.queue)

abbrev pub decreases-loop-x : goal.decreases-loop-x
decreases-loop-x g l = present (keys_of l.set)
