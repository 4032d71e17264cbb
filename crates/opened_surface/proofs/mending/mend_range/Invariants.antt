use Rattle.std.proofs.Common.{◌<◌, ◌≤◌}
use Rattle.queue.specs.Meaning.{keys_of}
use Rattle.opened_surface.specs.Mending.{Accounted}
use Rattle.opened_surface.proofs.Walked.{Step}
use Rattle.opened_surface.proofs.mending.mend_range.Given as goal

abbrev pub invariant-loop-h : goal.invariant-loop-h
invariant-loop-h g l =
    Step g.G.Gauge l.mesh l.gauge (Accounted g.G.Gauge l.mesh l.gauge) (λ k. (l.first ≤ k) × (k < l.h)) (keys_of l.initial.queue) (keys_of l.queue)
