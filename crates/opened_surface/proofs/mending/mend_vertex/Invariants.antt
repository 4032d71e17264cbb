use Rattle.std.proofs.Common.{not, eqb}
use Rattle.mesh.specs.Model.{surface}
use Rattle.queue.specs.Meaning.{keys_of}
use Rattle.opened_surface.specs.Mending.{Accounted, Fit}
use Rattle.opened_surface.proofs.Walked.{Step, Paired}
use Rattle.opened_surface.proofs.mending.mend_vertex.Given as goal

abbrev pub invariant-loop-h : goal.invariant-loop-h
invariant-loop-h g l =
    Step g.G.Gauge l.mesh l.gauge (Accounted g.G.Gauge l.mesh l.gauge × Fit g.G.Gauge l.mesh l.gauge (not (eqb g.row.ONLY_MISSING 0)) (keys_of l.initial.queue)) (Paired (surface l.mesh) l.yielded) (keys_of l.initial.queue) (keys_of l.queue)
