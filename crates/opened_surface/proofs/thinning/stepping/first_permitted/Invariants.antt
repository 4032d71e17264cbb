use Rattle.queue.specs.Meaning.{keys_of}
use Rattle.opened_surface.specs.Found.{Ready}
use Rattle.opened_surface.proofs.Present.{present}
use Rattle.opened_surface.proofs.thinning.stepping.first_permitted.Given as goal

abbrev pub invariant-loop-h : goal.invariant-loop-h
invariant-loop-h g l = (gauge : g.row.G.Denot) → Ready g.G.Gauge g.G.Cost.Ordered l.mesh gauge l.initial.queue → Ready g.G.Gauge g.G.Cost.Ordered l.mesh gauge l.queue

abbrev pub decreases-loop-h : goal.decreases-loop-h
decreases-loop-h g l = present (keys_of l.queue)
