use Rattle.queue.specs.Meaning.{keys_of}
use Rattle.opened_surface.proofs.Ringed.{Ringing}
use Rattle.opened_surface.proofs.stale.marking.mark_ring.Given as goal

abbrev pub invariant-loop-h : goal.invariant-loop-h
invariant-loop-h l = Ringing l.mesh (keys_of l.initial.set) l.yielded (keys_of l.set)
