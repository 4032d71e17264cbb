use Rattle.std.proofs.Common.{◌≡◌, ◌<◌}
use Rattle.queue.specs.Sound.{SoundButUp}
use Rattle.queue.proofs.heap.Heap.sift_up.Given as goal

abbrev pub invariant-loop-up : goal.invariant-loop-up
invariant-loop-up g l =
    (l.seat < l.self.count)
    × (l.self.keys ≡ l.initial.self.keys)
    × SoundButUp g.C.Ordered l.self l.seat

abbrev pub decreases-loop-up : goal.decreases-loop-up
decreases-loop-up g l = l.seat
