use Rattle.std.proofs.Common.{◌≡◌, ◌-◌, ◌<◌}
use Rattle.queue.specs.Sound.{SoundButDown}
use Rattle.queue.proofs.heap.Heap.sift_down.Given as goal

abbrev pub invariant-loop-down : goal.invariant-loop-down
invariant-loop-down g l =
    (l.seat < l.self.count)
    × (l.self.keys ≡ l.initial.self.keys)
    × SoundButDown g.C.Ordered l.self l.seat

abbrev pub decreases-loop-down : goal.decreases-loop-down
decreases-loop-down g l = l.self.count - l.seat
