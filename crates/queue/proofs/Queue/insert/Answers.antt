use Rattle.std.proofs.Common.{Some, ◌∙◌, arith}
use Rattle.queue.proofs.Orders.{sound_is}
use Rattle.queue.proofs.Steps.{insert_filled, insert_ranked, seat_absent}
use Rattle.queue.proofs.Queue.insert.Goals as goal

pub invariant_of-heap : goal.invariant_of-heap
invariant_of-heap g c =
    let h = c.args.self.now.heap in
    let n = c.args.number in
    let a = c.seat-seat.result in
    let found = c.seat-seat.ensures in
    let le = seat_absent h n a found c.requires.absent in
    record { even = c.exchange.ensures.len ∙ h.even; counted = omega (arith, le, found.bound, h.even); filled = insert_filled h n a found c.exchange.new.self c.exchange.ensures c.args.key c.requires.within le }

pub settle-requires-clause-rest : goal.settle-requires-clause-rest
settle-requires-clause-rest g c =
    let q = c.args.self.now in
    let h = q.heap in
    let n = c.args.number in
    let a = c.seat-seat.result in
    let found = c.seat-seat.ensures in
    let o = g.C.Ordered in
    let laws = g.met.C.Ordered in
    insert_ranked o laws.total laws.transitive h n a found (sound_is o laws.total laws.transitive laws.told h q.sound) c.exchange.new.self c.exchange.ensures (Some c.args.key) (seat_absent h n a found c.requires.absent)
