use Rattle.std.proofs.Common.{◌≡◌, ◌+◌, ◌-◌, ◌∙◌, arith}
use Rattle.std.proofs.lemmas.Grind.{merely}
use Rattle.queue.proofs.Orders.{sound_is}
use Rattle.queue.proofs.Steps.{remove_filled, remove_last_ranked, remove_ranked, seat_present}
use Rattle.queue.proofs.Queue.remove.Goals as goal

pub invariant_of-heap : goal.invariant_of-heap
invariant_of-heap g c =
    let h = c.args.self.now.heap in
    let n = c.args.number in
    let a = c.seat-seat.result in
    let found = c.seat-seat.ensures in
    let present = seat_present h n a found c.requires.present in
    let e : h.count ≡ h.count - 1 + 1 = omega (arith, present) in
    record { even = c.exchange.ensures.len ∙ h.even; counted = omega (arith, h.counted); filled = remove_filled h n a found (h.count - 1) e c.exchange.new.self c.exchange.ensures c.requires.within present }

pub settle-requires-clause-rest : goal.settle-requires-clause-rest
settle-requires-clause-rest g c =
    let q = c.args.self.now in
    let h = q.heap in
    let n = c.args.number in
    let a = c.seat-seat.result in
    let found = c.seat-seat.ensures in
    let e : h.count ≡ h.count - 1 + 1 = omega (arith, seat_present h n a found c.requires.present) in
    let o = g.C.Ordered in
    let laws = g.met.C.Ordered in
    remove_ranked o laws.total laws.transitive h n a found (sound_is o laws.total laws.transitive laws.told h q.sound) (h.count - 1) e c.exchange.new.self c.exchange.ensures c.if-seat-last.true

pub invariant_of-self-else-seat-last : goal.invariant_of-self-else-seat-last
invariant_of-self-else-seat-last g c =
    let q = c.args.self.now in
    let h = q.heap in
    let n = c.args.number in
    let a = c.seat-seat.result in
    let found = c.seat-seat.ensures in
    let e : h.count ≡ h.count - 1 + 1 = omega (arith, seat_present h n a found c.requires.present) in
    let o = g.C.Ordered in
    let laws = g.met.C.Ordered in
    record { sound = merely (record { ranked = remove_last_ranked o laws.total laws.transitive h n a found (sound_is o laws.total laws.transitive laws.told h q.sound) (h.count - 1) e c.exchange.new.self c.exchange.ensures c.if-seat-last.false }) }
