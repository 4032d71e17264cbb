use Rattle.std.proofs.Common.{Some}
use Rattle.queue.proofs.Orders.{sound_is}
use Rattle.queue.proofs.Steps.{change_ranked, seat_present}
use Rattle.queue.proofs.Queue.change.Goals as goal

pub settle-requires-clause-rest : goal.settle-requires-clause-rest
settle-requires-clause-rest g c =
    let q = c.args.self.now in
    let h = q.heap in
    let n = c.args.number in
    let a = c.seat-seat.result in
    let found = c.seat-seat.ensures in
    let o = g.C.Ordered in
    let laws = g.met.C.Ordered in
    change_ranked o laws.total laws.transitive h n a found (sound_is o laws.total laws.transitive laws.told h q.sound) (Some c.args.key) (seat_present h n a found c.requires.present)
