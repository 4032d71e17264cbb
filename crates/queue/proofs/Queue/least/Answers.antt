use Rattle.queue.proofs.Orders.{sound_is}
use Rattle.queue.proofs.Steps.{first_leads, none_held}
use Rattle.queue.proofs.Queue.least.Goals as goal

pub returns-then-self-eq0 : goal.returns-then-self-eq0
returns-then-self-eq0 g c = record { held = none_held c.args.self.now.heap c.if-self-eq0.true; least = tt }

pub returns : goal.returns
returns g c =
    let o = g.C.Ordered in
    let laws = g.met.C.Ordered in
    let q = c.args.self.now in
    record { held = c.holder.ensures.held; least = record { not_after = first_leads o laws.total laws.transitive q.heap _ c.holder.ensures.key (sound_is o laws.total laws.transitive laws.told q.heap q.sound) } }
