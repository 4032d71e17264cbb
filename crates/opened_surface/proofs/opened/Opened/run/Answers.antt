use Rattle.std.proofs.Common.{vec_items}
use Rattle.ledger.proofs.Chosen.{step_in_words}
use Rattle.opened_surface.proofs.Promises.{judged_on, ran}
use Rattle.opened_surface.proofs.opened.Opened.run.Goals as goal

pub invariant_of-self : goal.invariant_of-self
invariant_of-self g c =
    let x = c.args.self.now in
    let F = c.run.ensures.follows x.tied in
    record { tied = F.tied; judged = judged_on g.G.Gauge g.G.Cost.Ordered x.thinning c.run.new.self x.counts F x.judged }

pub returns : goal.returns
returns g c =
    let o = g.met.G.Cost.Ordered in
    let words = step_in_words g.G.Gauge g.G.Cost.Ordered o.total o.transitive o.told in
    record { ran = ran g.G.Gauge g.G.Cost.Ordered words c.args.self.now _ c.args.calls.now (vec_items c.run.new.answers) (c.run.ensures.follows c.args.self.now.tied) }
