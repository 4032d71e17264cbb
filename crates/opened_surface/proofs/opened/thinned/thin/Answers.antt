use Rattle.std.proofs.Common.{vec_items}
use Rattle.ledger.proofs.Chosen.{step_in_words}
use Rattle.opened_surface.proofs.Promises.{judged_on, ran}
use Rattle.opened_surface.proofs.Thinned.{from_gathered}
use Rattle.opened_surface.proofs.opened.thinned.thin.Goals as goal

pub invariant_of-opened : goal.invariant_of-opened
invariant_of-opened g c =
    let x = c.in_ok-opened.opened in
    let F = c.run.ensures.follows x.tied in
    record { tied = F.tied; judged = judged_on g.G.Gauge g.G.Cost.Ordered x.thinning c.run.new.self x.counts F x.judged }

pub returns : goal.returns
returns g c =
    let o = g.met.G.Cost.Ordered in
    let words = step_in_words g.G.Gauge g.G.Cost.Ordered o.total o.transitive o.told in
    let x = c.in_ok-opened.opened in
    let W = c.in_ok-opened.ensures.outcome in
    let answers = vec_items c.run.new.answers in
    let R = ran g.G.Gauge g.G.Cost.Ordered words x _ c.args.calls.now answers (c.run.ensures.follows x.tied) in
    record {
      outcome = record {
        judged = W.judged;
        taken = W.taken;
        promise = from_gathered g.G.Gauge g.G.Cost.Ordered c.args.gathering c.args.gauge x _ c.args.calls.now answers W R;
        consistent = R.consistent;
      };
    }
