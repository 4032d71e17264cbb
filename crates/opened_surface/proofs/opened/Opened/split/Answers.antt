use Rattle.std.proofs.Common.{refl}
use Rattle.ledger.specs.declared.call.Call.TheVariants.{Split}
use Rattle.ledger.proofs.Chosen.{step_in_words}
use Rattle.opened_surface.specs.Calls.{split_answer}
use Rattle.opened_surface.proofs.Promises.{all_of, called, judged_on}
use Rattle.opened_surface.proofs.Unchanged.{none_same}
use Rattle.opened_surface.proofs.opened.Opened.split.Goals as goal

pub invariant_of-self : goal.invariant_of-self
invariant_of-self g c =
    let x = c.args.self.now in
    let F = c.split.ensures.follows x.tied in
    record { tied = F.tied; judged = judged_on g.G.Gauge g.G.Cost.Ordered x.thinning c.split.new.self x.counts (all_of F) x.judged }

pub returns : goal.returns
returns g c =
    let x = c.args.self.now in
    let o = g.met.G.Cost.Ordered in
    let words = step_in_words g.G.Gauge g.G.Cost.Ordered o.total o.transitive o.told in
    record {
      called = called g.G.Gauge g.G.Cost.Ordered words x _ Split (split_answer c.split.result) (c.split.ensures.follows x.tied);
      refused = none_same x _ refl c.split.result c.split.ensures.unchanged;
    }
