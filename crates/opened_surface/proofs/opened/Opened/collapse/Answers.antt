use Rattle.std.proofs.Common.{refl}
use Rattle.ledger.specs.declared.call.Call.TheVariants.{Collapse}
use Rattle.ledger.proofs.Chosen.{step_in_words}
use Rattle.opened_surface.specs.Calls.{collapse_answer}
use Rattle.opened_surface.proofs.Promises.{all_of, called, judged_on}
use Rattle.opened_surface.proofs.Unchanged.{refused_same}
use Rattle.opened_surface.proofs.opened.Opened.collapse.Goals as goal

pub invariant_of-self : goal.invariant_of-self
invariant_of-self g c =
    let x = c.args.self.now in
    let F = c.collapse.ensures.follows x.tied in
    record { tied = F.tied; judged = judged_on g.G.Gauge g.G.Cost.Ordered x.thinning c.collapse.new.self x.counts (all_of F) x.judged }

pub returns : goal.returns
returns g c =
    let x = c.args.self.now in
    let o = g.met.G.Cost.Ordered in
    let words = step_in_words g.G.Gauge g.G.Cost.Ordered o.total o.transitive o.told in
    record {
      called = called g.G.Gauge g.G.Cost.Ordered words x _ (Collapse c.args.u c.args.w) (collapse_answer c.collapse.result) (c.collapse.ensures.follows x.tied);
      refused = refused_same x _ refl c.collapse.result c.collapse.ensures.unchanged;
    }
