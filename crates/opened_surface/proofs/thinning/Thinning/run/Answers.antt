use Rattle.std.proofs.Common.{vec_items, subst, take_all, rules}
use Rattle.std.proofs.lemmas.List.{get_or_default}
use Rattle.opened_surface.specs.Tied.{FollowsAll}
use Rattle.opened_surface.proofs.Runs.{ran_none, ran_more}
use Rattle.opened_surface.proofs.thinning.Thinning.run.Goals as goal

pub loop-call-init : goal.loop-call-init
loop-call-init g c = (λ K. ran_none g.G.Gauge g.G.Cost.Ordered c.args.self.now K (vec_items c.args.answers.now) c.requires.empty, search rules, search rules)

pub loop-call-preserved : goal.loop-call-preserved
loop-call-preserved g c = (
  λ K.
      ran_more g.G.Gauge g.G.Cost.Ordered c.args.self.now c.args.calls.now c.loop-call.call-index _ _ _ _ c.loop-call.self c.make.new.self
      (c.loop-call.invariant.0 K) c.make.ensures.follows c.push_reserved.ensures.items c.loop-call-test.true
      (get_or_default c.args.calls.now c.loop-call.call-index _ _ c.loop-call-test.true),
  search rules,
  search rules,
)

pub returns : goal.returns
returns g c =
    record {
      follows = λ K.
          subst (λ l. FollowsAll g.G.Gauge g.G.Cost.Ordered c.args.self.now l (vec_items c.loop-call.answers) c.loop-call.self)
          (take_all c.loop-call.call-index c.args.calls.now c.loop-call-test.false) (c.loop-call.invariant.0 K);
    }
