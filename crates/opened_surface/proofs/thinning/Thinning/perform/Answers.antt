use Rattle.std.proofs.Common.{refl}
use Rattle.std.proofs.lemmas.Result.{err_from_is_err_and}
use Rattle.std.proofs.lemmas.Option.{MatchOption-at_some}
use Rattle.mesh.specs.declared.mesh.permits.CollapseRefusal.TheVariants.{NoSide}
use Rattle.opened_surface.proofs.Ties.{accounted_by, tied_grown}
use Rattle.opened_surface.proofs.Outcomes.{unpriced, no_cost, tied_same, refused_follows, collapsed_follows}
use Rattle.opened_surface.proofs.thinning.Thinning.perform.Goals as goal

pub returns-in_err-cost-clause-follows : goal.returns-in_err-cost-clause-follows
returns-in_err-cost-clause-follows g c =
    let laws = g.met.G.Gauge in
    let x = c.args.self.now in
    let p = err_from_is_err_and c.from_residual.result c.from_residual.ensures.1 in
    let (none, why) = no_cost c.cost.result c.in_err-cost.field-0.0 _ c.in_err-cost.ensures.value c.cost.ensures.priced in
    rw (p.1, p.2, why)
    (λ K. refused_follows g.G.Gauge g.G.Cost.Ordered x c.args.u c.args.w NoSide x
    (unpriced g.G.Gauge x.mesh x.gauge c.args.u c.args.w (accounted_by g.G.Gauge g.G.Cost.Ordered laws.opened_long laws.opened_sound laws.merged_sound laws.back x.mesh x.gauge K.account) none) refl refl K)

pub returns-in_err-collapse-clause-follows : goal.returns-in_err-collapse-clause-follows
returns-in_err-collapse-clause-follows g c =
    let x = c.args.self.now in
    let p = err_from_is_err_and c.from_residual-in_err-collapse.result c.from_residual-in_err-collapse.ensures.1 in
    let refused = c.in_err-collapse.ensures.outcome in
    rw (p.1, p.2)
    (λ K. refused_follows g.G.Gauge g.G.Cost.Ordered x c.args.u c.args.w c.in_err-collapse.field-0.0 _ refused.0 refused.1 refl
    (tied_same g.G.Gauge g.G.Cost.Ordered _ _ refused.1 (tied_grown g.G.Gauge g.G.Cost.Ordered x c.mark_around.new.stale c.mark_around.ensures.grown K)))

pub returns-clause-follows : goal.returns-clause-follows
returns-clause-follows g c = λ K.
    let x = c.args.self.now in
    let y = c.join.new.self in
    let u = c.args.u in
    let w = c.args.w in
    let A = MatchOption-at_some _ _ (c.in_ok-e.e, c.in_ok-e.f) c.in_ok-e.ensures.ok_part c.astride.ensures.astride in
    let price = (MatchOption-at_some _ _ c.in_ok-cost.cost c.in_ok-cost.ensures.ok_part c.cost.ensures.priced).3 in
    collapsed_follows g.G.Gauge g.G.Cost.Ordered x y c.join.ensures.fixed c.collapse.new.self c.join.ensures.mesh K.account u w c.in_ok-e.e c.in_ok-e.f c.in_ok-cost.cost A c.in_ok-collapse.ensures.outcome price
    (λ J. c.join.ensures.tied x.mesh J (c.mark_around.ensures.covered K.sized (_, A.there.0, A.there.1)) (tied_grown g.G.Gauge g.G.Cost.Ordered x c.mark_around.new.stale c.mark_around.ensures.grown K))
