use Rattle.std.proofs.Common.{refl}
use Rattle.opened_surface.proofs.Ties.{part_tied}
use Rattle.opened_surface.proofs.Outcomes.{tied_same, undone_follows, split_follows}
use Rattle.opened_surface.proofs.thinning.Thinning.split.Goals as goal

pub returns-in_err-last-clause-follows : goal.returns-in_err-last-clause-follows
returns-in_err-last-clause-follows g c =
    let x = c.args.self.now in
    let none = c.in_err-last.ensures.outcome in
    rw c.from_residual.ensures (λ K. undone_follows g.G.Gauge g.G.Cost.Ordered x _ none.0 none.1 refl (tied_same g.G.Gauge g.G.Cost.Ordered x _ none.1 K))

pub returns-clause-follows : goal.returns-clause-follows
returns-clause-follows g c = λ K.
    let laws = g.met.G.Gauge in
    let x = c.args.self.now in
    let r = c.in_ok-last.last in
    split_follows g.G.Gauge g.G.Cost.Ordered x _ c.part.ensures.setting c.split.new.self refl r c.position.result c.in_ok-last.ensures.outcome c.position.ensures.value
    (λ e f J.
    part_tied g.G.Gauge g.G.Cost.Ordered laws.opened_long laws.opened_sound laws.merged_sound laws.back g.G.TellingGauge.blind g.met.G.TellingGauge.unseen
    c.split.new.self x.mesh c.part.new.self x.gauge x.queue x.stale c.mark_around.new.stale
    r.u r.w e f J c.mark_around.ensures.grown K c.part.ensures.setting c.part.result c.part.ensures.parted c.mark_around.ensures.covered)
