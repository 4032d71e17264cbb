use Rattle.opened_surface.proofs.Ties.{join_tied}
use Rattle.opened_surface.proofs.thinning.Thinning.join.Goals as goal

pub returns-clause-tied : goal.returns-clause-tied
returns-clause-tied g c = λ a J V K.
    let laws = g.met.G.Gauge in
    let x = c.args.self.now in
    join_tied g.G.Gauge g.G.Cost.Ordered laws.opened_long laws.opened_sound laws.merged_sound laws.back g.G.TellingGauge.blind g.met.G.TellingGauge.unseen
    a x.mesh x.gauge c.merge.new.self x.queue c.mend_triangle.new.queue c.mend_triangle-2.new.queue x.stale
    c.args.u c.args.w c.args.e c.args.f J V K c.merge.ensures.setting c.merge.result c.merge.ensures.merged
    c.mend_triangle.ensures.mended c.mend_triangle-2.ensures.mended
