use Rattle.std.proofs.Common.{◌∙◌}
use Rattle.opened_surface.proofs.Steps.{cleared}
use Rattle.opened_surface.proofs.Ties.{accounted_by}
use Rattle.opened_surface.proofs.thinning.Thinning.clear.Goals as goal

pub returns-clause-ready : goal.returns-clause-ready
returns-clause-ready g c = λ K.
    let laws = g.met.G.Gauge in
    let x = c.args.self.now in (
      cleared g.G.Gauge g.G.Cost.Ordered x.mesh x.gauge x.queue c.drain.new.queue c.drain-2.new.queue x.stale K
          (accounted_by g.G.Gauge g.G.Cost.Ordered laws.opened_long laws.opened_sound laws.merged_sound laws.back x.mesh x.gauge K.account) c.drain.ensures.mended c.drain-2.ensures.mended,
      (c.drain.ensures.long ∙ K.sized.0, c.drain-2.ensures.long ∙ K.sized.1),
    )
