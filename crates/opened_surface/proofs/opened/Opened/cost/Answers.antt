use Rattle.opened_surface.proofs.Readings.{cost_now_lem}
use Rattle.opened_surface.proofs.opened.Opened.cost.Goals as goal

pub returns : goal.returns
returns g c =
    let laws = g.met.G.Gauge in
    record {
      cost = cost_now_lem g.G.Gauge g.G.Cost.Ordered c.args.self.now laws.opened_long laws.opened_sound laws.merged_sound laws.back c.args.u c.args.w c.cost.result c.cost.ensures.priced;
    }
