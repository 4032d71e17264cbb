use Rattle.opened_surface.proofs.Openings.{begun}
use Rattle.opened_surface.proofs.opened.opening.begin.Goals as goal

pub returns : goal.returns
returns g c =
    record {
      begun =
          begun g.G.Gauge g.G.Cost.Ordered g.met.G.Gauge.opened_long c.args.mesh c.args.gauge c.open.new.self c.args.queue c.fill.new.queue c.args.stale
          c.open.ensures.setting c.open.result c.open.ensures.opened c.fill.ensures.keyed c.fill.ensures.long;
    }
