use Rattle.opened_surface.proofs.Readings.{counted_now}
use Rattle.opened_surface.proofs.opened.Opened.counts.Goals as goal

pub returns : goal.returns
returns g c =
    record {
      counted =
          counted_now g.G.Gauge g.G.Cost.Ordered c.args.self.now c.edges-edges.result.now c.edges-edges.ensures.value c.count_vertices.result c.live_triangles.result
          c.count_vertices.ensures.value c.live_triangles.ensures.value;
    }
