use Rattle.std.proofs.Common.{arith}
use Rattle.queue.specs.Meaning.{keys_of}
use Rattle.opened_surface.specs.Mending.{Accounted}
use Rattle.opened_surface.proofs.Walked.{none, one, both, weaker}
use Rattle.opened_surface.proofs.Ranges.{none_before, one_further}
use Rattle.opened_surface.proofs.mending.mend_range.Goals as goal

pub loop-h-init : goal.loop-h-init
loop-h-init g c = weaker g.G.Gauge c.args.mesh.now c.args.gauge.now (Accounted g.G.Gauge c.args.mesh.now c.args.gauge.now) (none_before c.args.first) (none g.G.Gauge c.args.mesh.now c.args.gauge.now (Accounted g.G.Gauge c.args.mesh.now c.args.gauge.now) (keys_of c.args.queue.now))

pub loop-h-preserved : goal.loop-h-preserved
loop-h-preserved g c =
    weaker g.G.Gauge c.args.mesh.now c.args.gauge.now (Accounted g.G.Gauge c.args.mesh.now c.args.gauge.now) (one_further c.args.first c.loop-h.h)
    (both g.G.Gauge c.args.mesh.now c.args.gauge.now (Accounted g.G.Gauge c.args.mesh.now c.args.gauge.now) c.loop-h.invariant (one g.G.Gauge c.args.mesh.now c.args.gauge.now (Accounted g.G.Gauge c.args.mesh.now c.args.gauge.now) (λ A. c.refresh.ensures.refreshed tt) (λ A. A)))

pub returns : goal.returns
returns g c =
    record {
      mended = weaker g.G.Gauge c.args.mesh.now c.args.gauge.now (Accounted g.G.Gauge c.args.mesh.now c.args.gauge.now) (λ k (a, b). (a, omega (arith, c.loop-h-test.false))) c.loop-h.invariant;
    }
