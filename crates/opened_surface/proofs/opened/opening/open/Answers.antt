use Rattle.std.proofs.Common.{refl}
use Rattle.opened_surface.proofs.Openings.{judged_there, opened_with, tied_there}
use Rattle.opened_surface.proofs.opened.opening.open.Goals as goal

pub invariant_of-result : goal.invariant_of-result
invariant_of-result g c =
    record {
      tied = tied_there g.G.Gauge g.G.Cost.Ordered c.args.gathering c.args.gauge c.in-Ok-open.field-0 c.in-Ok-open.ensures.outcome _ _ c.in-Ok.ensures.prepared c.begin.result c.begin.ensures.begun;
      judged = judged_there g.G.Gauge g.G.Cost.Ordered c.args.gathering c.args.gauge c.in-Ok-open.field-0 c.in-Ok-open.ensures.outcome _ _ c.in-Ok.ensures.prepared c.begin.result c.begin.ensures.begun;
    }

pub returns-in-Ok-open : goal.returns-in-Ok-open
returns-in-Ok-open g c = record { outcome = opened_with g.G.Gauge g.G.Cost.Ordered c.args.gathering c.args.gauge c.in-Ok-open.field-0 c.in-Ok-open.ensures.outcome _ _ c.in-Ok.ensures.prepared c.begin.result c.begin.ensures.begun _ refl refl }
