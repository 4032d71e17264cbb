use Rattle.opened_surface.proofs.Steps.{ready_tied, step_done, stepped_ok, none_follows, start_same}
use Rattle.opened_surface.proofs.thinning.Thinning.step.Goals as goal

pub returns-in_err-u-clause-follows : goal.returns-in_err-u-clause-follows
returns-in_err-u-clause-follows g c =
    rw c.from_residual.ensures
    (λ K.
    let z = c.clear.new.self in
    let (R, sized) = c.clear.ensures.ready K in
    let (Q, N) = c.in_err-u.ensures.found z.gauge R in
    start_same g.G.Gauge g.G.Cost.Ordered c.args.self.now _ c.clear.ensures.mesh c.clear.ensures.gauge
    (none_follows g.G.Gauge g.G.Cost.Ordered z.mesh z.gauge c.first_permitted.new.queue z.stale Q sized N))

pub returns-in_err-cost-clause-follows : goal.returns-in_err-cost-clause-follows
returns-in_err-cost-clause-follows g c = λ K.
    let z = c.clear.new.self in
    let (R, sized) = c.clear.ensures.ready K in
    let (Q, F) = c.in_ok-u.ensures.found z.gauge R in
    absurd
    (step_done g.G.Gauge g.G.Cost.Ordered z.mesh z.gauge c.first_permitted.new.queue z.stale Q sized c.in_ok-u.field-0.u c.in_ok-u.field-0.w F c.perform.new.self c.perform.result c.in_err-cost.ensures.value
    (c.perform.ensures.follows (ready_tied g.G.Gauge g.G.Cost.Ordered z.mesh z.gauge c.first_permitted.new.queue z.stale Q sized)))

pub returns-clause-follows : goal.returns-clause-follows
returns-clause-follows g c = λ K.
    let z = c.clear.new.self in
    let (R, sized) = c.clear.ensures.ready K in
    let (Q, F) = c.in_ok-u.ensures.found z.gauge R in
    start_same g.G.Gauge g.G.Cost.Ordered c.args.self.now _ c.clear.ensures.mesh c.clear.ensures.gauge
    (stepped_ok g.G.Gauge g.G.Cost.Ordered z.mesh z.gauge c.first_permitted.new.queue z.stale Q sized c.in_ok-u.field-0.u c.in_ok-u.field-0.w F c.perform.new.self c.perform.result c.in_ok-cost.cost c.in_ok-cost.ensures.value
    (c.perform.ensures.follows (ready_tied g.G.Gauge g.G.Cost.Ordered z.mesh z.gauge c.first_permitted.new.queue z.stale Q sized)))
