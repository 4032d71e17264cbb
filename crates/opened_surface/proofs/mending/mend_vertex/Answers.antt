use Rattle.std.proofs.Common.{not, eqb, ap}
use Rattle.std.proofs.lemmas.Iterator.Consumers.{YieldsList-from_first, YieldsList-turn, YieldsList-end}
use Rattle.mesh.specs.Ahead.{rest}
use Rattle.mesh.proofs.Rings.{met_at}
use Rattle.queue.specs.Meaning.{keys_of}
use Rattle.opened_surface.specs.Mending.{Accounted, Fit}
use Rattle.opened_surface.proofs.Walked.{set_out, step_on, pair_step, come_round, fit_now, fit_next}
use Rattle.opened_surface.proofs.mending.mend_vertex.Goals as goal

pub loop-h-init : goal.loop-h-init
loop-h-init g c =
    set_out g.G.Gauge c.args.mesh.now c.args.gauge.now (Accounted g.G.Gauge c.args.mesh.now c.args.gauge.now × Fit g.G.Gauge c.args.mesh.now c.args.gauge.now (not (eqb g.row.ONLY_MISSING 0)) (keys_of c.args.queue.now)) (keys_of c.args.queue.now)

pub loop-h-preserved : goal.loop-h-preserved
loop-h-preserved g c =
    let M = g.G.Gauge in
    let mesh = c.args.mesh.now in
    let gauge = c.args.gauge.now in
    let A = Accounted M mesh gauge × Fit M mesh gauge (not (eqb g.row.ONLY_MISSING 0)) (keys_of c.args.queue.now) in
    let turn = YieldsList-turn (YieldsList-from_first (λ x. x) rest {s = c.into_iter-h-iterator.result} _ (ap rest c.into_iter-h-iterator.ensures.into_iter_gives)) c.loop-h.yielded c.loop-h.h-iterator c.loop-h.yielded_by c.next.result c.next.new.self c.in-Some.h c.in-Some.is c.next.ensures.steps in
    step_on M mesh gauge A c.loop-h.yielded c.in-Some.h c.loop-h.invariant
    (pair_step M mesh gauge A c.edges-edges.result.now c.edges-edges.ensures.value c.in-Some.h c.twin.result (met_at c.edges-edges.result.now c.ring-h-items.ensures.round c.ring-h-items.ensures.none turn).2.lives c.twin.ensures.runs_opposite (λ a. a.0)
    (λ a. c.refresh.ensures.refreshed (fit_now M mesh gauge _ _ (not (eqb g.row.ONLY_MISSING 0)) (c.loop-h.invariant a) a.1))
    (λ a. c.refresh-in-loop-h.ensures.refreshed (fit_next M mesh gauge _ _ _ (not (eqb g.row.ONLY_MISSING 0)) c.in-Some.h (c.loop-h.invariant a) a.0 c.refresh.ensures.refreshed a.1)))

pub returns : goal.returns
returns g c =
    let M = g.G.Gauge in
    let mesh = c.args.mesh.now in
    let gauge = c.args.gauge.now in
    let A = Accounted M mesh gauge × Fit M mesh gauge (not (eqb g.row.ONLY_MISSING 0)) (keys_of c.args.queue.now) in
    let all = YieldsList-end (YieldsList-from_first (λ x. x) rest {s = c.into_iter-h-iterator.result} _ (ap rest c.into_iter-h-iterator.ensures.into_iter_gives)) c.loop-h.yielded c.loop-h.h-iterator c.loop-h.yielded_by c.next.result c.next.new.self c.in-None.is c.next.ensures.steps in
    record { mended = come_round M mesh gauge A c.edges-edges.result.now c.edges-edges.ensures.value c.loop-h.yielded c.ring-h-items.ensures.round c.ring-h-items.ensures.none all.0 c.loop-h.invariant }
