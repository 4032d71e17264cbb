use Rattle.std.proofs.Common.{ap}
use Rattle.std.proofs.lemmas.Iterator.Consumers.{YieldsList-from_first, YieldsList-end}
use Rattle.mesh.specs.Ahead.{rest}
use Rattle.queue.specs.Meaning.{keys_of}
use Rattle.opened_surface.proofs.Ringed.{set_out, step_on, come_round}
use Rattle.opened_surface.proofs.stale.marking.mark_ring.Goals as goal

pub loop-h-init : goal.loop-h-init
loop-h-init c = set_out c.args.mesh.now (keys_of c.args.set.now)

pub loop-h-preserved : goal.loop-h-preserved
loop-h-preserved c =
    step_on c.args.mesh.now (keys_of c.args.set.now) c.edges-edges.result.now c.edges-edges.ensures.value c.loop-h.invariant c.in-Some.h c.end.ensures.value c.mark_in.ensures.wider c.mark_in.ensures.marked

pub returns : goal.returns
returns c =
    let all = YieldsList-end (YieldsList-from_first (λ x. x) rest {s = c.into_iter-h-iterator.result} _ (ap rest c.into_iter-h-iterator.ensures.into_iter_gives)) c.loop-h.yielded c.loop-h.h-iterator c.loop-h.yielded_by c.next.result c.next.new.self c.in-None.is c.next.ensures.steps in
    record {
      wider = c.loop-h.invariant.wider;
      round = come_round c.args.mesh.now (keys_of c.args.set.now) c.edges-edges.result.now c.edges-edges.ensures.value c.ring-h-items.ensures.round c.ring-h-items.ensures.none all.0 c.loop-h.invariant;
    }
