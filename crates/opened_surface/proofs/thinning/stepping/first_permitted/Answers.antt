use Rattle.std.proofs.Common.{sym, ◌∙◌}
use Rattle.mesh.specs.Model.{surface, points}
use Rattle.queue.specs.Meaning.{keys_of}
use Rattle.opened_surface.proofs.Present.{taken_fewer}
use Rattle.opened_surface.proofs.Steps.{first, none_left, ready_on, permitted_ok, permitted_err}
use Rattle.opened_surface.proofs.thinning.stepping.first_permitted.Goals as goal

pub loop-h-init : goal.loop-h-init
loop-h-init g c = λ gauge R. R

pub returns-then-is_ok : goal.returns-then-is_ok
returns-then-is_ok g c =
    record {
      found = λ gauge R.
          let N = c.loop-h.invariant gauge R in
          let key = c.in-Some.key in (
            N,
            first g.G.Gauge g.G.Cost.Ordered c.args.mesh.now gauge c.loop-h.queue N c.in-Some.h key c.in-Some.ensures.held c.in-Some.ensures.least
                (permitted_ok (surface c.args.mesh.now) (points c.args.mesh.now) key.u key.w c.permitted.result c.permitted.ensures.permit (sym c.is_ok.ensures.value ∙ c.if-is_ok.true)),
          );
    }

pub loop-h-smaller : goal.loop-h-smaller
loop-h-smaller g c = taken_fewer (keys_of c.loop-h.queue) c.in-Some.h c.in-Some.key c.in-Some.ensures.held (keys_of c.set.new.self) c.set.ensures.keys

pub loop-h-preserved : goal.loop-h-preserved
loop-h-preserved g c = λ gauge R.
    let key = c.in-Some.key in
    let (why, refused) = permitted_err (surface c.args.mesh.now) (points c.args.mesh.now) key.u key.w c.permitted.result c.permitted.ensures.permit (sym c.is_ok.ensures.value ∙ c.if-is_ok.false) in
    ready_on g.G.Gauge g.G.Cost.Ordered c.args.mesh.now gauge c.loop-h.queue (c.loop-h.invariant gauge R) c.in-Some.h key c.in-Some.ensures.held why refused c.set.new.self c.set.ensures.keys

pub returns : goal.returns
returns g c =
    record {
      found = λ gauge R.
          let N = c.loop-h.invariant gauge R in
          (N, none_left g.G.Gauge g.G.Cost.Ordered c.args.mesh.now gauge c.loop-h.queue N c.in_default.ensures.held);
    }
