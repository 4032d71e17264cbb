use Rattle.std.proofs.Common.{not, eqb, ◌<◌, rules}
use Rattle.queue.specs.Meaning.{keys_of}
use Rattle.opened_surface.proofs.Drained.{begins, drains, drained}
use Rattle.opened_surface.proofs.Present.{few_held, taken_fewer}
use Rattle.opened_surface.proofs.draining.drain.Goals as goal

pub loop-x-init : goal.loop-x-init
loop-x-init g c = begins g.G.Gauge c.args.mesh.now c.args.gauge.now (not (eqb g.row.ONLY_MISSING 0)) (keys_of c.args.set.now) (keys_of c.args.queue.now)

pub loop-x-preserved : goal.loop-x-preserved
loop-x-preserved g c =
    drains g.G.Gauge c.args.mesh.now c.args.gauge.now (not (eqb g.row.ONLY_MISSING 0)) (keys_of c.args.set.now) (keys_of c.args.queue.now) (keys_of c.loop-x.set) (keys_of c.loop-x.queue) c.loop-x.invariant
    c.in-Some.x c.in-Some.field-0-1 c.in-Some.ensures.held (keys_of c.mend_vertex.new.queue) (λ a _. c.mend_vertex.ensures.mended a) (keys_of c.set.new.self) c.set.ensures.keys

pub loop-x-smaller : goal.loop-x-smaller
loop-x-smaller g c = taken_fewer (keys_of c.loop-x.set) c.in-Some.x c.in-Some.field-0-1 c.in-Some.ensures.held (keys_of c.set.new.self) c.set.ensures.keys

pub overflow_cast-x : goal.overflow_cast-x
overflow_cast-x g c = let p : c.in-Some.x < 6144 = few_held c.loop-x.set c.in-Some.x c.in-Some.field-0-1 c.in-Some.ensures.held in search rules

pub returns : goal.returns
returns g c =
    record {
      mended =
          drained g.G.Gauge c.args.mesh.now c.args.gauge.now (not (eqb g.row.ONLY_MISSING 0)) (keys_of c.args.set.now) (keys_of c.args.queue.now) (keys_of c.loop-x.set) (keys_of c.loop-x.queue) c.loop-x.invariant
          c.in_default.ensures.held;
      emptied = c.in_default.ensures.held;
      long = c.loop-x.invariant.long;
    }
