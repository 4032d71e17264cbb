use Rattle.std.proofs.Common.{arith, refl}
use Rattle.opened_surface.proofs.Goes.{log_beyond, back_goes, on_goes}
use Rattle.opened_surface.proofs.thinning.Thinning.go.Goals as goal

pub returns-then-target-log-clause-follows : goal.returns-then-target-log-clause-follows
returns-then-target-log-clause-follows g c = λ K. let x = c.args.self.now in log_beyond g.G.Gauge g.G.Cost.Ordered x c.log.result.now x.mesh.position c.args.target c.log.ensures.value refl K c.if-target-log.true

pub returns-then-target-position-clause-follows : goal.returns-then-target-position-clause-follows
returns-then-target-position-clause-follows g c = λ K.
    let x = c.args.self.now in
    back_goes g.G.Gauge g.G.Cost.Ordered x c.log.result.now c.position-position.result c.args.target c.log.ensures.value c.position-position.ensures.value c.if-target-log.false
    c.go_back.new.self c.abs_diff-count.result c.if-target-position.true (omega (arith, c.abs_diff-count.ensures, c.if-target-position.true)) (c.go_back.ensures.placed K)

pub returns-else-target-position-clause-follows : goal.returns-else-target-position-clause-follows
returns-else-target-position-clause-follows g c = λ K.
    let x = c.args.self.now in
    on_goes g.G.Gauge g.G.Cost.Ordered x c.log.result.now c.position-position.result c.args.target c.log.ensures.value c.position-position.ensures.value c.if-target-log.false
    c.go_on.new.self c.abs_diff-count.result c.if-target-position.false (omega (arith, c.abs_diff-count.ensures, c.if-target-position.false)) (c.go_on.ensures.placed K)
