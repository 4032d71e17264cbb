use Rattle.std.proofs.Common.{arith}
use Rattle.opened_surface.specs.Calls.{redo_answer}
use Rattle.opened_surface.proofs.Goes.{placed_first, placed_at_lem, placed_on}
use Rattle.opened_surface.proofs.thinning.Thinning.go_on.Goals as goal

pub loop-init : goal.loop-init
loop-init g c = λ K l. placed_first g.G.Gauge g.G.Cost.Ordered c.args.self.now K _ (omega arith)

pub loop-preserved : goal.loop-preserved
loop-preserved g c = λ K l.
    placed_on g.G.Gauge g.G.Cost.Ordered c.args.self.now _ c.loop.self (c.loop.invariant K l) c.redo.new.self (redo_answer c.redo.result) c.redo.ensures.follows
    (omega (arith, c.loop-test.true)) _ (omega arith)

pub returns : goal.returns
returns g c =
    record { placed = λ K l. placed_at_lem g.G.Gauge g.G.Cost.Ordered c.args.self.now c.loop.self _ _ (c.loop.invariant K l) (omega (arith, c.loop-test.false, c.loop.auto.counter-end)) }
