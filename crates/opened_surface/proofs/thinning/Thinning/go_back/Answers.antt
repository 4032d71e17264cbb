use Rattle.std.proofs.Common.{arith}
use Rattle.opened_surface.specs.Calls.{split_answer}
use Rattle.opened_surface.proofs.Goes.{placed_first, placed_at_lem, placed_back}
use Rattle.opened_surface.proofs.thinning.Thinning.go_back.Goals as goal

pub loop-init : goal.loop-init
loop-init g c = λ K l. placed_first g.G.Gauge g.G.Cost.Ordered c.args.self.now K _ (omega arith)

pub loop-preserved : goal.loop-preserved
loop-preserved g c = λ K l.
    placed_back g.G.Gauge g.G.Cost.Ordered c.args.self.now _ c.loop.self (c.loop.invariant K l) c.split.new.self (split_answer c.split.result) c.split.ensures.follows
    (omega (arith, c.loop-test.true)) _ (omega arith)

pub returns : goal.returns
returns g c =
    record { placed = λ K l. placed_at_lem g.G.Gauge g.G.Cost.Ordered c.args.self.now c.loop.self _ _ (c.loop.invariant K l) (omega (arith, c.loop-test.false, c.loop.auto.counter-end)) }
