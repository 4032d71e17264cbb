use Rattle.judging.proofs.Turns.{turned_first, turned_more}
use Rattle.judging.proofs.judge.pairing.Pairs.comes_round.Goals as goal

pub loop-init : goal.loop-init
loop-init c = turned_first c.args.self.now.twin.items c.args.start c.turn-h.result c.turn-h.ensures.value c.turn-h.ensures.inside

pub loop-preserved : goal.loop-preserved
loop-preserved c =
    turned_more c.args.self.now.twin.items c.args.start c.loop.counter c.loop.h c.turn-h-in-loop.result c.loop.invariant c.if-h-start.false
    c.turn-h-in-loop.ensures.value c.turn-h-in-loop.ensures.inside
