use Rattle.judging.proofs.Rules.{Lowering}
use Rattle.judging.proofs.judge.pairing.Pairs.first_twice.Given as goal

abbrev pub invariant-loop-h : goal.invariant-loop-h
invariant-loop-h l = Lowering l.self.fans.corners.now l.self.first.items l.h l.lowest
