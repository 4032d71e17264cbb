use Rattle.std.proofs.Common.{length}
use Rattle.judging.specs.Chains.{ChainedBelow}
use Rattle.judging.proofs.judge.chains.chain.Given as goal

abbrev pub invariant-loop-h : goal.invariant-loop-h
invariant-loop-h l = ChainedBelow l.corners (length l.initial.last) l.h l.last l.link
