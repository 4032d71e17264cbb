use Rattle.judging.proofs.Turns.{Turned}
use Rattle.judging.proofs.judge.pairing.Pairs.comes_round.Given as goal

abbrev pub invariant-loop : goal.invariant-loop
invariant-loop l = Turned l.self.twin.items l.start l.counter l.h
