use Rattle.judging.specs.Sides.{Marks, BeginsBelow, Found}
use Rattle.judging.proofs.judge.fans.Fans.pair_sides.Given as goal

abbrev pub invariant-loop-u : goal.invariant-loop-u
invariant-loop-u l = Marks l.self.corners.now l.u l.marks × Found l.self.corners.now (BeginsBelow l.self.corners.now l.u) l.first l.twin
