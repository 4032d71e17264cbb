use Rattle.std.proofs.Common.{◌≡◌}
use Rattle.gathering.specs.Model.{positions, corners}
use Rattle.drawing.specs.Back.{PointsTaken}
use Rattle.drawing.proofs.regathering.gather_points.Given as goal

abbrev pub invariant-loop-p : goal.invariant-loop-p
invariant-loop-p l = PointsTaken l.points l.p-index (positions l.gathering) × (corners l.gathering ≡ corners l.initial.gathering)
