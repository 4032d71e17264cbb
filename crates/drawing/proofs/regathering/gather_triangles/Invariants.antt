use Rattle.std.proofs.Common.{◌≡◌}
use Rattle.gathering.specs.Model.{positions, corners}
use Rattle.drawing.specs.Back.{TrianglesTaken}
use Rattle.drawing.proofs.regathering.gather_triangles.Given as goal

abbrev pub invariant-loop-a : goal.invariant-loop-a
invariant-loop-a l = TrianglesTaken l.triangles l.a-index (corners l.gathering) × (positions l.gathering ≡ positions l.initial.gathering)
