use Rattle.std.proofs.Common.{List, length, ap, ◌∙◌}
use Rattle.geometry.specs.declared.Position.{Position}
use Rattle.drawing.specs.Drawn.{position_at}
use Rattle.drawing.proofs.regathering.regather.Goals as goal

pub returns : goal.returns
returns c =
    let P = c.in_ok-gather_points.ensures.outcome in
    let R = c.in_ok-gather_triangles.ensures.outcome in
    record {
      outcome = record {
        positions_many = ap length R.1 ∙ P.0.many;
        corners_many = R.0.many;
        positions_are = λ i p q l A. ap (λ (x : List Position). position_at x i) R.1 ∙ P.0.are i p q l A;
        corners_are = R.0.are;
      };
    }
