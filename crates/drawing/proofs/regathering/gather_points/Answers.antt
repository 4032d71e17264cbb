use Rattle.std.proofs.Common.{◌≡◌, ℕ, length, refl, ◌∙◌, subst, arith}
use Rattle.std.proofs.lemmas.Result.{err_from_is_err_and}
use Rattle.gathering.specs.Model.{positions}
use Rattle.drawing.specs.Back.{PointsTaken}
use Rattle.drawing.proofs.Takings.{points_none, points_more, points_refused}
use Rattle.drawing.proofs.regathering.gather_points.Goals as goal

pub loop-p-init : goal.loop-p-init
loop-p-init c = (points_none c.args.points.now _ c.requires.empty, refl)

pub loop-p-preserved : goal.loop-p-preserved
loop-p-preserved c =
    let V = c.in_ok-vertex.ensures.outcome in (
      points_more c.args.points.now c.loop-p.p-index c.loop-p-test.true _ _ _ _ c.in_quarters.ensures.value c.in_quarters-in-loop-p.ensures.value c.in_quarters-in-loop-p-2.ensures.value
          _ _ c.loop-p.invariant.0 V.appended,
      V.corners_same ∙ c.loop-p.invariant.1,
    )

pub returns-in_err-vertex : goal.returns-in_err-vertex
returns-in_err-vertex c =
    let p = err_from_is_err_and c.from_residual.result c.from_residual.ensures.1 in
    rw p.1 (record {
      outcome =
          points_refused c.args.points.now c.loop-p.p-index c.loop-p-test.true _ _ _ _ c.in_quarters.ensures.value c.in_quarters-in-loop-p.ensures.value c.in_quarters-in-loop-p-2.ensures.value
          c.loop-p.gathering c.vertex.new.self c.in_err-vertex.field-0.0 c.in_err-vertex.ensures.outcome c.loop-p.invariant.0;
    })

pub returns : goal.returns
returns c =
    let i : c.loop-p.p-index ≡ length c.args.points.now = omega arith in
    record { outcome = (subst (λ (n : ℕ). PointsTaken c.args.points.now n (positions c.loop-p.gathering)) i c.loop-p.invariant.0, c.loop-p.invariant.1) }
