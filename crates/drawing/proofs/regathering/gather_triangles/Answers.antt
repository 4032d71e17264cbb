use Rattle.std.proofs.Common.{◌≡◌, ℕ, List, [], length, get_or, sym, refl, ◌∙◌, subst, arith}
use Rattle.std.proofs.lemmas.Result.{err_from_is_err_and}
use Rattle.geometry.specs.declared.Position.{Position}
use Rattle.gathering.specs.Model.{corners}
use Rattle.drawing.specs.Back.{TrianglesTaken, TrianglesFit}
use Rattle.drawing.proofs.Takings.{triangles_none, triangles_more, triangles_refused}
use Rattle.drawing.proofs.regathering.gather_triangles.Goals as goal

pub loop-a-init : goal.loop-a-init
loop-a-init c = (triangles_none c.args.triangles.now _ c.requires.empty, refl)

pub loop-a-preserved : goal.loop-a-preserved
loop-a-preserved c =
    let V = c.in_ok-triangle.ensures.outcome in (
      triangles_more c.args.triangles.now c.loop-a.a-index c.loop-a-test.true (get_or c.args.triangles.now c.loop-a.a-index []) refl
          _ _ c.loop-a.invariant.0 V.appended,
      V.positions_same ∙ c.loop-a.invariant.1,
    )

pub returns-in_err-triangle : goal.returns-in_err-triangle
returns-in_err-triangle c =
    let p = err_from_is_err_and c.from_residual.result c.from_residual.ensures.1 in
    rw p.1 (record {
      outcome = λ F.
          triangles_refused c.args.triangles.now c.loop-a.a-index c.loop-a-test.true (get_or c.args.triangles.now c.loop-a.a-index []) refl
          c.loop-a.gathering c.triangle.new.self c.in_err-triangle.field-0.0 c.in_err-triangle.ensures.outcome c.loop-a.invariant.0
          (subst (λ (q : List Position). TrianglesFit c.args.triangles.now (length q)) (sym c.loop-a.invariant.1) F);
    })

pub returns : goal.returns
returns c =
    let i : c.loop-a.a-index ≡ length c.args.triangles.now = omega arith in
    record { outcome = (subst (λ (n : ℕ). TrianglesTaken c.args.triangles.now n (corners c.loop-a.gathering)) i c.loop-a.invariant.0, c.loop-a.invariant.1) }
