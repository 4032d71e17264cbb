use Rattle.std.proofs.lemmas.Result.{err_from_is_err_and}
use Rattle.session.proofs.Rules.{triangle_taken, triangle_refused}
use Rattle.session.proofs.draft.Draft.triangle.Goals as goal

pub returns-in_err-triangle : goal.returns-in_err-triangle
returns-in_err-triangle c =
    let p = err_from_is_err_and c.from_residual.result c.from_residual.ensures.1 in
    rw (p.1, p.2) (record { replied = triangle_refused c.args.self.now.named c.args.self.now.gathering c.triangle.new.self c.args.a c.args.b c.args.c _ c.in_err-triangle.ensures.outcome })

pub returns : goal.returns
returns c = record { replied = triangle_taken c.args.self.now.named c.args.self.now.gathering c.triangle.new.self c.args.a c.args.b c.args.c c.in_ok-triangle.ensures.outcome }
