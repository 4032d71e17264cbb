use Rattle.std.proofs.lemmas.Result.{err_from_is_err_and}
use Rattle.session.proofs.Rules.{vertex_taken, vertex_refused}
use Rattle.session.proofs.draft.Draft.vertex.Goals as goal

pub returns-in_err-vertex : goal.returns-in_err-vertex
returns-in_err-vertex c =
    let p = err_from_is_err_and c.from_residual.result c.from_residual.ensures.1 in
    rw (p.1, p.2) (record { replied = vertex_refused c.args.self.now.named c.args.self.now.gathering c.vertex.new.self c.args.x c.args.y c.args.z _ c.in_err-vertex.ensures.outcome })

pub returns : goal.returns
returns c = record { replied = vertex_taken c.args.self.now.named c.args.self.now.gathering c.vertex.new.self c.args.x c.args.y c.args.z c.in_ok-vertex.ensures.outcome }
