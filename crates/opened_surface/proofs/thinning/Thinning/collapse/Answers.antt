use Rattle.std.proofs.Common.{refl}
use Rattle.std.proofs.lemmas.Result.{err_from_is_err_and}
use Rattle.opened_surface.proofs.Outcomes.{refused_follows}
use Rattle.opened_surface.proofs.thinning.Thinning.collapse.Goals as goal

pub returns-in_err-permitted-clause-follows : goal.returns-in_err-permitted-clause-follows
returns-in_err-permitted-clause-follows g c =
    let x = c.args.self.now in
    let p = err_from_is_err_and c.from_residual.result c.from_residual.ensures.1 in
    rw (p.1, p.2) (λ K. refused_follows g.G.Gauge g.G.Cost.Ordered x c.args.u c.args.w c.in_err-permitted.field-0.0 x c.in_err-permitted.ensures.permit refl refl K)
