use Rattle.std.proofs.Common.{ℕ, length, Option, sym, ◌∙◌, subst, arith}
use Rattle.judging.proofs.Degrees.{Counting, counting_start, counting_along, counting_end}
use Rattle.judging.proofs.judge.fans.Fans.degree.Goals as goal

pub returns : goal.returns
returns c =
    let fans = c.args.self.now in
    let cs = fans.corners.now in
    let out = c.outgoing in
    let (xs, (u, (t, y, end)), many) = c.count.ensures.ran in
    let I = subst (λ (r : Option ℕ). Counting cs c.args.v 0 r) (sym out.ensures.at) (counting_start cs c.args.v fans.chained c.requires.vertex) in
    let J = counting_along cs c.args.v fans.chained 0 out.result xs t out.ensures.link I y in
    record { value = many ∙ counting_end cs c.args.v (length xs) (subst (λ (r : Option ℕ). Counting cs c.args.v (length xs) r) (sym end.0) (subst (λ (k : ℕ). Counting cs c.args.v k t.at) (omega arith) J)) }
