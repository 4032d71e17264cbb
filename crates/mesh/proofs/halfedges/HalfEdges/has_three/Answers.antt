use Rattle.std.proofs.lemmas.Bool.{eqb-true, eq-eqb}
use Rattle.mesh.proofs.Round.{closed_held}
use Rattle.mesh.proofs.LinkTest.{exactly_from, three_from, three_back}
use Rattle.mesh.proofs.halfedges.HalfEdges.has_three.Goals as goal

pub returns-in_default : goal.returns-in_default
returns-in_default c = record { three = λ (x, y, z, T). let (h, n, t) = T.first in c.in_default.ensures.begins ((closed_held c.args.self.now).known _ _ _ _ t) }

pub returns : goal.returns
returns c =
    let e = c.args.self.now in
    let t = c.in-Some.ensures.begins.2 in
    let p = c.around-second.ensures.turns in
    let q = c.around-third.ensures.turns in
    let r = c.around.ensures.turns in
    record { three = exactly_from _ (λ i. three_from e t p q r (eqb-true _ _ i)) (λ T. eq-eqb _ _ (three_back e t p q r T)) }
