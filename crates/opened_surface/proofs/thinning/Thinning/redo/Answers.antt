use Rattle.std.proofs.Common.{refl, ap, ◌∙◌}
use Rattle.opened_surface.proofs.Ties.{tied_grown}
use Rattle.opened_surface.proofs.Outcomes.{unredone_follows, redone_follows}
use Rattle.opened_surface.proofs.thinning.Thinning.redo.Goals as goal

pub returns-in_err-next-clause-follows : goal.returns-in_err-next-clause-follows
returns-in_err-next-clause-follows g c = let x = c.args.self.now in rw c.from_residual.ensures (λ K. unredone_follows g.G.Gauge g.G.Cost.Ordered x x c.in_err-next.ensures.ahead refl refl K)

pub returns-clause-follows : goal.returns-clause-follows
returns-clause-follows g c = λ K.
    let x = c.args.self.now in
    let (ahead, is, A) = c.in_ok-next.ensures.ahead in
    redone_follows g.G.Gauge g.G.Cost.Ordered x c.join.new.self c.join.ensures.fixed c.redo.new.self c.join.ensures.mesh c.in_ok-next.next c.in_ok-next.e c.in_ok-next.f c.position.result
    A ahead c.in_ok-redo.ensures.outcome.0 is (c.position.ensures.value ∙ ap (λ b. b.position) c.join.ensures.mesh)
    (λ J. c.join.ensures.tied x.mesh J (c.mark_around.ensures.covered K.sized (_, A.there.0, A.there.1)) (tied_grown g.G.Gauge g.G.Cost.Ordered x c.mark_around.new.stale c.mark_around.ensures.grown K))
