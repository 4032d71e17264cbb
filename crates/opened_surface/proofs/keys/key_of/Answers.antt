use Rattle.opened_surface.proofs.Ends.{not_live}
use Rattle.opened_surface.proofs.keys.key_of.Goals as goal

pub returns-in_err-cost : goal.returns-in_err-cost
returns-in_err-cost g c =
    rw c.from_residual.ensures
    (record {
      right = λ A l M.
          not_live c.args.mesh.now c.edges-edges.result.now c.edges-edges.ensures.value c.args.h _ _ _ c.start-u.ensures.value c.end-w.ensures.value A
          c.in_err-cost.ensures.priced l;
    })
