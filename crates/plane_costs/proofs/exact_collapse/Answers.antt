use Rattle.opened_surface.specs.Parts.{mesh_of}
use Rattle.plane_costs.proofs.Exactness.{exact_collapse}
use Rattle.plane_costs.proofs.exact_collapse.Goals as goal

pub returns : goal.returns
returns c =
    record {
      called = c.collapse.ensures.called;
      exact = exact_collapse (mesh_of c.args.opened.now) c.look_over.ensures.bytes c.args.u c.args.w c.collapse.result c.collapse.ensures.called.promise.ledger;
      refused = c.collapse.ensures.refused;
    }
