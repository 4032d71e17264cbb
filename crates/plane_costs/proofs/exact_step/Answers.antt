use Rattle.opened_surface.specs.Parts.{mesh_of}
use Rattle.plane_costs.proofs.Exactness.{exact_step}
use Rattle.plane_costs.proofs.exact_step.Goals as goal

pub returns : goal.returns
returns c =
    record {
      called = c.step.ensures.called;
      first = c.step.ensures.first;
      exact = exact_step (mesh_of c.args.opened.now) c.look_over.ensures.bytes c.step.result c.step.ensures.first;
      refused = c.step.ensures.refused;
    }
