use Rattle.opened_surface.specs.Parts.{mesh_of}
use Rattle.plane_costs.proofs.Exactness.{exact_if}
use Rattle.plane_costs.proofs.exact_cost.Goals as goal

pub returns : goal.returns
returns c = record { exact = exact_if (mesh_of c.args.opened.now) c.look_over.ensures.bytes c.args.u c.args.w c.cost.result c.cost.ensures.cost }
