use Rattle.opened_surface.proofs.Astrides.{astride, few}
use Rattle.opened_surface.proofs.thinning.moving.astride.Goals as goal

pub returns : goal.returns
returns c =
    let edges = c.edges-edges.result.now in
    let same = c.edges-edges.ensures.value in
    let leads = c.in_ok-e.ensures.leads in
    record {
      astride = astride c.args.mesh.now edges same c.args.u c.args.w c.in_ok-e.e c.twin.result leads c.twin.ensures.runs_opposite;
      few = few c.args.mesh.now edges same c.args.u c.args.w c.in_ok-e.e c.twin.result leads c.twin.ensures.runs_opposite;
    }
