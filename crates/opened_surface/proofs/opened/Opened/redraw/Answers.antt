use Rattle.opened_surface.specs.Parts.{mesh_of}
use Rattle.opened_surface.proofs.Consistents.{consistent}
use Rattle.opened_surface.proofs.Redrawn.{accepted_again}
use Rattle.opened_surface.proofs.opened.Opened.redraw.Goals as goal

pub returns : goal.returns
returns g c =
    let x = c.args.self.now in
    let back = c.redraw.ensures.outcome in
    record { back = back; accepted = accepted_again (mesh_of x) x.counts (consistent x).judged c.redraw.result back }
