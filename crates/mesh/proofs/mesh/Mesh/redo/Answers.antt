use Rattle.std.proofs.Common.{◌≡◌, ◌<◌, vec_len, sym, subst, arith}
use Rattle.std.proofs.lemmas.Grind.{common_steps}
use Rattle.surface.specs.Surface.{Side}
use Rattle.mesh.specs.Model.{held}
use Rattle.mesh.specs.Stages.{record_at}
use Rattle.mesh.specs.declared.record.Record.{Record}
use Rattle.mesh.proofs.Calls.{side_ahead}
use Rattle.mesh.proofs.mesh.Mesh.redo.Goals as goal

pub returns-in_err-e : goal.returns-in_err-e
returns-in_err-e c =
    let m = c.args.self.now in
    let l : m.position < vec_len m.log = grind (arith, common_steps) in
    let e : c.in_ok-r.field-0.now ≡ record_at m.log.items m.position = grind (arith, common_steps) in
    let L = c.in_err-e.ensures.leads in
    let I = c.in_ok-r.ensures in
    absurd (c.in_err-e.ensures.leads (subst (λ (r : Record). Side (held m.edges) r.u r.w) (sym e) (side_ahead m l)))
