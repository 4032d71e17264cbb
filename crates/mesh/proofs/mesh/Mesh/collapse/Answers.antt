use Rattle.std.proofs.Common.{[], ◌∷◌, ◌++◌, take, ap, ◌∙◌}
use Rattle.mesh.specs.Model.{held, points, log}
use Rattle.mesh.specs.declared.record.Record.{Record}
use Rattle.mesh.proofs.Calls.{permitted_along, record_is}
use Rattle.mesh.proofs.mesh.Mesh.collapse.Goals as goal

pub collapse_edge-requires : goal.collapse_edge-requires
collapse_edge-requires c =
    let m = c.args.self.now in
    let (p, (x, t)) = c.in_ok-e.ensures.permit in
    record { live = t.lives; permitted = ∣ permitted_along (held m.edges) (points m) c.args.u c.args.w c.in_ok-e.e x t p ∣₁ }

pub returns : goal.returns
returns c =
    let m = c.args.self.now in
    let (p, (x, t)) = c.in_ok-e.ensures.permit in
    let D = c.collapse_edge.ensures.collapsed in
    record {
      outcome =
          record {
            permitted = p;
            opening_same = D.opening_same;
            log_cut = D.log_cut ∙ ap (λ (r : Record). take m.position (log m) ++ r ∷ []) (record_is _ _ (record { u = c.args.u; w = c.args.w }) t.from t.to);
            position_next = D.position_next;
          };
    }
