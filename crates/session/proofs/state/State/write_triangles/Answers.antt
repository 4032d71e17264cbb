use Rattle.std.proofs.Common.{◌≡◌, ◌++◌, vec_items, sym, ap, ◌∙◌}
use Rattle.std.proofs.lemmas.Result.{IfOk-weaker}
use Rattle.gathering.specs.Model.{positions, corners, triangle_count}
use Rattle.session.specs.Lines.{texts}
use Rattle.session.specs.Session.{held_lines}
use Rattle.session.specs.Held.{held_still}
use Rattle.session.specs.Still.{gathered_lines}
use Rattle.session.proofs.Hulls.{hull_lines}
use Rattle.session.proofs.Stills.{writes_gathered}
use Rattle.session.proofs.state.State.write_triangles.Goals as goal

pub returns-in-Opened : goal.returns-in-Opened
returns-in-Opened c =
    rw c.in-Opened.is
    (record {
      written = IfOk-weaker c.write_triangles.result _ _
          (λ _ e. e ∙ ap (λ l. vec_items c.args.out.now ++ texts l) (hull_lines c.in-Opened.hull c.edges.result.now c.edges.ensures.value)) c.write_triangles.ensures.written;
    })

pub returns-in-Still : goal.returns-in-Still
returns-in-Still c =
    let s = c.in-Still.still in
    let cs = corners s.gathering in
    let same : gathered_lines c.corners.result.now (triangle_count c.corners.result.now) ≡ held_lines (held_still s) =
    ap (λ l. gathered_lines l (triangle_count l)) c.corners.ensures.value ∙ sym (writes_gathered s.gauge (positions s.gathering) cs) in
    rw c.in-Still.is
    (record {
      written = IfOk-weaker c.write_gathered.result _ _ (λ _ e. e ∙ ap (λ l. vec_items c.args.out.now ++ texts l) same) c.write_gathered.ensures.written;
    })
