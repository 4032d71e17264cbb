use Rattle.std.proofs.Common.{◌≡◌, ◌<◌, ◌≤◌, length, refl, ap, arith}
use Rattle.gathering.specs.Model.{positions}
use Rattle.session.specs.Gauges.{most_vertices}
use Rattle.session.specs.Replies as rule
use Rattle.session.proofs.draft.Draft.judged_on.Goals as goal

pub returns-in-Err-Flawed-clause-replied : goal.returns-in-Err-Flawed-clause-replied
returns-in-Err-Flawed-clause-replied c =
    let x = c.in-Err-Flawed in
    rw x.flaw-is (rule.Replied.refused (rule.Refuses.flawed c.args.gauge refl (rw x.field-0-is at x.ensures.why_not)))

pub returns-then-positions-most_vertices-clause-replied : goal.returns-then-positions-most_vertices-clause-replied
returns-then-positions-most_vertices-clause-replied c =
    let g = c.args.self.gathering in
    let long : length c.positions.result.now ≡ length (positions g) = ap length c.positions.ensures.value in
    let many : most_vertices c.args.gauge < length (positions g) = omega (arith, c.most_vertices.ensures.value) in
    rule.Replied.refused (rule.Refuses.too_many c.args.gauge c.in-Ok.counts refl c.in-Ok.ensures.accepted many)

pub returns-clause-replied : goal.returns-clause-replied
returns-clause-replied c =
    let g = c.args.self.gathering in
    let long : length c.positions.result.now ≡ length (positions g) = ap length c.positions.ensures.value in
    let few : length (positions g) ≤ most_vertices c.args.gauge = omega (arith, c.most_vertices.ensures.value) in
    rule.Replied.obeyed (rule.Obeys.open_closed c.args.gauge refl c.in-Ok.ensures.accepted few)
