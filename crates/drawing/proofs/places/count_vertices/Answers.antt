use Rattle.std.proofs.Common.{◌≡◌, vec_len, refl, ◌∙◌, rules, arith}
use borrow.Author.Tests.{tests}
use Rattle.std.proofs.lemmas.Iterator.{YieldsList-from_range}
use Rattle.std.proofs.lemmas.Iterator.Consumers.{count_from_yields_List, YieldsList-from_filter}
use Rattle.mesh.specs.Model.{held}
use Rattle.drawing.specs.Places.{place}
use Rattle.drawing.proofs.Counts.{counted, count_most}
use Rattle.drawing.proofs.places.count_vertices.Goals as goal

live : (c : goal.After-count) → c.count.result ≡ place (held c.args.edges.now) (vec_len c.args.edges.now.vertices)
live c =
    let e = c.args.edges.now in
    count_from_yields_List c.filter.result c.count.result c.count.ensures.ran
    (YieldsList-from_filter _ (held e).present (YieldsList-from_range 0 c.vertex_count.result c.vertex_count.result c.filter.ensures.source (omega arith)) c.filter.ensures.closure (λ x r q k. search (rules, tests)))
    ∙ counted (held e).present (held e).present c.vertex_count.result _ c.vertex_count.ensures.value (λ k. refl)

pub overflow_cast-result : goal.overflow_cast-result
overflow_cast-result c =
    let e = c.args.edges.now in
    omega (arith, live c, count_most (held e).present (vec_len e.vertices), e.few_vertices)

pub returns : goal.returns
returns c = record { value = live c }
