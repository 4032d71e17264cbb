use Rattle.std.proofs.Common.{◌≡◌, ◌*◌, ◌/◌, vec_len, ap, ◌∙◌, rules, arith}
use borrow.Author.Tests.{tests}
use Rattle.std.proofs.lemmas.Iterator.{YieldsList-from_range}
use Rattle.std.proofs.lemmas.Iterator.Consumers.{count_from_yields_List, YieldsList-from_filter}
use Rattle.mesh.specs.Model.{held}
use Rattle.drawing.specs.Places.{triangle_place}
use Rattle.drawing.proofs.Counts.{counted, count_most}
use Rattle.drawing.proofs.Lows.{slots, few_triangles}
use Rattle.drawing.proofs.places.live_triangles.Goals as goal

live : (c : goal.After-count) → c.count.result ≡ triangle_place (held c.args.edges.now) (vec_len c.args.edges.now.triangles)
live c =
    let e = c.args.edges.now in
    count_from_yields_List c.filter.result c.count.result c.count.ensures.ran
    (YieldsList-from_filter _ (λ t. (held e).alive (3 * t / 3)) (YieldsList-from_range 0 (c.half_edge_count.result / 3) (c.half_edge_count.result / 3) c.filter.ensures.source (omega arith)) c.filter.ensures.closure (λ x r q k. search (rules, tests)))
    ∙ counted (λ t. (held e).alive (3 * t / 3)) (held e).alive (c.half_edge_count.result / 3) _ (omega (arith, slots e, c.half_edge_count.ensures.value)) (λ k. ap (held e).alive (omega arith))

pub overflow_cast-result : goal.overflow_cast-result
overflow_cast-result c =
    let e = c.args.edges.now in
    omega (arith, live c, count_most (held e).alive (vec_len e.triangles), few_triangles e)

pub returns : goal.returns
returns c = record { value = live c }
