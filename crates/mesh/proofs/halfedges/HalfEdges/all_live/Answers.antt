use Rattle.std.proofs.Common.{◌≡◌, ◌*◌, ◌/◌, ◌≤◌, length, vec_items, vec_len, sym, refl, subst, arith}
use Rattle.surface.specs.Closed.{Closed}
use Rattle.surface.specs.Surface.{Surface}
use Rattle.mesh.specs.Held.{TwinsLive, OutLive}
use Rattle.mesh.proofs.Openings.{whole_read}
use Rattle.mesh.proofs.halfedges.HalfEdges.all_live.Goals as goal

pub invariant_of-result : goal.invariant_of-result
invariant_of-result c =
    let cs = c.args.corners.now in
    let n = c.args.n in
    let t = c.requires.tabled in
    let corners = c.in_ok-corners.corners in
    let triangles = c.in_ok-triangles.triangles in
    let vertices = c.in_ok-vertices.vertices in
    let copied = c.in_ok-corners.ensures in
    let whole_is = whole_read cs n (vec_items corners) (vec_items triangles) (vec_items vertices) copied.items (c.in_ok-triangles.ensures.items_if_clones_equal (λ y e. e)) (c.in_ok-vertices.ensures.items_if_clones_equal (λ y e. e)) in
    let long : vec_len corners ≡ length cs = copied.len in
    let many : vec_len triangles ≡ length cs / 3 = c.in_ok-triangles.ensures.len in
    let all : vec_len vertices ≡ n = c.in_ok-vertices.ensures.len in
    let few : vec_len corners ≤ 6144 = omega (arith, t.few) in
    let threes : vec_len corners ≡ 3 * vec_len triangles = omega (arith, t.threes) in
    let twin_long : vec_len c.args.twin ≡ vec_len corners = omega (arith, t.twin_long, c.args.twin.ok.0) in
    let few_vertices : vec_len vertices ≤ 1024 = omega (arith, t.few_vertices) in
    let out_long : vec_len c.args.out ≡ vec_len vertices = omega (arith, t.out_long, c.args.out.ok.0) in
    let closed = subst (λ (S : Surface). ∥ Closed S ∥₁) (sym whole_is) t.closed in
    let twins = subst (λ (S : Surface). TwinsLive S (vec_items c.args.twin)) (sym whole_is) t.twins in
    let outs = subst (λ (S : Surface). OutLive S (vec_items c.args.out)) (sym whole_is) t.outs in
    record { few = few; threes = threes; twin_long = twin_long; few_vertices = few_vertices; out_long = out_long; closed = closed; twins = twins; outs = outs }

pub returns : goal.returns
returns c =
    record {
      live =
          record {
            corners_are = c.in_ok-corners.ensures.items;
            triangles_are = c.in_ok-triangles.ensures.items_if_clones_equal (λ y e. e);
            vertices_are = c.in_ok-vertices.ensures.items_if_clones_equal (λ y e. e);
          };
      tables = (refl, refl);
    }
