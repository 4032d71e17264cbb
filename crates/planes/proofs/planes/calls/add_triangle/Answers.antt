use Rattle.std.proofs.Common.{◌≡◌, ◌+◌, ◌*◌, ◌/◌, true, false, sym, ap, ◌∙◌, subst, arith}
use Rattle.geometry.specs.Values.{vector_of}
use Rattle.mesh.specs.Model.{held, surface, points}
use Rattle.planes.specs.Accounts.{Gathered}
use Rattle.planes.specs.AccountsLemmas.{gathered_dead, gathered_triangle}
use Rattle.planes.proofs.planes.calls.add_triangle.Goals as goal

pub returns-then-not-is_live : goal.returns-then-not-is_live
returns-then-not-is_live c =
    let m = c.args.mesh.now in
    let t = c.args.t in
    let third : 3 * t / 3 ≡ t = omega arith in
    let dead : (surface m).alive t ≡ false =
    ap (λ e. (held e).alive t) (sym c.edges-edges.ensures.value) ∙ ap (held c.edges-edges.result.now).alive (sym third) ∙ sym c.if-not-is_live.ensures.value in
    record { gathered = gathered_dead (surface m) (points m) t c.args.table.now dead }

pub returns : goal.returns
returns c =
    let m = c.args.mesh.now in
    let t = c.args.t in
    let e = c.edges-edges.result.now in
    let third : 3 * t / 3 ≡ t = omega arith in
    let lives : (held e).alive t ≡ true = ap (held e).alive (sym third) ∙ sym c.if-not-is_live.ensures.value in
    let added =
    gathered_triangle (held e) (points m) t lives c.start-a.result c.end-b.result c.third-c.result
    (vector_of c.position_of.result) (vector_of c.position_of-2.result) (vector_of c.position_of-3.result) c.quadric_of-q.result
    c.args.table.now c.add.new.table c.add-2.new.table c.add-3.new.table
    c.start-a.ensures.value c.end-b.ensures.value c.third-c.ensures.value
    c.position_of.ensures.point c.position_of-2.ensures.point c.position_of-3.ensures.point c.quadric_of-q.ensures.value
    c.add.ensures.added c.add-2.ensures.added c.add-3.ensures.added in
    record {
      gathered = subst (λ x. Gathered (held x) (points m) (3 * t) c.args.table.now → Gathered (held x) (points m) (3 * t + 3) c.add-3.new.table) c.edges-edges.ensures.value added;
    }
