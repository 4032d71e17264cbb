use Rattle.std.proofs.Common.{◌≡◌, ℕ, ◌/◌, ◌<◌, true, length, sym, refl, ap, ◌∙◌, rules, arith}
use Rattle.surface.specs.Surface.{Tri}
use Rattle.surface.proofs.Tris.{spin, tri_at, moved}
use Rattle.mesh.proofs.Round.{corner_within}
use Rattle.std.proofs.lemmas.List.{get_or_default}
use Rattle.std.proofs.lemmas.Iterator.{cases_from_all}
use Rattle.std.proofs.lemmas.Iterator.Adapters.{serves_from_places}
use Rattle.std.proofs.lemmas.Iterator.Consumers.{YieldsList-from_first}
use Rattle.gathering.specs.Model.{point_of}
use Rattle.mesh.specs.Ahead.{rest}
use Rattle.mesh.specs.Model.{held}
use Rattle.mesh.specs.Reads.{Stands}
use Rattle.mesh.proofs.LinkTest.{exactly_iff}
use Rattle.mesh.proofs.FoldTest.{upright_walked, upright_met}
use Rattle.mesh.proofs.Rings.{all_round, at_place}
use Rattle.mesh.proofs.halfedges.HalfEdges.upright.Goals as goal

pub all-requires-clause-callable : goal.all-requires-clause-callable
all-requires-clause-callable c =
    let e = c.args.self.now in
    let p = corner_within e (spin (tri_at (held e) c.args.e c.requires.live)) in
    let w : c.end-w.result < length c.args.positions.now = omega arith in
    serves_from_places (YieldsList-from_first (λ x. x) rest {s = c.ring.result} _ refl) (λ x q k. search rules)
    (λ x k p i.
    let (a, b, t) = at_place e c.ring.ensures.round c.ring.ensures.none k p in
    let l : (held e).alive (x / 3) ≡ true = ap (λ h. (held e).alive (h / 3)) (i ∙ get_or_default (rest c.ring.result) k x 0 p) ∙ t.lives in
    search rules)

pub returns : goal.returns
returns c =
    let e = c.args.self.now in
    let P = Stands (held e) (point_of c.args.positions.now) c.end-w.result in
    record {
      upright =
          exactly_iff {P = (h a b : ℕ) → Tri (held e) h c.start.result a b → P h} _
          (λ g. upright_walked e (point_of c.args.positions.now) c.args.e c.requires.live c.end-w.ensures.value (λ h x y t. g h x y (moved (sym c.start.ensures.value) refl refl t)))
          (λ U h x y t. upright_met e (point_of c.args.positions.now) c.args.e c.requires.live c.end-w.ensures.value U (moved c.start.ensures.value refl refl t))
          (all_round e c.ring.ensures.round c.ring.ensures.none P _
          (cases_from_all c.all.new.self _ c.all.result P (λ h. P h → ⊥) c.all.ensures.ran
          (YieldsList-from_first (λ x. x) rest {s = c.ring.result} _ refl) (λ x q k. search rules) (λ x q k. search rules)));
    }
