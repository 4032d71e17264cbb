use Rattle.std.proofs.Common.{refl, rules}
use Rattle.std.proofs.lemmas.Iterator.{cases_from_all}
use Rattle.std.proofs.lemmas.Iterator.Consumers.{YieldsList-from_first}
use Rattle.mesh.specs.Ahead.{rest}
use Rattle.mesh.specs.Model.{held}
use Rattle.mesh.specs.Reads.{Clear}
use Rattle.mesh.proofs.LinkTest.{exactly_iff, only_from, only_to}
use Rattle.mesh.proofs.Rings.{all_round}
use Rattle.mesh.proofs.halfedges.HalfEdges.only_common.Goals as goal

pub returns : goal.returns
returns c =
    let e = c.args.self.now in
    let P = Clear (held e) c.args.w c.args.a c.args.b in
    record {
      only =
          exactly_iff _ only_from only_to
          (all_round e c.ring.ensures.round c.ring.ensures.none P _
          (cases_from_all c.all.new.self _ c.all.result P (λ h. P h → ⊥) c.all.ensures.ran
          (YieldsList-from_first (λ x. x) rest {s = c.ring.result} _ refl) (λ x q k. search rules) (λ x q k. search rules)));
    }
