use Rattle.std.proofs.Common.{◌≡◌, ◌≢◌, refl, rules}
use borrow.Author.Tests.{tests}
use Rattle.std.proofs.lemmas.Iterator.{first_from_find}
use Rattle.std.proofs.lemmas.Iterator.Consumers.{YieldsList-from_first}
use Rattle.surface.specs.Surface.{next}
use Rattle.mesh.specs.Ahead.{rest}
use Rattle.mesh.specs.Model.{held}
use Rattle.mesh.proofs.Rings.{first_to}
use Rattle.mesh.proofs.halfedges.HalfEdges.half_edge.Goals as goal

pub returns : goal.returns
returns c =
    let e = c.args.self.now in
    record {
      leads =
          first_to e c.ring.ensures.round c.ring.ensures.none c.args.w _
          (first_from_find c.find.new.self _ c.find.result (λ h. (held e).corner (next h) ≡ c.args.w) (λ h. (held e).corner (next h) ≢ c.args.w) c.find.ensures.ran
          (YieldsList-from_first (λ x. x) rest {s = c.ring.result} _ refl) (λ x q k. search (rules, tests)) (λ x q k. search (rules, tests)));
    }
