use Rattle.surface.specs.Permitted.{HasThree}
use Rattle.mesh.specs.Model.{held}
use Rattle.mesh.specs.Reads.{Exactly}
use Rattle.mesh.proofs.LinkTest.{exactly_yes, exactly_no, both_then, both_else, closes_not, closes_by}
use Rattle.mesh.proofs.halfedges.HalfEdges.link_holds.Goals as goal
use Rattle.mesh.proofs.halfedges.HalfEdges.link_holds.Goals.{then-has_three, else-has_three}

pub returns-after-has_three : goal.returns-after-has_three
returns-after-has_three c =
    let e = c.args.self.now in
    let h = c.args.e in
    let both : Exactly c.if-has_three.result (HasThree (held e) c.start-u.result × HasThree (held e) c.end-w.result) =
    elim c.if-has_three.branch [
      | then-has_three w ↦ both_then _ _ _ w.result-is (exactly_yes _ w.if-has_three.true c.has_three.ensures.three) w.has_three-then-has_three.ensures.three
      | else-has_three w ↦ both_else _ _ _ w.result-is w.if-has_three.false (exactly_no _ w.if-has_three.false c.has_three.ensures.three)
    ] in
    record {
      closes = closes_by e h c.twin.result _ _ _ _ c.requires.live (c.twin.ensures.runs_opposite c.requires.live)
          c.start-u.ensures.value c.end-w.ensures.value c.third-a.ensures.value c.third-b.ensures.value
          _ (exactly_yes _ c.if-only_common.true c.only_common.ensures.only) both;
    }

pub returns-else-only_common : goal.returns-else-only_common
returns-else-only_common c =
    let e = c.args.self.now in
    let h = c.args.e in
    record {
      closes = closes_not e h c.twin.result _ _ _ _ c.requires.live (c.twin.ensures.runs_opposite c.requires.live)
          c.start-u.ensures.value c.end-w.ensures.value c.third-a.ensures.value c.third-b.ensures.value
          _ c.if-only_common.false c.only_common.ensures.only;
    }
