use Rattle.std.proofs.Common.{ℕ, get_or, set, Some, None, Option, sym, subst, arith}
use Rattle.judging.specs.Sides.{Marking}
use Rattle.judging.proofs.Chains.{begun, stepped}
use Rattle.judging.proofs.Marks.{marking_start, marking_more, inside_next}
use Rattle.judging.proofs.judge.fans.Fans.mark_ends.Goals as goal

pub loop-h-init : goal.loop-h-init
loop-h-init c =
    let fans = c.args.self.now in
    let out = c.outgoing-h-items.ensures in
    let (e, f) = begun c.into_iter-h-iterator.ensures.into_iter_gives out.link out.at in
    (e, subst (λ (r : Option ℕ). Marking fans.corners.now c.args.u r c.args.marks.now) (sym f) (marking_start fans.chained c.args.u c.args.marks.now c.requires.vertex c.requires.below))

pub offset_bounds-self-following : goal.offset_bounds-self-following
offset_bounds-self-following c =
    let fans = c.args.self.now in
    let e = sym c.in-Some.ensures.steps.0 in
    let p = inside_next fans.corners.now c.args.u c.loop-h.invariant.1.stands e c.following.result fans.threes c.following.ensures.value in
    omega (arith, fans.few)

pub bounds-self-following : goal.bounds-self-following
bounds-self-following c =
    let fans = c.args.self.now in
    let e = sym c.in-Some.ensures.steps.0 in
    inside_next fans.corners.now c.args.u c.loop-h.invariant.1.stands e c.following.result fans.threes c.following.ensures.value

pub loop-h-preserved : goal.loop-h-preserved
loop-h-preserved c =
    let fans = c.args.self.now in
    let cs = fans.corners.now in
    let u = c.args.u in
    let h = c.in-Some.h in
    let (e, at, same) = stepped c.loop-h.h-iterator c.next.new.self c.loop-h.invariant.0 c.in-Some.ensures.steps in
    let I : Marking cs u (Some h) c.loop-h.marks = subst (λ (r : Option ℕ). Marking cs u r c.loop-h.marks) e c.loop-h.invariant.1 in (
      same,
      subst (λ (r : Option ℕ). Marking cs u r (set c.loop-h.marks (get_or cs c.following.result 0) (Some h))) (sym at)
          (subst (λ (x : ℕ). Marking cs u (get_or (fans.link.items) h None) (set c.loop-h.marks (get_or cs x 0) (Some h))) (sym c.following.ensures.value)
          (marking_more fans.chained u c.loop-h.marks fans.numbered (omega arith) fans.threes h I)),
    )
