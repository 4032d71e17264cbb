use Rattle.std.proofs.Common.{◌≡◌, ℕ, length, get_or, set, Some, None, Option, sym, ap, ◌∙◌, subst, arith}
use Rattle.surface.specs.Surface.{next, prev}
use Rattle.judging.specs.Chains.{Standing}
use Rattle.judging.specs.Sides.{Passed, Found, LowestSide}
use Rattle.judging.proofs.Chains.{stand_step, stepped}
use Rattle.judging.proofs.Marks.{next_inside, inside_next, standing_at}
use Rattle.judging.proofs.Found.{found_more}
use Rattle.judging.proofs.judge.fans.Fans.match_sides.Goals as goal

pub following-before-requires : goal.following-before-requires
following-before-requires c =
    let fans = c.args.self.now in
    let p = inside_next fans.corners.now c.args.u c.loop-h.invariant.1 (sym c.in-Some.ensures.steps.0) c.following-after.result fans.threes c.following-after.ensures.value in
    record { small = omega (arith, fans.few) }

pub offset_bounds-self-after : goal.offset_bounds-self-after
offset_bounds-self-after c =
    let fans = c.args.self.now in
    let p = inside_next fans.corners.now c.args.u c.loop-h.invariant.1 (sym c.in-Some.ensures.steps.0) c.following-after.result fans.threes c.following-after.ensures.value in
    omega (arith, fans.few)

pub bounds-self-after : goal.bounds-self-after
bounds-self-after c =
    let fans = c.args.self.now in
    inside_next fans.corners.now c.args.u c.loop-h.invariant.1 (sym c.in-Some.ensures.steps.0) c.following-after.result fans.threes c.following-after.ensures.value

pub offset_bounds-self-before : goal.offset_bounds-self-before
offset_bounds-self-before c =
    let fans = c.args.self.now in
    let p = inside_next fans.corners.now c.args.u c.loop-h.invariant.1 (sym c.in-Some.ensures.steps.0) c.following-after.result fans.threes c.following-after.ensures.value in
    let q = next_inside (length fans.corners.now) c.following-after.result fans.threes p in
    omega (arith, fans.few)

pub bounds-self-before : goal.bounds-self-before
bounds-self-before c =
    let fans = c.args.self.now in
    let p = inside_next fans.corners.now c.args.u c.loop-h.invariant.1 (sym c.in-Some.ensures.steps.0) c.following-after.result fans.threes c.following-after.ensures.value in
    let q = next_inside (length fans.corners.now) c.following-after.result fans.threes p in
    omega arith

pub offset_bounds-twin-before : goal.offset_bounds-twin-before
offset_bounds-twin-before c =
    let fans = c.args.self.now in
    let p = inside_next fans.corners.now c.args.u c.loop-h.invariant.1 (sym c.in-Some.ensures.steps.0) c.following-after.result fans.threes c.following-after.ensures.value in
    let q = next_inside (length fans.corners.now) c.following-after.result fans.threes p in
    omega (arith, fans.few)

pub bounds-twin-before : goal.bounds-twin-before
bounds-twin-before c =
    let fans = c.args.self.now in
    let p = inside_next fans.corners.now c.args.u c.loop-h.invariant.1 (sym c.in-Some.ensures.steps.0) c.following-after.result fans.threes c.following-after.ensures.value in
    let q = next_inside (length fans.corners.now) c.following-after.result fans.threes p in
    let r = c.requires.so_far.long_twin in
    omega arith

pub loop-h-preserved : goal.loop-h-preserved
loop-h-preserved c =
    let fans = c.args.self.now in
    let cs = fans.corners.now in
    let u = c.args.u in
    let h = c.in-Some.h in
    let (e, at, same) = stepped c.loop-h.h-iterator c.next.new.self c.loop-h.invariant.0 c.in-Some.ensures.steps in
    let s = standing_at cs u c.loop-h.invariant.1 e in
    let F : Found cs (Passed cs u (Some h)) c.loop-h.first c.loop-h.twin = subst (λ (r : Option ℕ). Found cs (Passed cs u r) c.loop-h.first c.loop-h.twin) e c.loop-h.invariant.2 in
    let p : c.following-before.result ≡ prev h = c.following-before.ensures.value ∙ ap next c.following-after.ensures.value in
    let G = subst (λ (x : ℕ). Found cs (Passed cs u (get_or fans.link.items h None)) (set c.loop-h.first h c.marked.result) (set c.loop-h.twin x c.marked-in-loop-h.result)) (sym p)
    (found_more fans.chained u h c.marked.result c.marked-in-loop-h.result fans.threes s F
    (subst (λ (x : ℕ). LowestSide cs u (get_or cs x 0) c.marked.result) c.following-after.ensures.value c.marked.ensures.lowest)
    (subst (λ (x : ℕ). LowestSide cs u (get_or cs x 0) c.marked-in-loop-h.result) p c.marked-in-loop-h.ensures.lowest)) in (
      same,
      subst (λ (r : Option ℕ). Standing cs u r) (sym at) (stand_step fans.chained u h s.0 s.1),
      subst (λ (r : Option ℕ). Found cs (Passed cs u r) (set c.loop-h.first h c.marked.result) (set c.loop-h.twin c.following-before.result c.marked-in-loop-h.result)) (sym at) G,
    )
