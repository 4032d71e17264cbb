use Rattle.std.proofs.Common.{suc, length, refl, ap, ◌≡◌, [], ◌∷◌, ◌++◌, arith}
use Rattle.std.proofs.lemmas.Iterator.Consumers.{YieldsList-from_first, YieldsList-turn, YieldsList-end}
use Rattle.std.proofs.lemmas.List.{length_push}
use Rattle.surface.proofs.Tris.{spin, tri_at}
use Rattle.gathering.specs.Model.{point_of}
use Rattle.mesh.specs.Ahead.{rest}
use Rattle.mesh.specs.Model.{held}
use Rattle.mesh.proofs.Round.{corner_within}
use Rattle.sweep.proofs.Ways.{gone_start, gone_on}
use Rattle.sweep.proofs.Adding.{here_live, short, adds, all_summed}
use Rattle.sweep.proofs.walk.swept.Goals as goal

pub loop-h-init : goal.loop-h-init
loop-h-init c = gone_start _ _ _

pub share-size-requires : goal.share-size-requires
share-size-requires c =
    let e = c.args.edges.now in
    let P = point_of c.args.positions.now in
    let turn = YieldsList-turn (YieldsList-from_first (λ x. x) rest {s = c.into_iter-h-iterator.result} _ refl) c.loop-h.yielded c.loop-h.h-iterator c.loop-h.yielded_by c.next.result c.next.new.self c.in-Some.h c.in-Some.is c.next.ensures.steps in
    let p = corner_within e (spin (tri_at (held e) c.args.e c.requires.live)) in
    record { live = here_live e P c.args.e c.requires.live c.end-w.ensures.value c.start.ensures.value c.ring-h-items.ensures.round (ap rest c.into_iter-h-iterator.ensures.into_iter_gives) turn; placed = c.requires.placed; known = omega arith }

pub overflow_add-volume : goal.overflow_add-volume
overflow_add-volume c =
    let e = c.args.edges.now in
    let P = point_of c.args.positions.now in
    let turn = YieldsList-turn (YieldsList-from_first (λ x. x) rest {s = c.into_iter-h-iterator.result} _ refl) c.loop-h.yielded c.loop-h.h-iterator c.loop-h.yielded_by c.next.result c.next.new.self c.in-Some.h c.in-Some.is c.next.ensures.steps in
    let n = short e P c.args.e c.requires.live c.end-w.ensures.value c.start.ensures.value c.ring-h-items.ensures.round (ap rest c.into_iter-h-iterator.ensures.into_iter_gives) turn in
    record { fits = omega (arith, c.loop-h.invariant.small, c.share-size.ensures.adds.small) }

pub overflow_add-number : goal.overflow_add-number
overflow_add-number c =
    let e = c.args.edges.now in
    let P = point_of c.args.positions.now in
    let turn = YieldsList-turn (YieldsList-from_first (λ x. x) rest {s = c.into_iter-h-iterator.result} _ refl) c.loop-h.yielded c.loop-h.h-iterator c.loop-h.yielded_by c.next.result c.next.new.self c.in-Some.h c.in-Some.is c.next.ensures.steps in
    let n = short e P c.args.e c.requires.live c.end-w.ensures.value c.start.ensures.value c.ring-h-items.ensures.round (ap rest c.into_iter-h-iterator.ensures.into_iter_gives) turn in
    record { fits = omega (arith, c.loop-h.invariant.few, c.share-size.ensures.adds.few) }

pub loop-h-preserved : goal.loop-h-preserved
loop-h-preserved c =
    let e = c.args.edges.now in
    let P = point_of c.args.positions.now in
    let turn = YieldsList-turn (YieldsList-from_first (λ x. x) rest {s = c.into_iter-h-iterator.result} _ refl) c.loop-h.yielded c.loop-h.h-iterator c.loop-h.yielded_by c.next.result c.next.new.self c.in-Some.h c.in-Some.is c.next.ensures.steps in
    let m : length (c.loop-h.yielded ++ c.in-Some.h ∷ []) ≡ suc (length c.loop-h.yielded) = omega (arith, length_push c.loop-h.yielded c.in-Some.h) in
    gone_on _ _ _ c.loop-h.invariant turn (adds e P c.args.e c.requires.live c.end-w.ensures.value c.start.ensures.value c.ring-h-items.ensures.round (ap rest c.into_iter-h-iterator.ensures.into_iter_gives) turn c.share-size.ensures.adds) m

pub returns : goal.returns
returns c =
    let e = c.args.edges.now in
    let P = point_of c.args.positions.now in
    let all = YieldsList-end (YieldsList-from_first (λ x. x) rest {s = c.into_iter-h-iterator.result} _ refl) c.loop-h.yielded c.loop-h.h-iterator c.loop-h.yielded_by c.next.result c.next.new.self c.in-None.is c.next.ensures.steps in
    let (p, q) = all_summed e P c.args.e c.requires.live c.end-w.ensures.value c.start.ensures.value c.ring-h-items.ensures.round (ap rest c.into_iter-h-iterator.ensures.into_iter_gives) c.loop-h.invariant all.1 in
    record { volume = p; number = q }
