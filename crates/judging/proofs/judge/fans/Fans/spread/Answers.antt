use Rattle.std.proofs.Common.{ℕ, ◌<◌, true, List, length, get_or, set, vec_items, vec_len, Option, sym, subst, arith}
use Rattle.judging.specs.Floods.{Level, Grown, Walked}
use Rattle.judging.proofs.Chains.{stepped}
use Rattle.judging.proofs.Floods.{marked_more, grown_more, walked_at, walked_seen, walked_unseen, level_room, level_more}
use Rattle.judging.proofs.judge.fans.Fans.spread.Goals as goal

pub offset_bounds-self-following : goal.offset_bounds-self-following
offset_bounds-self-following c =
    let fans = c.args.self.now in
    let (l, _, _) = walked_at fans.threes fans.numbered c.loop-h.invariant.1.1 (sym c.in-Some.ensures.steps.0) c.following.ensures.value in
    omega (arith, fans.few)

pub bounds-self-following : goal.bounds-self-following
bounds-self-following c =
    let fans = c.args.self.now in
    (walked_at fans.threes fans.numbered c.loop-h.invariant.1.1 (sym c.in-Some.ensures.steps.0) c.following.ensures.value).0

pub push_reserved-requires : goal.push_reserved-requires
push_reserved-requires c =
    let fans = c.args.self.now in
    let (_, l, _) = walked_at fans.threes fans.numbered c.loop-h.invariant.1.1 (sym c.in-Some.ensures.steps.0) c.following.ensures.value in
    let k = level_room c.loop-h.invariant.2 _ l c.if-not-seen-y.true in
    omega (arith, c.loop-h.invariant.3, c.loop-h.waiting.ok.0)

pub loop-h-preserved-then-not-seen-y : goal.loop-h-preserved-then-not-seen-y
loop-h-preserved-then-not-seen-y c =
    let fans = c.args.self.now in
    let cs = fans.corners.now in
    let y = get_or cs c.following.result 0 in
    let (G, (link, W), L, room) = c.loop-h.invariant in
    let (at, next, same) = stepped c.loop-h.h-iterator c.next.new.self link c.in-Some.ensures.steps in
    let (_, l, d) = walked_at fans.threes fans.numbered W at c.following.ensures.value in
    let k : y < length c.loop-h.seen = omega (arith, L.flags) in
    let seen = set c.loop-h.seen y true in
    let V = subst (λ (r : Option ℕ). Walked cs c.args.x r seen) (sym next) (walked_unseen fans.chained W at c.following.ensures.value k) in
    let P : List ℕ → Type 0 = λ q. Grown cs (vec_len fans.last) c.args.x c.args.seen.now (vec_items c.args.waiting.now) seen q × Level (vec_len fans.last) seen q in
    let (g, e) = subst P (sym c.push_reserved.ensures.items) (grown_more G _ k d (marked_more c.loop-h.seen (vec_len fans.last) y L.flags l c.if-not-seen-y.true), level_more L _ l c.if-not-seen-y.true) in
    (g, (same, V), e, omega (arith, c.push_reserved.ensures.capacity))

pub loop-h-preserved : goal.loop-h-preserved
loop-h-preserved c =
    let fans = c.args.self.now in
    let (G, (link, W), L, room) = c.loop-h.invariant in
    let (at, next, same) = stepped c.loop-h.h-iterator c.next.new.self link c.in-Some.ensures.steps in
    let V = walked_seen fans.chained W at c.following.ensures.value c.if-not-seen-y.false in
    (G, (same, subst (λ (r : Option ℕ). Walked fans.corners.now c.args.x r c.loop-h.seen) (sym next) V), L, room)
