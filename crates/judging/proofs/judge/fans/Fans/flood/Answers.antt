use Rattle.std.proofs.Common.{ℕ, true, false, List, length, get_or, set, vec_items, vec_len, sym, ap, ◌∙◌, subst, arith}
use Rattle.std.proofs.lemmas.List.{length_push}
use Rattle.judging.specs.Floods.{Level, Flooding}
use Rattle.judging.proofs.Floods.{count_most, flooding_none, flooding_more, flooding_settled, flooding_all, level_more, level_popped, popped_below, no_entries}
use Rattle.judging.proofs.judge.fans.Fans.flood.Goals as goal

pub loop-x-init : goal.loop-x-init
loop-x-init c =
    let fans = c.args.self.now in
    let v = c.args.v in
    let n = vec_len fans.last in
    let s = c.args.seen.now in
    let P : List ℕ → Type 0 = λ q. Flooding fans.corners.now n v (set s v true) (set s v true) q × Level n (set s v true) q in
    let (F, L) = subst P (sym c.push_reserved.ensures.items)
    (flooding_none s (vec_items c.args.waiting.now) c.requires.none (omega (arith, c.requires.level.flags)) c.requires.settled, level_more c.requires.level v c.requires.known c.requires.unseen) in
    (F, L, omega (arith, c.requires.room, c.push_reserved.ensures.capacity))

pub spread-requires : goal.spread-requires
spread-requires c =
    let (_, L, room) = c.loop-x.invariant in
    let out = c.in-Some.ensures in
    record { known = popped_below _ _ _ _ _ out.items L; level = level_popped _ _ _ _ _ out.items L; room = omega (arith, room, out.capacity) }

pub loop-x-preserved : goal.loop-x-preserved
loop-x-preserved c =
    let (F, _, _) = c.loop-x.invariant in
    let S = c.spread.ensures in
    (flooding_more c.args.self.now.threes c.in-Some.ensures.items F S.grown S.spread, S.level, S.room)

pub loop-x-smaller : goal.loop-x-smaller
loop-x-smaller c =
    let n = vec_len c.args.self.now.last in
    let s = c.loop-x.seen in
    let s' = c.spread.new.seen in
    omega (arith, c.spread.ensures.grown.as_many, ap length c.in-Some.ensures.items, length_push (vec_items c.pop.new.self) c.in-Some.x, count_most (λ v. get_or s v false) n, count_most (λ v. get_or s' v false) n)

pub returns : goal.returns
returns c =
    let (F, L, room) = c.loop-x.invariant in
    let out = c.in_default.ensures in
    let old = no_entries (vec_items c.loop-x.waiting) (omega (arith, out.cases.0, c.loop-x.waiting.ok.0)) in
    let new = no_entries (vec_items c.pop.new.self) (omega (arith, out.cases.1, c.pop.new.self.ok.0)) in
    record {
      flooded = flooding_all (omega (arith, c.requires.level.flags)) F;
      level = subst (λ (q : List ℕ). Level (vec_len c.args.self.now.last) c.loop-x.seen q) (old ∙ sym new) L;
      none = new;
      room = omega (arith, room, out.capacity);
      settled = flooding_settled old F;
    }
