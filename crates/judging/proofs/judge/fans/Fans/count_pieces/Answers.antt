use Rattle.std.proofs.Common.{◌≡◌, ℕ, ◌+◌, ◌<◌, Bool, false, List, [], length, vec_items, vec_len, vec_capacity, sym, ap, ◌∙◌, subst, arith}
use Rattle.std.proofs.lemmas.List.{get_or_read, with_items_is}
use Rattle.judging.specs.Floods.{Level, Settled, Found, Flooded}
use Rattle.judging.proofs.Floods.{found_seen, found_more, found_all, carried}
use Rattle.judging.proofs.judge.fans.Fans.count_pieces.Goals as goal
use Rattle.judging.proofs.judge.fans.Fans.count_pieces.Goals.{then-not-index, else-not-index}

pub loop-v-preserved : goal.loop-v-preserved
loop-v-preserved c =
    let cs = c.args.self.now.corners.now in
    let n = vec_len c.args.self.now.last in
    let (F, Z, L, none, room) = c.loop-v.invariant in
    let l : c.loop-v.v < length (vec_items c.loop-v.seen) = omega (arith, L.flags, c.len-v-end.ensures, c.loop-v-test.true) in
    let r = get_or_read _ _ _ l c.index.ensures false in
    let P : List Bool → List ℕ → Type 0 = λ s q. Found cs n (c.loop-v.v + 1) c.if-not-index.pieces s × Settled cs s × Level n s q × (q ≡ []) in
    elim c.if-not-index.branch [
      | then-not-index w ↦
          let s = w.flood.new.seen in
          let E = w.flood.ensures in
          let D = subst (λ (o : List Bool). Flooded cs n c.loop-v.v o s) w.deref_mut.ensures.value E.flooded in
          let G = subst (λ (k : ℕ). Found cs n (c.loop-v.v + 1) k s) (sym w.pieces-is) (found_more cs n c.args.self.now.threes (omega (arith, c.len-v-end.ensures, c.loop-v-test.true)) F Z (sym r ∙ w.if-not-index.true) D) in
          let e : vec_items c.if-not-index.seen ≡ s = ap vec_items w.seen-is ∙ with_items_is c.loop-v.seen s (omega (arith, E.level.flags, L.flags, c.loop-v.seen.ok.0)) in
          let (F', Z', L', none') = carried P e (ap vec_items w.waiting-is) (G, E.settled, E.level, E.none) in
          (F', Z', L', none', omega (arith, E.room, ap vec_capacity w.waiting-is))
      | else-not-index w ↦
          let G = subst (λ (k : ℕ). Found cs n (c.loop-v.v + 1) k (vec_items c.loop-v.seen)) (sym w.pieces-is) (found_seen cs n F (sym r ∙ w.if-not-index.false)) in
          let (F', Z', L', none') = carried P (ap vec_items w.seen-is) (ap vec_items w.waiting-is) (G, Z, L, none) in
          (F', Z', L', none', omega (arith, ap vec_capacity w.waiting-is))
    ]

pub returns : goal.returns
returns c = record { pieces = found_all _ _ (omega (arith, c.len-v-end.ensures, c.loop-v-test.false)) c.loop-v.invariant.0 }
