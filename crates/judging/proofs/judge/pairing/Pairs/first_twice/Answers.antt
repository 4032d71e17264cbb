use Rattle.std.proofs.Common.{◌≡◌, ℕ, length, subst, arith}
use Rattle.judging.proofs.Rules.{Lowering, twice_none, twice_some}
use Rattle.judging.proofs.judge.pairing.Pairs.first_twice.Goals as goal

pub returns-then-lowest-len : goal.returns-then-lowest-len
returns-then-lowest-len c =
    let pairs = c.args.self.now in
    let cs = pairs.fans.corners.now in
    let long = pairs.paired.long_first in
    let e : c.loop-h.h ≡ length cs = omega (arith, c.loop-h-test.false, c.loop-h.auto.h-end, c.deref-entry-items.ensures.len, pairs.first.ok.0) in
    let L = subst (λ (i : ℕ). Lowering cs pairs.first.items i c.loop-h.lowest) e c.loop-h.invariant in
    record { lowest = λ n. twice_some pairs.paired pairs.fans.threes n c.loop-h.lowest L (omega (arith, c.if-lowest-len.true, c.len.ensures, pairs.first.ok.0)) }

pub returns-else-lowest-len : goal.returns-else-lowest-len
returns-else-lowest-len c =
    let pairs = c.args.self.now in
    let cs = pairs.fans.corners.now in
    let long = pairs.paired.long_first in
    let e : c.loop-h.h ≡ length cs = omega (arith, c.loop-h-test.false, c.loop-h.auto.h-end, c.deref-entry-items.ensures.len, pairs.first.ok.0) in
    let L = subst (λ (i : ℕ). Lowering cs pairs.first.items i c.loop-h.lowest) e c.loop-h.invariant in
    record { lowest = λ n. twice_none pairs.paired pairs.fans.threes n c.loop-h.lowest L (omega (arith, c.if-lowest-len.false, c.len.ensures, pairs.first.ok.0)) }
