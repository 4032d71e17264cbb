use Rattle.std.proofs.Common.{◌≡◌, ℕ, ◌<◌, length, get_or, is_some, Some, None, Option, unwrap_or, sym, ap, ◌∙◌, arith}
use Rattle.std.proofs.lemmas.List.{get_or_read}
use Rattle.surface.specs.Surface.{next, prev}
use Rattle.judging.proofs.Marks.{next_inside}
use Rattle.judging.proofs.Turns.{prev_inside}
use Rattle.judging.proofs.judge.pairing.Pairs.turn.Goals as goal
use Rattle.judging.proofs.judge.pairing.Pairs.turn.Goals.{After-following-before}

before_is : (c : After-following-before) → c.following-before.result ≡ prev c.args.h
before_is c = c.following-before.ensures.value ∙ ap next c.following.ensures.value

before : (c : After-following-before) → c.following-before.result < length c.args.self.now.twin.items
before c =
    let pairs = c.args.self.now in
    omega (arith, before_is c, prev_inside (length pairs.twin.items) c.args.h (omega (arith, pairs.paired.long_twin, pairs.fans.threes)) c.requires.inside)

pub following-before-requires : goal.following-before-requires
following-before-requires c =
    let pairs = c.args.self.now in
    record { small = omega (arith, pairs.paired.long_twin, pairs.fans.few, next_inside (length pairs.twin.items) c.args.h (omega (arith, pairs.paired.long_twin, pairs.fans.threes)) c.requires.inside) }

pub index-requires : goal.index-requires
index-requires c = omega (arith, before c, c.args.self.now.twin.ok.0)

pub unwrap-requires : goal.unwrap-requires
unwrap-requires c =
    let twin = c.args.self.now.twin.items in
    let (g, e, l) = c.requires.turning c.args.h c.requires.inside in
    let at : c.following-before.result ≡ prev c.args.h = c.following-before.ensures.value ∙ ap next c.following.ensures.value in
    let b : c.following-before.result < length twin = omega (arith, at, prev_inside (length twin) c.args.h (omega (arith, c.args.self.now.paired.long_twin, c.args.self.now.fans.threes)) c.requires.inside) in
    let r = get_or_read twin c.following-before.result c.index.result.now b c.index.ensures None in
    ap is_some (r ∙ ap (λ (k : ℕ). get_or twin k None) at ∙ e)

pub returns : goal.returns
returns c =
    let twin = c.args.self.now.twin.items in
    let (g, e, l) = c.requires.turning c.args.h c.requires.inside in
    let at : c.following-before.result ≡ prev c.args.h = c.following-before.ensures.value ∙ ap next c.following.ensures.value in
    let b : c.following-before.result < length twin = omega (arith, at, prev_inside (length twin) c.args.h (omega (arith, c.args.self.now.paired.long_twin, c.args.self.now.fans.threes)) c.requires.inside) in
    let r = get_or_read twin c.following-before.result c.index.result.now b c.index.ensures None in
    let was : get_or twin (prev c.args.h) None ≡ Some c.unwrap.result = ap (λ (k : ℕ). get_or twin k None) (sym at) ∙ sym r ∙ c.unwrap.ensures in
    let same : g ≡ c.unwrap.result = cc in
    record { value = sym (ap (λ (r : Option ℕ). unwrap_or r 0) was); inside = omega arith }
