use Rattle.std.proofs.Common.{ℕ, vec_len, None, sym, ◌∙◌, subst, arith}
use Rattle.std.proofs.lemmas.List.{get_or_read}
use Rattle.std.proofs.lemmas.Bool.{false≢true}
use Rattle.judging.specs.Rings.{Around}
use Rattle.judging.proofs.Rings.{turning, ring_from, ring_around, no_ring, starts, starts_nowhere}
use Rattle.judging.proofs.judge.pairing.Pairs.is_ringed.Goals as goal

pub returns-in_default : goal.returns-in_default
returns-in_default c =
    record {
      yes = λ e. absurd (false≢true e);
      no = λ _ R.
          no_ring c.args.self.now.fans.corners.now (vec_len c.args.self.now.fans.last) c.args.self.now.twin.items c.args.self.now.fans.threes c.args.self.now.paired.twins c.requires.matched c.requires.single c.args.v
          (starts_nowhere c.args.self.now.fans.chained c.args.v c.requires.vertex (sym (get_or_read c.args.self.now.fans.last.items c.args.v c.index.result.now (omega (arith, c.requires.vertex, c.args.self.now.fans.last.ok.0)) c.index.ensures None) ∙ c.in_default.is)) R;
    }

pub returns-then-around-lt3 : goal.returns-then-around-lt3
returns-then-around-lt3 c =
    record {
      yes = λ e. absurd (false≢true e);
      no = λ _ R.
          let (low, at) = starts c.args.self.now.fans.chained c.args.v c.requires.vertex c.in-Some.start (sym (get_or_read c.args.self.now.fans.last.items c.args.v c.index.result.now (omega (arith, c.requires.vertex, c.args.self.now.fans.last.ok.0)) c.index.ensures None) ∙ c.in-Some.is) in
          let (three, _) = ring_around c.args.self.now.fans.corners.now (vec_len c.args.self.now.fans.last) c.args.self.now.twin.items c.args.self.now.fans.threes c.args.self.now.paired.twins c.requires.matched c.requires.single c.args.v c.in-Some.start low at R in
          omega (arith, c.degree-around.ensures.value);
    }

pub comes_round-requires : goal.comes_round-requires
comes_round-requires c =
    record {
      turning = turning c.args.self.now.fans.corners.now (vec_len c.args.self.now.fans.last) c.args.self.now.twin.items c.args.self.now.fans.threes c.args.self.now.paired.twins c.requires.matched c.args.self.now.paired.long_twin;
      inside = omega (arith, (starts c.args.self.now.fans.chained c.args.v c.requires.vertex c.in-Some.start (sym (get_or_read c.args.self.now.fans.last.items c.args.v c.index.result.now (omega (arith, c.requires.vertex, c.args.self.now.fans.last.ok.0)) c.index.ensures None) ∙ c.in-Some.is)).0);
      some = omega arith;
    }

pub returns : goal.returns
returns c =
    let (low, at) = starts c.args.self.now.fans.chained c.args.v c.requires.vertex c.in-Some.start (sym (get_or_read c.args.self.now.fans.last.items c.args.v c.index.result.now (omega (arith, c.requires.vertex, c.args.self.now.fans.last.ok.0)) c.index.ensures None) ∙ c.in-Some.is) in
    record {
      yes = λ t.
          ring_from c.args.self.now.fans.corners.now (vec_len c.args.self.now.fans.last) c.args.self.now.twin.items c.args.self.now.fans.threes c.args.self.now.paired.twins c.requires.matched c.requires.single c.args.v c.in-Some.start low at
          (omega (arith, c.degree-around.ensures.value))
          (subst (λ (k : ℕ). Around c.args.self.now.twin.items c.in-Some.start k) c.degree-around.ensures.value (c.comes_round.ensures.yes t));
      no = λ t R.
          let (_, A) = ring_around c.args.self.now.fans.corners.now (vec_len c.args.self.now.fans.last) c.args.self.now.twin.items c.args.self.now.fans.threes c.args.self.now.paired.twins c.requires.matched c.requires.single c.args.v c.in-Some.start low at R in
          c.comes_round.ensures.no t (subst (λ (k : ℕ). Around c.args.self.now.twin.items c.in-Some.start k) (sym c.degree-around.ensures.value) A);
    }
