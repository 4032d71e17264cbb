use Rattle.std.proofs.Common.{◌≡◌, ℕ, vec_len, subst, arith}
use Rattle.judging.specs.Sides.{BeginsBelow, Found}
use Rattle.judging.proofs.Found.{found_all}
use Rattle.judging.proofs.judge.fans.Fans.pair_sides.Goals as goal

pub returns : goal.returns
returns c =
    let fans = c.args.self.now in
    let cs = fans.corners.now in
    let e : c.loop-u.u ≡ vec_len fans.last = omega arith in
    record { paired = found_all fans.numbered fans.threes (subst (λ (n : ℕ). Found cs (BeginsBelow cs n) c.loop-u.first c.loop-u.twin) e c.loop-u.invariant.1) }
