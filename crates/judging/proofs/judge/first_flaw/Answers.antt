use Rattle.std.proofs.Common.{ℕ, vec_len, Option, sym, subst}
use Rattle.surface.specs.Closed.{Single, Matched, AllRinged}
use Rattle.surface.specs.Read.{whole}
use Rattle.gathering.specs.Model.{point_of, surface_of}
use Rattle.judging.specs.Flaws.{Lowest, Unringed}
use Rattle.judging.specs.Verdict.{FirstFlaw}
use Rattle.judging.specs.declared.verdict.Flaw.{Flaw}
use Rattle.judging.proofs.judge.first_flaw.Goals as goal

pub returns-in-Some-first_unringed : goal.returns-in-Some-first_unringed
returns-in-Some-first_unringed c =
    let cs = c.args.pairs.now.fans.corners.now in
    let n = vec_len c.args.pairs.now.fans.last in
    record {
      first = subst
          (λ (m : ℕ). Single (whole cs m) × Matched (whole cs m) × Lowest (Unringed (whole cs m)) c.in-Some-first_unringed.v)
          c.requires.vertices
          (c.in_default.ensures.lowest n, c.in_default-first_unmet.ensures.lowest n, c.in-Some-first_unringed.ensures.lowest);
    }

pub returns-in_err-t : goal.returns-in_err-t
returns-in_err-t c =
    let ps = c.args.positions.now in
    let cs = c.args.pairs.now.fans.corners.now in
    let n = vec_len c.args.pairs.now.fans.last in
    let ringed = subst (λ (m : ℕ). Single (whole cs m) × Matched (whole cs m) × AllRinged (whole cs m)) c.requires.vertices
    (c.in_default.ensures.lowest n, c.in_default-first_unmet.ensures.lowest n, c.in_default-first_unringed.ensures.lowest) in
    record { first = subst (λ (r : Option Flaw). FirstFlaw (surface_of ps cs) (point_of ps) r) (sym c.from_residual.ensures) (ringed.0, ringed.1, ringed.2, c.in_err-t.ensures.lowest) }

pub returns : goal.returns
returns c =
    let cs = c.args.pairs.now.fans.corners.now in
    let n = vec_len c.args.pairs.now.fans.last in
    let ringed = subst (λ (m : ℕ). Single (whole cs m) × Matched (whole cs m) × AllRinged (whole cs m)) c.requires.vertices
    (c.in_default.ensures.lowest n, c.in_default-first_unmet.ensures.lowest n, c.in_default-first_unringed.ensures.lowest) in
    record { first = (ringed.0, ringed.1, ringed.2, c.in_ok-t.ensures.lowest) }
