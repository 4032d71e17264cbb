use Rattle.std.proofs.Common.{length, refl, inl, inr, arith, lit≤, below_more}
use Rattle.std.proofs.lemmas.List.{get_or_past}
use Rattle.std.proofs.lemmas.Bool.{cases_lt}
use Rattle.plane_costs.proofs.coordinates.look_at.Goals as goal

pub loop-position-preserved : goal.loop-position-preserved
loop-position-preserved c = below_more _ _ c.loop-position.invariant c.look.ensures.bytes

pub returns : goal.returns
returns c =
    let ps = c.args.positions.now in
    record {
      bytes = λ v. elim (cases_lt v (length ps)) [
        | inl l ↦ c.loop-position.invariant v (omega arith)
        | inr l ↦ rw (get_or_past ps v _ l) ((0, lit≤ tt, refl), (0, lit≤ tt, refl), (0, lit≤ tt, refl))
      ];
    }
