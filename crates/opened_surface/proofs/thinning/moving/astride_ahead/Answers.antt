use Rattle.std.proofs.Common.{length, ap, arith}
use Rattle.opened_surface.proofs.Astrides.{no_side, ahead}
use Rattle.opened_surface.proofs.thinning.moving.astride_ahead.Goals as goal

pub returns-in_err-next : goal.returns-in_err-next
returns-in_err-next c = let same = ap length c.log.ensures.value in rw c.from_residual.ensures (record { ahead = omega (arith, c.in_err-next.ensures.lookup.3, c.position.ensures.value, same); few = tt })

pub returns-in_err-e : goal.returns-in_err-e
returns-in_err-e c =
    rw c.from_residual-in_err-e.ensures
    (record {
      ahead = absurd (no_side c.args.mesh.now c.log.result.now c.position.result c.in_ok-next.field-0.now c.log.ensures.value c.position.ensures.value c.in_ok-next.ensures.lookup.3.0 c.in_ok-next.ensures.lookup.1 c.in_err-e.ensures.astride);
      few = tt;
    })

pub returns : goal.returns
returns c =
    record {
      ahead = ahead c.args.mesh.now c.log.result.now c.position.result c.in_ok-next.field-0.now c.log.ensures.value c.position.ensures.value c.in_ok-next.ensures.lookup.3.0 c.in_ok-next.ensures.lookup.1 c.in_ok-e.e c.in_ok-e.f c.in_ok-e.ensures.astride;
      few = c.in_ok-e.ensures.few;
    }
