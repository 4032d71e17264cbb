use Rattle.std.proofs.Common.{eqb, length, vec_items}
use Rattle.std.proofs.Math.Bool.{not}
use Rattle.session.specs.Fits.{Fits}
use Rattle.session.specs.Held.{held}
use Rattle.session.proofs.Runs.{Going}
use Rattle.session.proofs.run.answer.Given as goal

abbrev pub invariant-loop-read : goal.invariant-loop-read
invariant-loop-read g l = Going (not (eqb g.row.CALLS 0)) l.input (vec_items l.initial.out) (vec_items l.out) l.rest (held l.state) × Fits (not (eqb g.row.CALLS 0)) l.state

abbrev pub decreases-loop-read : goal.decreases-loop-read
decreases-loop-read g l = length l.rest
