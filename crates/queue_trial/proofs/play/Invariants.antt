use Rattle.std.proofs.Common.{◌≡◌, ◌+◌, ◌≤◌}
use Rattle.queue_trial.proofs.play.Given as goal

abbrev pub invariant-loop-round : goal.invariant-loop-round
invariant-loop-round l = (l.tally.given + l.tally.taken + l.tally.refused ≡ l.round) × (l.tally.agreed ≤ l.round)
