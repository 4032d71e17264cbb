use Rattle.std.proofs.Common.{[], ◌∷◌}
use Rattle.session.specs.Lines.{refused}
use Rattle.session.specs.Session as session
use Rattle.session.proofs.Runs.{from_nothing, one_from_nothing}
use Rattle.session.proofs.run.run.Goals as goal

pub returns-then-input-gt-MOST_BYTES : goal.returns-then-input-gt-MOST_BYTES
returns-then-input-gt-MOST_BYTES g c =
    record { answered = (refused 25 0 ∷ [], session.Answered.too_long c.if-input-gt-MOST_BYTES.true, one_from_nothing _ _ (refused 25 0) c.new-out.ensures.items c.in_ok-write_refused.ensures.written) }

pub returns : goal.returns
returns g c =
    let a = c.in_ok-answer.ensures.answered in
    record { answered = (a.0, session.Answered.read c.if-input-gt-MOST_BYTES.false a.1, from_nothing _ _ a.0 c.new-out.ensures.items a.2) }
