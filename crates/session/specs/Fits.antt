-- What a session with calls or without them may hold.
use Rattle.std.specs.Prelude.{◌≡◌, Bool, false, Ok}
use Rattle.gathering.specs.Model.{positions, corners}
use Rattle.judging.specs.Verdict.{Judged}
use Rattle.session.specs.declared.state.State.{State}
use Rattle.session.specs.declared.state.State.TheVariants.{Gathering, Still, Opened}

-- a surface stays as it was judged only where there are no calls, and its counts are those of the judge
abbrev pub Fits : Bool → State → Type 0
Fits calls (Gathering d) = Unit {0}
Fits calls (Still s) = (calls ≡ false) × Judged (positions s.gathering) (corners s.gathering) (Ok s.counts)
Fits calls (Opened h) = Unit {0}
