-- What is proved of sessions.
use Rattle.std.specs.Prelude.{◌≡◌, ℕ, Bool, List}
use Rattle.session.specs.Lines.{Line}
use Rattle.session.specs.Session.{Answered}

-- the rules leave no choice: with calls or without, an input is answered by one list of lines
abbrev pub OneAnswer : Type 0
OneAnswer = (calls : Bool) (input : List ℕ) (ls ms : List Line) → Answered calls input ls → Answered calls input ms → ls ≡ ms
