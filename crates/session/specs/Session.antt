-- A whole session: the commands of the input in turn, and the lines that they are answered by. It takes calls or does without them.
use Rattle.std.specs.Prelude.{◌≡◌, ℕ, ◌+◌, ◌<◌, ◌≤◌, Bool, true, false, List, [], ◌∷◌, ◌++◌, length, Ok, Err, Result}
use Rattle.ledger.specs.Book.{surface_now}
use Rattle.session.specs.Held.{Held, gathering, opened as holds, empty}
use Rattle.session.specs.Lines.{Line, named, opened, collapsed, stepped, split, redone, went, ended, refused, triangle_lines}
use Rattle.session.specs.Numbers.{number}
use Rattle.session.specs.Replies.{Replied}
use Rattle.session.specs.Spelled.{spelled, stops, Known, Unknown, Missing}
use Rattle.session.specs.declared.command.Command.{Command}
use Rattle.session.specs.declared.command.Fault.{Fault}
use Rattle.session.specs.declared.command.Fault.TheVariants as fault
use Rattle.session.specs.declared.refusal.Refusal.{Refusal}
use Rattle.session.specs.declared.refusal.Refusal.TheVariants.{UnknownCommand, MissingOperands, TooLong}
use Rattle.session.specs.declared.reply.Reply.{Reply}
use Rattle.session.specs.declared.reply.Reply.TheVariants.{Nothing, Named, Opened, Collapsed, Stepped, Split, Redone, Went, Triangles, Ended}

-- the lines of the live triangles, where a surface is opened
abbrev pub held_lines : Held → List Line
held_lines (gathering _ ps cs) = []
held_lines (holds on b) = triangle_lines (surface_now b) b.triangles

-- the lines of a reply after which h is held
abbrev pub reply_lines : Held → Reply → List Line
reply_lines h Nothing = []
reply_lines h (Named s) = named s.now ∷ []
reply_lines h (Opened n) = opened n ∷ []
reply_lines h (Collapsed p) = collapsed p.u p.w p.amount p.divisor ∷ []
reply_lines h (Stepped p) = stepped p.u p.w p.amount p.divisor ∷ []
reply_lines h (Split k) = split k ∷ []
reply_lines h (Redone k) = redone k ∷ []
reply_lines h (Went k) = went k ∷ []
reply_lines h Triangles = held_lines h
reply_lines h (Ended n) = ended n ∷ []

-- the lines of the answer to a command that begins at `at` and after which h is held
abbrev pub lines : ℕ → Held → Result Reply Refusal → List Line
lines at h (Ok r) = reply_lines h r
lines at h (Err e) = refused (number e) at ∷ []

-- the lines where no command is read
abbrev pub fault_lines : ℕ → Fault → List Line
fault_lines at fault.Over = []
fault_lines at fault.Unknown = refused (number UnknownCommand) at ∷ []
fault_lines at fault.Missing = refused (number MissingOperands) at ∷ []

-- the lines that follow where these bytes are left, from the offset `at` on, and h is held
pub data Session (calls : Bool) : (at : ℕ) (bytes : List ℕ) → Held → List Line → Type 0 where
  -- the input ends between commands
  over : {at : ℕ} {h : Held} → Session calls at [] h []
  -- a byte that no command begins with, and operands that are missing, stop the session
  unknown : {at b : ℕ} {rest : List ℕ} {h : Held} → Unknown calls b → Session calls at (b ∷ rest) h (refused (number UnknownCommand) at ∷ [])
  missing : {at : ℕ} {bytes : List ℕ} {h : Held} → Missing calls bytes → Session calls at bytes h (refused (number MissingOperands) at ∷ [])
  -- a command, after which the session stops or goes on
  last : {at : ℕ} {h k : Held} {r : Result Reply Refusal} (c : Command) (rest : List ℕ) → Known calls c → stops c ≡ true → Replied h c r k → Session calls at (spelled c ++ rest) h (lines at k r)
  next : {at : ℕ} {h k : Held} {r : Result Reply Refusal} (c : Command) (rest : List ℕ) (more : List Line) → Known calls c → stops c ≡ false → Replied h c r k → Session calls (at + length (spelled c)) rest k more → Session calls at (spelled c ++ rest) h (lines at k r ++ more)

-- the lines that an input is answered by; one above 65,536 bytes is refused whole
pub data Answered (calls : Bool) (input : List ℕ) : List Line → Type 0 where
  too_long : 65536 < length input → Answered calls input (refused (number TooLong) 0 ∷ [])
  read : {ls : List Line} → length input ≤ 65536 → Session calls 0 input empty ls → Answered calls input ls
