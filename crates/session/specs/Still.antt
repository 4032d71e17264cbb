-- A session without calls: what was opened stays as it was opened.
use Rattle.std.specs.Prelude.{◌≡◌, ℕ, zero, suc, ◌+◌, ◌*◌, Bool, false, List, [], ◌∷◌, ◌++◌, slice_index, Ok, Result}
use Rattle.gathering.specs.Model.{triangle_count}
use Rattle.geometry.specs.declared.Position.{Position}
use Rattle.judging.specs.Verdict.{Judged}
use Rattle.judging.specs.declared.verdict.Counts.{Counts}
use Rattle.ledger.specs.Book.{Book}
use Rattle.opened_surface.specs.Openings.{first_book}
use Rattle.session.specs.Held.{Held, gathering, opened}
use Rattle.session.specs.Lines.{Line, triangle}
use Rattle.session.specs.Replies.{Replied}
use Rattle.session.specs.Session.{held_lines}
use Rattle.session.specs.Spelled.{Known}
use Rattle.session.specs.declared.command.Command.{Command}
use Rattle.session.specs.declared.command.Command.TheVariants.{End}
use Rattle.session.specs.declared.gauges.Gauge.{Gauge}
use Rattle.session.specs.declared.refusal.Refusal.{Refusal}
use Rattle.session.specs.declared.reply.Reply.{Reply}
use Rattle.session.specs.declared.reply.Reply.TheVariants.{Ended}

-- nothing is opened, or what is held is the gathered surface as it was opened
pub data AsOpened : Held → Type 0 where
  not_opened : {named : Bool} {ps : List Position} {cs : List ℕ} → AsOpened (gathering named ps cs)
  as_opened : {on : Gauge} (ps : List Position) (cs : List ℕ) (n : Counts) → Judged ps cs (Ok n) → AsOpened (opened on (first_book ps cs))

-- a command that is no call keeps it so
abbrev pub StaysOpened : Type 0
StaysOpened = (h k : Held) (c : Command) (r : Result Reply Refusal) → Known false c → Replied h c r k → AsOpened h → AsOpened k

-- more exactly, the gauge and all that the book has stay
abbrev pub KeepsOpened : Type 0
KeepsOpened = (on : Gauge) (b : Book) (c : Command) (k : Held) (r : Result Reply Refusal) → Replied (opened on b) c r k → Known false c → k ≡ opened on b

-- the lines of the first n triangles, by rising number, where the corners stand three by three
abbrev pub gathered_lines : List ℕ → ℕ → List Line
gathered_lines cs zero = []
gathered_lines cs (suc n) = gathered_lines cs n ++ triangle n (slice_index cs (3 * n)) (slice_index cs (3 * n + 1)) (slice_index cs (3 * n + 2)) ∷ []

-- of what is held so, all gathered triangles are written
abbrev pub WritesGathered : Type 0
WritesGathered = (on : Gauge) (ps : List Position) (cs : List ℕ) → held_lines (opened on (first_book ps cs)) ≡ gathered_lines cs (triangle_count cs)

-- and the end gives the counts of the opening
abbrev pub EndsWithCounts : Type 0
EndsWithCounts =
    (on : Gauge) (ps : List Position) (cs : List ℕ) (n : Counts) (r : Result Reply Refusal) (k : Held) → Judged ps cs (Ok n) → Replied (opened on (first_book ps cs)) End r k → r ≡ Ok (Ended n)
