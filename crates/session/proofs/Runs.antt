-- A session, command by command.
use Rattle.std.proofs.Common.{◌≡◌, ℕ, Bool, ◌+◌, ◌-◌, ◌<◌, ◌≤◌, true, false, List, [], ◌∷◌, ◌++◌, length, length-append, IfOk, Result, sym, ap, ◌∙◌, subst, append_assoc, append-nil, arith, lit<}
use Rattle.std.proofs.lemmas.Result.{IfOk-weaker}
use Rattle.session.specs.Held.{Held, empty}
use Rattle.session.specs.Lines.{Line, text, texts}
use Rattle.session.specs.Reading.{Read, ReadFault}
use Rattle.session.specs.Replies.{Replied}
use Rattle.session.specs.Session as session
use Rattle.session.specs.Session.{Session, lines, fault_lines}
use Rattle.session.specs.Spelled.{spelled, stops}
use Rattle.ledger.specs.declared.call.Call.TheVariants.{Collapse, Step, Split, Redo, Go}
use Rattle.session.specs.declared.command.Command.{Command}
use Rattle.session.specs.declared.command.Command.TheVariants.{Name, Vertex, Triangle, Open, Call, Write, End}
use Rattle.session.specs.declared.command.Fault.{Fault}
use Rattle.session.specs.declared.command.Fault.TheVariants as fault
use Rattle.session.specs.declared.refusal.Refusal.{Refusal}
use Rattle.session.specs.declared.reply.Reply.{Reply}
use Rattle.session.proofs.Written.{more_lines, one_line}

some_byte : (c : Command) → 0 < length (spelled c)
some_byte (Name s) = omega arith
some_byte (Vertex x y z) = lit< tt
some_byte (Triangle a b d) = lit< tt
some_byte (Open gauge) = lit< tt
some_byte (Call (Collapse u w)) = lit< tt
some_byte (Call Step) = lit< tt
some_byte (Call Split) = lit< tt
some_byte (Call Redo) = lit< tt
some_byte (Call (Go k)) = lit< tt
some_byte Write = lit< tt
some_byte End = lit< tt

-- a command takes some of the bytes
pub further : (calls : Bool) (bytes : List ℕ) (c : Command) (rest : List ℕ) → Read calls bytes c rest → length rest < length bytes
further calls bytes c rest read = omega (arith, some_byte c, ap length read.bytes_are, length-append (spelled c) rest)

-- lines that stand, after which the session goes on with the rest of the input and h held
pub record Going (calls : Bool) (input start out rest : List ℕ) (h : Held) : Type 0 where
  pub ls : List Line
  pub written : out ≡ start ++ texts ls
  pub left : length rest ≤ length input
  pub goes : (more : List Line) → Session calls (length input - length rest) rest h more → Session calls 0 input empty (ls ++ more)

-- the lines of a whole session stand
abbrev pub Done : Bool → List ℕ → List ℕ → List ℕ → Type 0
Done calls input start out = (ls : List Line) × Session calls 0 input empty ls × (out ≡ start ++ texts ls)

pub going_first : (calls : Bool) (input start : List ℕ) (h : Held) → h ≡ empty → Going calls input start start input h
going_first calls input start h e =
    let none : length input - length input ≡ 0 = omega arith in
    record {
      ls = [];
      written = sym (append-nil start);
      left = omega arith;
      goes = λ more s. subst (λ (k : Held). Session calls 0 input k more) e (subst (λ (n : ℕ). Session calls n input h more) none s);
    }

module _ (calls : Bool) (input start out bytes : List ℕ) (h : Held) (g : Going calls input start out bytes h) where
  pub done : (end : List ℕ) (more : List Line) → Session calls (length input - length bytes) bytes h more → end ≡ out ++ texts more → Done calls input start end
  done end more s e = (g.ls ++ more, g.goes more s, more_lines start out end g.ls more g.written e)

  -- the session stops where no command is read
  session_fault : (f : Fault) → ReadFault calls bytes f → Session calls (length input - length bytes) bytes h (fault_lines (length input - length bytes) f)
  session_fault fault.Over e = rw e session.Session.over
  session_fault fault.Unknown (b, rest, e, u) = rw e (session.Session.unknown u)
  session_fault fault.Missing m = session.Session.missing m

  pub done_fault : {T E : Type 0} (w : Result T E) (end : List ℕ) (f : Fault) → ReadFault calls bytes f → IfOk w (λ _. end ≡ out ++ texts (fault_lines (length input - length bytes) f)) → IfOk w (λ _. Done calls input start end)
  done_fault w end f r m = IfOk-weaker w _ _ (λ _ e. done end _ (session_fault f r) e) m

  module _ (c : Command) (rest : List ℕ) (r : Result Reply Refusal) (k : Held) (read : Read calls bytes c rest) (reply : Replied h c r k) where
    pub session_last : true ≡ stops c → Session calls (length input - length bytes) bytes h (lines (length input - length bytes) k r)
    session_last e = rw read.bytes_are (session.Session.last c rest read.known (sym e) reply)

    pub going_next : (now : List ℕ) → false ≡ stops c → now ≡ out ++ texts (lines (length input - length bytes) k r) → Going calls input start now rest k
    going_next now e w =
        let long : length bytes ≡ length (spelled c) + length rest = ap length read.bytes_are ∙ length-append (spelled c) rest in
        let place : length input - length rest ≡ length input - length bytes + length (spelled c) = omega (arith, long, g.left) in
        record {
          ls = g.ls ++ lines (length input - length bytes) k r;
          written = more_lines start out now g.ls (lines (length input - length bytes) k r) g.written w;
          left = omega (arith, long, g.left);
          goes = λ more s.
              rw append_assoc (g.goes (lines (length input - length bytes) k r ++ more)
              (subst (λ (l : List ℕ). Session calls (length input - length bytes) l h (lines (length input - length bytes) k r ++ more)) (sym read.bytes_are)
              (session.Session.next c rest more read.known (sym e) reply (subst (λ (n : ℕ). Session calls n rest k more) place s))));
        }

-- what was written where nothing stood
pub from_nothing : (start out : List ℕ) (ls : List Line) → start ≡ [] → out ≡ start ++ texts ls → out ≡ texts ls
from_nothing start out ls e w = w ∙ ap (λ (s : List ℕ). s ++ texts ls) e

pub one_from_nothing : (start out : List ℕ) (l : Line) → start ≡ [] → out ≡ start ++ text l → out ≡ texts (l ∷ [])
one_from_nothing start out l e w = from_nothing start out (l ∷ []) e (w ∙ ap (λ (t : List ℕ). start ++ t) (one_line l))
