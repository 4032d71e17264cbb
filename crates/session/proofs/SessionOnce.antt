-- A session has one list of lines.
use Rattle.std.proofs.Common.{◌≡◌, ℕ, ◌+◌, Bool, true, false, List, [], ◌∷◌, ◌++◌, length, Result, sym, refl, ap, ◌∙◌, subst, arith}
use Rattle.session.specs.Held.{Held}
use Rattle.session.specs.Laws.{OneAnswer}
use Rattle.session.specs.Lines.{Line}
use Rattle.session.specs.Replies.{Replied}
use Rattle.session.specs.Session as session
use Rattle.session.specs.Session.{Session, Answered, lines, fault_lines}
use Rattle.session.specs.Spelled.{spelled, stops, Known}
use Rattle.session.specs.declared.command.Command.{Command}
use Rattle.session.specs.declared.command.Command.TheVariants.{End}
use Rattle.session.specs.declared.command.Fault.{Fault}
use Rattle.session.specs.declared.command.Fault.TheVariants as fault
use Rattle.session.specs.declared.refusal.Refusal.{Refusal}
use Rattle.session.specs.declared.reply.Reply.{Reply}
use Rattle.session.proofs.Decoded.{got, not, decoded, made, decoded_spelled, decoded_missing, decoded_unknown, Alike, alike, alike_spelled, alike_stops, rest_same}
use Rattle.session.proofs.RepliedOnce.{replied_once, replied_alike}

-- how the lines came about, by the front of the bytes
data Way (calls : Bool) (at : ℕ) (bytes : List ℕ) (h : Held) (ls : List Line) : Type 0 where
  stopped : (f : Fault) → decoded calls (λ l. End) bytes ≡ not f → ls ≡ fault_lines at f → Way calls at bytes h ls
  last : (c : Command) (rest : List ℕ) (k : Held) (r : Result Reply Refusal) → bytes ≡ spelled c ++ rest → Known calls c → stops c ≡ true → Replied h c r k → ls ≡ lines at k r → Way calls at bytes h ls
  next : (c : Command) (rest : List ℕ) (k : Held) (r : Result Reply Refusal) (more : List Line) → bytes ≡ spelled c ++ rest → Known calls c → stops c ≡ false → Replied h c r k → Session calls (at + length (spelled c)) rest k more → ls ≡ lines at k r ++ more → Way calls at bytes h ls

way : {calls : Bool} {at : ℕ} {bytes : List ℕ} {h : Held} {ls : List Line} → Session calls at bytes h ls → Way calls at bytes h ls
way session.Session.over = stopped fault.Over refl refl
way {calls} (session.Session.unknown {b} {rest} u) = stopped fault.Unknown (decoded_unknown calls (λ l. End) b rest u) refl
way {calls} (session.Session.missing m) = stopped fault.Missing (decoded_missing calls (λ l. End) m) refl
way (session.Session.last {k} {r} c rest w e a) = last c rest k r refl w e a refl
way (session.Session.next {k} {r} c rest more w e a s) = next c rest k r more refl w e a s refl

-- the front is a fault or a command, not both
fault_or_command : {A : Type 0} (calls : Bool) (bytes : List ℕ) (f : Fault) (c : Command) (rest : List ℕ) → Known calls c → decoded calls (λ l. End) bytes ≡ not f → bytes ≡ spelled c ++ rest → A
fault_or_command calls bytes f c rest w e p =
    let q : decoded calls (λ l. End) bytes ≡ got (made (λ l. End) c) rest = ap (decoded calls (λ l. End)) p ∙ decoded_spelled calls (λ l. End) c rest w in
    let z : ◌≡◌ {A = ℕ} 0 1 = cc in
    absurd (omega arith)

stopped_once : (calls : Bool) (at : ℕ) (bytes : List ℕ) (h : Held) (ms : List Line) (f : Fault) → decoded calls (λ l. End) bytes ≡ not f → Way calls at bytes h ms → fault_lines at f ≡ ms
stopped_once calls at bytes h ms f e (stopped g d p) = let q : f ≡ g = cc in ap (fault_lines at) q ∙ sym p
stopped_once calls at bytes h ms f e (last c rest k r p w q a m) = fault_or_command calls bytes f c rest w e p
stopped_once calls at bytes h ms f e (next c rest k r more p w q a s m) = fault_or_command calls bytes f c rest w e p

either_stops : {A : Type 0} (c d : Command) → Alike c d → stops c ≡ true → stops d ≡ false → A
either_stops c d a e f = let g = alike_stops a in let z : ◌≡◌ {A = ℕ} 0 1 = cc in absurd (omega arith)

module _ (calls : Bool) (at : ℕ) (h : Held) (c : Command) (rest : List ℕ) (k : Held) (r : Result Reply Refusal) (w : Known calls c) (a : Replied h c r k) where
  last_once : (ms : List Line) → stops c ≡ true → Way calls at (spelled c ++ rest) h ms → lines at k r ≡ ms
  last_once ms e (stopped f d p) = fault_or_command calls (spelled c ++ rest) f c rest w d refl
  last_once ms e (last d more l s p v q b m) = (replied_once a (replied_alike (alike calls c d rest more w v p) b)).1 at ∙ sym m
  last_once ms e (next d more l s ns p v q b t m) = either_stops c d (alike calls c d rest more w v p) e q

  next_once : (more ms : List Line) → stops c ≡ false → ((ns : List Line) → Session calls (at + length (spelled c)) rest k ns → more ≡ ns) → Way calls at (spelled c ++ rest) h ms → lines at k r ++ more ≡ ms
  next_once more ms e ih (stopped f d p) = fault_or_command calls (spelled c ++ rest) f c rest w d refl
  next_once more ms e ih (last d tail l s p v q b m) = either_stops d c (alike calls d c tail rest v w (sym p)) q e
  next_once more ms e ih (next d tail l s ns p v q b t m) =
      let same = alike calls c d rest tail w v p in
      let once = replied_once a (replied_alike same b) in
      let place : at + length (spelled d) ≡ at + length (spelled c) = ap (λ (x : List ℕ). at + length x) (sym (alike_spelled same)) in
      let t₁ = subst (λ (n : ℕ). Session calls n tail l ns) place t in
      let t₂ = subst (λ (x : List ℕ). Session calls (at + length (spelled c)) x l ns) (sym (rest_same calls c d rest tail w v p)) t₁ in
      let t₃ = subst (λ (x : Held). Session calls (at + length (spelled c)) rest x ns) (sym once.0) t₂ in
      ap (λ (x : List Line). x ++ more) (once.1 at) ∙ ap (λ (x : List Line). lines at l s ++ x) (ih ns t₃) ∙ sym m

session_once : {calls : Bool} {at : ℕ} {bytes : List ℕ} {h : Held} {ls : List Line} → Session calls at bytes h ls → (ms : List Line) → Session calls at bytes h ms → ls ≡ ms
session_once {calls} {at} {h} session.Session.over ms t = stopped_once calls at [] h ms fault.Over refl (way t)
session_once {calls} {at} {h} (session.Session.unknown {b} {rest} u) ms t = stopped_once calls at (b ∷ rest) h ms fault.Unknown (decoded_unknown calls (λ l. End) b rest u) (way t)
session_once {calls} {at} {bytes} {h} (session.Session.missing m) ms t = stopped_once calls at bytes h ms fault.Missing (decoded_missing calls (λ l. End) m) (way t)
session_once {calls} {at} {h} (session.Session.last {k} {r} c rest w e a) ms t = last_once calls at h c rest k r w a ms e (way t)
session_once {calls} {at} {h} (session.Session.next {k} {r} c rest more w e a s) ms t = next_once calls at h c rest k r w a more ms e (session_once s) (way t)

pub answered_once : OneAnswer
answered_once calls input ls ms (session.Answered.too_long l) (session.Answered.too_long k) = refl
answered_once calls input ls ms (session.Answered.too_long l) (session.Answered.read k t) = absurd (omega arith)
answered_once calls input ls ms (session.Answered.read l s) (session.Answered.too_long k) = absurd (omega arith)
answered_once calls input ls ms (session.Answered.read l s) (session.Answered.read k t) = session_once s ms t
