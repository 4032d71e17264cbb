-- A call on an opened surface has one reply.
use Rattle.std.proofs.Common.{◌≡◌, ℕ, Bool, true, false, Ok, Err, Result, refl, ap, ◌∙◌}
use Rattle.std.proofs.lemmas.Bool.{both_ways}
use Rattle.order.specs.declared.Ordered.{Ghosts as Order}
use Rattle.gauge.specs.declared.Gauge.{Ghosts}
use Rattle.ledger.specs.Agree.{Agree, same, moves}
use Rattle.ledger.specs.Book.{Book}
use Rattle.ledger.specs.declared.call.Answer.{Answer}
use Rattle.ledger.specs.declared.call.Answer.TheVariants.{Collapsed, Stepped, Split, Redone, Went, Refused}
use Rattle.ledger.specs.declared.call.Call.{Call}
use Rattle.ledger.specs.declared.call.Refusal.{Refusal as CallRefusal}
use Rattle.ledger.proofs.Singles.{entry_one}
use Rattle.session.specs.Calls as rule
use Rattle.session.specs.Calls.{CallReplied, RepliedOn, priced}
use Rattle.session.specs.Held.{Held, opened}
use Rattle.planes.specs.Meaning.{by_planes, whole_order}
use Rattle.sweep.specs.Meaning.{by_sweep, fraction_order}
use Rattle.session.specs.Session.{lines}
use Rattle.session.specs.declared.gauges.Gauge.{Gauge}
use Rattle.session.specs.declared.gauges.Gauge.TheVariants.{Planes, Sweep}
use Rattle.session.specs.declared.refusal.Refusal.{Refusal}
use Rattle.session.specs.declared.refusal.Refusal.TheVariants as no
use Rattle.session.specs.declared.reply.Reply.{Reply}
use Rattle.session.specs.declared.reply.Reply.TheVariants as reply

-- the same is held, and the same lines are said
abbrev pub Once : Held → Result Reply Refusal → Held → Result Reply Refusal → Type 0
Once h r k s = (h ≡ k) × ((at : ℕ) → lines at h r ≡ lines at k s)

abbrev is_refused : {C : Type 0} → Answer C → Bool
is_refused (Collapsed x) = false
is_refused (Stepped u w x) = false
is_refused (Split k) = false
is_refused (Redone k) = false
is_refused (Went k) = false
is_refused (Refused x) = true

module _ {G C E S : Type 0} (m : Ghosts G C E S) (o : Order C) (s : S) where
  -- the reply to an answer is fixed by the answer
  same_refused : {r t : Answer C} → Agree r t → is_refused r ≡ is_refused t
  same_refused same = refl
  same_refused moves = refl

  collapsed_once : {x y : C} (u w : ℕ) → Agree (Collapsed x) (Collapsed y) → priced m u w x ≡ priced m u w y
  collapsed_once u w same = refl

  stepped_once : {u w p q : ℕ} {x y : C} → Agree (Stepped u w x) (Stepped p q y) → priced m u w x ≡ priced m p q y
  stepped_once same = refl

  split_once : {j k : ℕ} → Agree {C = C} (Split j) (Split k) → reply.Split j ≡ reply.Split k
  split_once same = refl

  redone_once : {j k : ℕ} → Agree {C = C} (Redone j) (Redone k) → reply.Redone j ≡ reply.Redone k
  redone_once same = refl

  refused_once : {x y : CallRefusal} → Agree {C = C} (Refused x) (Refused y) → x ≡ y
  refused_once same = refl

  call_once : {b d e : Book} {c : Call} {r t : Result Reply Refusal} → CallReplied m o s b c r d → CallReplied m o s b c t e → (d ≡ e) × (r ≡ t)
  call_once (rule.CallReplied.collapsed {u} {w} x) (rule.CallReplied.collapsed y) = let (p, a) = entry_one m o s x y in (p, ap (λ k. Ok (reply.Collapsed k)) (collapsed_once u w a))
  call_once (rule.CallReplied.collapsed x) (rule.CallReplied.refused y) = let (p, a) = entry_one m o s x y in absurd (both_ways false refl (same_refused a))
  call_once (rule.CallReplied.stepped x) (rule.CallReplied.stepped y) = let (p, a) = entry_one m o s x y in (p, ap (λ k. Ok (reply.Stepped k)) (stepped_once a))
  call_once (rule.CallReplied.stepped x) (rule.CallReplied.refused y) = let (p, a) = entry_one m o s x y in absurd (both_ways false refl (same_refused a))
  call_once (rule.CallReplied.split x) (rule.CallReplied.split y) = let (p, a) = entry_one m o s x y in (p, ap Ok (split_once a))
  call_once (rule.CallReplied.split x) (rule.CallReplied.refused y) = let (p, a) = entry_one m o s x y in absurd (both_ways false refl (same_refused a))
  call_once (rule.CallReplied.redone x) (rule.CallReplied.redone y) = let (p, a) = entry_one m o s x y in (p, ap Ok (redone_once a))
  call_once (rule.CallReplied.redone x) (rule.CallReplied.refused y) = let (p, a) = entry_one m o s x y in absurd (both_ways false refl (same_refused a))
  call_once (rule.CallReplied.went x) (rule.CallReplied.went y) = let (p, a) = entry_one m o s x y in (p, refl)
  call_once (rule.CallReplied.went x) (rule.CallReplied.refused y) = let (p, a) = entry_one m o s x y in absurd (both_ways false refl (same_refused a))
  call_once (rule.CallReplied.refused x) (rule.CallReplied.collapsed y) = let (p, a) = entry_one m o s y x in absurd (both_ways false refl (same_refused a))
  call_once (rule.CallReplied.refused x) (rule.CallReplied.stepped y) = let (p, a) = entry_one m o s y x in absurd (both_ways false refl (same_refused a))
  call_once (rule.CallReplied.refused x) (rule.CallReplied.split y) = let (p, a) = entry_one m o s y x in absurd (both_ways false refl (same_refused a))
  call_once (rule.CallReplied.refused x) (rule.CallReplied.redone y) = let (p, a) = entry_one m o s y x in absurd (both_ways false refl (same_refused a))
  call_once (rule.CallReplied.refused x) (rule.CallReplied.went y) = let (p, a) = entry_one m o s y x in absurd (both_ways false refl (same_refused a))
  call_once (rule.CallReplied.refused x) (rule.CallReplied.refused y) = let (p, a) = entry_one m o s x y in (p, ap (λ x. Err (no.Call x)) (refused_once a))

on_once : (on : Gauge) (b d e : Book) (c : Call) (r t : Result Reply Refusal) → RepliedOn on b c r d → RepliedOn on b c t e → (d ≡ e) × (r ≡ t)
on_once Planes b d e c r t x y = call_once by_planes whole_order tt x y
on_once Sweep b d e c r t x y = call_once by_sweep fraction_order tt x y

both_once : (on : Gauge) (d e : Book) (r t : Result Reply Refusal) → (d ≡ e) × (r ≡ t) → Once (opened on d) r (opened on e) t
both_once on d e r t (p, q) = (ap (opened on) p, λ at. ap (λ (x : Book). lines at (opened on x) r) p ∙ ap (lines at (opened on e)) q)

pub called_once : (on : Gauge) (b d e : Book) (c : Call) (r t : Result Reply Refusal) → RepliedOn on b c r d → RepliedOn on b c t e → Once (opened on d) r (opened on e) t
called_once on b d e c r t x y = both_once on d e r t (on_once on b d e c r t x y)
