use Rattle.std.proofs.Common.{◌≡◌, ℕ, Bool, false, List, refl, subst, pos, Bor}
use Rattle.std.proofs.lemmas.Bool.{both_ways}
use Rattle.judging.specs.declared.verdict.Counts.{Counts}
use Rattle.ledger.specs.declared.call.Call.{Call as A-call}
use Rattle.session.specs.Replies as rule
use Rattle.session.specs.Replies.{Gathers, Works}
use Rattle.session.specs.Spelled.{Known}
use Rattle.session.specs.declared.command.Command.{Command}
use Rattle.session.specs.declared.command.Command.TheVariants.{Name, Vertex, Triangle, Open, Call, Write, End}
use Rattle.session.proofs.Hulls.{hull_counted, hull_called}
use Rattle.session.proofs.Stills.{still_counted}
use Rattle.session.proofs.state.State.obey.Goals as goal

-- what is left of the commands, once some are dealt with
works : (c : Command) → ((s : Bor (List ℕ)) → c ≡ Name s → ⊥) → ((x y z : ℕ) → c ≡ Vertex x y z → ⊥) → ((x y z : ℕ) → c ≡ Triangle x y z → ⊥) → ((k : ℕ) → c ≡ Open k → ⊥) → (c ≡ End → ⊥) → Works c
works (Name s) n v t o e = n s refl
works (Vertex x y z) n v t o e = v x y z refl
works (Triangle x y z) n v t o e = t x y z refl
works (Open k) n v t o e = o k refl
works (Call c) n v t o e = tt
works Write n v t o e = tt
works End n v t o e = e refl

gathers : (c : Command) → ((x : A-call) → c ≡ Call x → ⊥) → (c ≡ Write → ⊥) → (c ≡ End → ⊥) → Gathers c
gathers (Name s) x w e = tt
gathers (Vertex a b c) x w e = tt
gathers (Triangle a b c) x w e = tt
gathers (Open k) x w e = tt
gathers (Call c) x w e = x c refl
gathers Write x w e = w refl
gathers End x w e = e refl

-- where there are no calls, none is known
no_call : (calls : Bool) (c : Command) → calls ≡ false → Known calls c → (x : A-call) → c ≡ Call x → ⊥
no_call calls c f k x e = both_ways calls f (subst (λ (d : Command). Known calls d) e k)

no_counts : (n : Counts) → (n.vertices ≡ 0) × ((n.triangles ≡ 0) × ((n.euler ≡ pos 0) × (n.pieces ≡ 0))) → n ≡ record { vertices = 0; triangles = 0; euler = pos 0; pieces = 0 }
no_counts n (v, (t, (e, p))) =
    let whole : record { vertices = n.vertices; triangles = n.triangles; euler = n.euler; pieces = n.pieces } ≡ record { vertices = 0; triangles = 0; euler = pos 0; pieces = 0 } = rw (v, t, e, p) refl in
    whole

pub returns-in-End-clause-replied : goal.returns-in-End-clause-replied
returns-in-End-clause-replied g c = rw (c.in-Gathering.is, c.in-End.is, no_counts c.default.result c.default.ensures) (rule.Replied.obeyed rule.Obeys.end_early)

pub returns-in_default-clause-replied : goal.returns-in_default-clause-replied
returns-in_default-clause-replied g c =
    let d = c.in_default in
    rw c.in-Gathering.is (rule.Replied.refused (rule.Refuses.not_opened _ (works c.args.command d.not-Name d.not-Vertex d.not-Triangle c.requires.no_opening d.not-End)))

pub returns-in-Write-clause-replied : goal.returns-in-Write-clause-replied
returns-in-Write-clause-replied g c = rw (c.in-Still.is, c.in-Write.is) (rule.Replied.obeyed rule.Obeys.write)

pub returns-in-End-command-clause-replied : goal.returns-in-End-command-clause-replied
returns-in-End-command-clause-replied g c =
    let f = rw c.in-Still.is at c.requires.fit in
    rw (c.in-Still.is, c.in-End-command.is) (rule.Replied.obeyed (rule.Obeys.end (still_counted c.in-Still.still f.1)))

pub returns-in_default-command-clause-replied : goal.returns-in_default-command-clause-replied
returns-in_default-command-clause-replied g c =
    let d = c.in_default-command in
    let f = rw c.in-Still.is at c.requires.fit in
    rw c.in-Still.is (rule.Replied.refused (rule.Refuses.already_opened _ (gathers c.args.command (no_call _ c.args.command f.0 c.requires.known) d.not-Write d.not-End)))

pub returns-in-Call-clause-replied : goal.returns-in-Call-clause-replied
returns-in-Call-clause-replied g c =
    rw (c.in-Opened.is, c.in-Call.is)
    (hull_called c.in-Opened.hull c.call.new.self c.in-Call.call c.call.result c.call.ensures.gauge c.call.ensures.replied)

pub returns-in-Write-command-clause-replied : goal.returns-in-Write-command-clause-replied
returns-in-Write-command-clause-replied g c = rw (c.in-Opened.is, c.in-Write-command.is) (rule.Replied.obeyed rule.Obeys.write)

pub returns-in-End-command-2-clause-replied : goal.returns-in-End-command-2-clause-replied
returns-in-End-command-2-clause-replied g c =
    rw (c.in-Opened.is, c.in-End-command-2.is) (rule.Replied.obeyed (rule.Obeys.end (hull_counted c.in-Opened.hull c.counts.result c.counts.ensures.counted)))

pub returns-in_default-command-2-clause-replied : goal.returns-in_default-command-2-clause-replied
returns-in_default-command-2-clause-replied g c =
    let d = c.in_default-command-2 in
    rw c.in-Opened.is (rule.Replied.refused (rule.Refuses.already_opened _ (gathers c.args.command d.not-Call d.not-Write d.not-End)))
