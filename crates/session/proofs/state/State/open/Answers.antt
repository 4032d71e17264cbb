use Rattle.std.proofs.Common.{◌≡◌, ℕ, Err, refl}
use Rattle.session.specs.Held.{held}
use Rattle.session.specs.Replies as rule
use Rattle.session.specs.Replies.{Replied}
use Rattle.session.specs.declared.command.Command.TheVariants.{Open}
use Rattle.session.specs.declared.draft.Draft.{Draft}
use Rattle.session.specs.declared.refusal.Refusal.TheVariants.{OtherState}
use Rattle.session.specs.declared.state.State.{State}
use Rattle.session.specs.declared.state.State.TheVariants.{Gathering, Still, Opened}
use Rattle.session.proofs.state.State.open.Goals as goal

-- what is opened is not opened again
refuses : (s : State) (k : ℕ) → ((d : Draft) → s ≡ Gathering d → ⊥) → Replied (held s) (Open k) (Err OtherState) (held s)
refuses (Gathering d) k n = absurd (n d refl)
refuses (Still s) k n = rule.Replied.refused (rule.Refuses.already_opened _ tt)
refuses (Opened h) k n = rule.Replied.refused (rule.Refuses.already_opened _ tt)

pub returns-in_default-clause-replied : goal.returns-in_default-clause-replied
returns-in_default-clause-replied g c = refuses c.args.self c.args.number c.in_default.not-Gathering
