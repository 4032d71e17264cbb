use Rattle.std.proofs.Common.{inl, inr, refl, rules}
use Rattle.session.specs.Replies as rule
use Rattle.session.proofs.draft.Draft.name.Goals as goal
use Rattle.session.proofs.draft.Draft.name.Goals.{then-self-via-then-self, then-self-via-else-self+then-is_empty, then-self-via-else-self+else-is_empty+then-name-gt-MOST_NAME}

pub returns-then-self : goal.returns-then-self
returns-then-self c =
    elim c.then-self.branch [
      | then-self-via-then-self w ↦ record { replied = rule.Replied.refused (rule.Refuses.name (inl w.if-self.true)) }
      | then-self-via-else-self+then-is_empty w ↦ record { replied = rule.Replied.refused (rule.Refuses.name (inr (inl search rules))) }
      | then-self-via-else-self+else-is_empty+then-name-gt-MOST_NAME w ↦ record { replied = rule.Replied.refused (rule.Refuses.name (inr (inr w.if-name-gt-MOST_NAME.true))) }
    ]

pub returns : goal.returns
returns c = record { replied = rule.Replied.obeyed (rule.Obeys.name (record { first = c.if-self.false; some = search rules; short = c.if-name-gt-MOST_NAME.false }) refl) }
