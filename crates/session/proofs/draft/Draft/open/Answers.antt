use Rattle.session.specs.Replies as rule
use Rattle.session.proofs.draft.Draft.open.Goals as goal

pub returns-in-Err-clause-replied : goal.returns-in-Err-clause-replied
returns-in-Err-clause-replied g c = let e = c.in-Err.ensures in rw e.0 (rule.Replied.refused (rule.Refuses.no_gauge e.1))
