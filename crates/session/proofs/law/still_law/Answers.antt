use Rattle.session.proofs.Stills.{stays_opened, keeps_opened, writes_gathered, ends_with_counts}
use Rattle.session.proofs.law.still_law.Goals as goal

pub returns : goal.returns
returns c = record { stays = stays_opened; keeps = keeps_opened; writes = writes_gathered; ends = ends_with_counts }
