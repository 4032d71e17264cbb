use Rattle.mending.proofs.StillRight.{mended_after}
use Rattle.mending.proofs.mended_after_law.Goals as goal

pub returns : goal.returns
returns g c = record { stands = mended_after g.G.Gauge }
