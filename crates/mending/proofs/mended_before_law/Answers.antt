use Rattle.mending.proofs.StillRight.{mended_before}
use Rattle.mending.proofs.mended_before_law.Goals as goal

pub returns : goal.returns
returns g c = record { stands = mended_before g.G.Gauge }
