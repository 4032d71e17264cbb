use Rattle.std.proofs.Common.{refl}
use Rattle.planes.specs.Quadrics.{minus}
use Rattle.planes.proofs.quadric.QuadricSub.sub.Goals as goal

pub returns : goal.returns
unfolding minus
returns c = refl
