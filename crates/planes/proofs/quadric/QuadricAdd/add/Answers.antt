use Rattle.std.proofs.Common.{refl}
use Rattle.planes.specs.Quadrics.{plus}
use Rattle.planes.proofs.quadric.QuadricAdd.add.Goals as goal

pub returns : goal.returns
unfolding plus
returns c = refl
