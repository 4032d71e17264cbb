use Rattle.surface.proofs.Sides.{sides_counted}
use Rattle.surface.proofs.sides_counted_law.Goals as goal

pub returns : goal.returns
returns c = record { stands = sides_counted }
