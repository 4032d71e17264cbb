use Rattle.std.proofs.Common.{arith}
use Rattle.surface.specs.Surface.{next}
use Rattle.surface.proofs.Tris.{next_cases}
use Rattle.mesh.proofs.halfedges.turns.preceding.Goals as goal

pub returns-then-h-eq0 : goal.returns-then-h-eq0
returns-then-h-eq0 c = record { value = omega (arith, next_cases c.args.h, next_cases (next c.args.h)) }

pub returns-else-h-eq0 : goal.returns-else-h-eq0
returns-else-h-eq0 c = record { value = omega (arith, next_cases c.args.h, next_cases (next c.args.h)) }
