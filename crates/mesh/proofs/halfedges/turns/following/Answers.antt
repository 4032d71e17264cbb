use Rattle.std.proofs.Common.{arith}
use Rattle.surface.proofs.Tris.{next_cases}
use Rattle.mesh.proofs.halfedges.turns.following.Goals as goal

pub returns-then-h-eq2 : goal.returns-then-h-eq2
returns-then-h-eq2 c = record { value = omega (arith, next_cases c.args.h) }

pub returns-else-h-eq2 : goal.returns-else-h-eq2
returns-else-h-eq2 c = record { value = omega (arith, next_cases c.args.h) }
