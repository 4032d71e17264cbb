use Rattle.std.proofs.Common.{arith}
use Rattle.drawing.proofs.Quarters.{quarter_right}
use Rattle.drawing.proofs.point.quarter.Goals as goal

pub returns : goal.returns
returns c = record { quartered = quarter_right c.args.n (omega arith) }
