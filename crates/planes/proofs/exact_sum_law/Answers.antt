use Rattle.planes.proofs.Exact.{exact_sum}
use Rattle.planes.proofs.exact_sum_law.Goals as goal

pub returns : goal.returns
returns c = record { stands = exact_sum }
