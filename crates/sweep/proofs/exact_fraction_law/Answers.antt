use Rattle.sweep.proofs.Costs.{exact_fraction}
use Rattle.sweep.proofs.exact_fraction_law.Goals as goal

pub returns : goal.returns
returns c = record { stands = exact_fraction }
