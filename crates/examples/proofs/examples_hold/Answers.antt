use Rattle.examples.proofs.Examples.{examples}
use Rattle.examples.proofs.examples_hold.Goals as goal

pub returns : goal.returns
returns c = record { hold = examples }
