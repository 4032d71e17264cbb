use Rattle.surface.proofs.LocalTest.{local_test}
use Rattle.surface.proofs.local_test_law.Goals as goal

pub returns : goal.returns
returns c = record { stands = local_test }
