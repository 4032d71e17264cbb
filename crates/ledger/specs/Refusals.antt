-- Why a vertex is not collapsed to another, as a refusal of a call.
use Rattle.mesh.specs.declared.mesh.permits.CollapseRefusal.{CollapseRefusal}
use Rattle.mesh.specs.declared.mesh.permits.CollapseRefusal.TheVariants.{NoSide as no_side, NotClosed as not_closed, Folds as folds}
use Rattle.ledger.specs.declared.call.Refusal.{Refusal}
use Rattle.ledger.specs.declared.call.Refusal.TheVariants.{NoSide, NotClosed, Folds}

abbrev pub refusal_of : CollapseRefusal → Refusal
refusal_of no_side = NoSide
refusal_of not_closed = NotClosed
refusal_of folds = Folds
