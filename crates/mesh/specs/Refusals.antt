-- The numbers of the refusals of a collapse, and when each is given.
use Rattle.std.specs.Prelude.{ℕ, Ok, Err, Result}
use Rattle.surface.specs.Surface.{Surface, Tri, Side}
use Rattle.surface.specs.Closed.{Closed}
use Rattle.surface.specs.Geometry.{Vector}
use Rattle.surface.specs.Collapse.{collapse}
use Rattle.surface.specs.Permitted.{Upright, Permitted}
use Rattle.mesh.specs.declared.mesh.permits.CollapseRefusal.{CollapseRefusal}
use Rattle.mesh.specs.declared.mesh.permits.CollapseRefusal.TheVariants.{NoSide, NotClosed, Folds}

abbrev pub refusal_number : CollapseRefusal → ℕ
refusal_number NoSide = 13
refusal_number NotClosed = 14
refusal_number Folds = 15

-- why the collapse of u to w is refused: the first of the three rules that it breaks; P gives the points of the vertices
abbrev pub Refused : Surface → (ℕ → Vector) → ℕ → ℕ → CollapseRefusal → Type 0
Refused S P u w NoSide = Side S u w → ⊥
Refused S P u w NotClosed = Side S u w × (Closed (collapse S u w) → ⊥)
Refused S P u w Folds = Side S u w × Closed (collapse S u w) × (Upright S P u w → ⊥)

-- the answer to the question whether u may be collapsed to w: the half-edge from u to w, or a refusal
abbrev pub Permit : Surface → (ℕ → Vector) → ℕ → ℕ → Result ℕ CollapseRefusal → Type 0
Permit S P u w (Ok e) = Permitted S P u w × ((c : ℕ) × Tri S e u w c)
Permit S P u w (Err x) = Refused S P u w x
