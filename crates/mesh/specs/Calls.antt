-- What the calls on a mesh answer and leave.
use Rattle.std.specs.Prelude.{◌≡◌, ℕ, ◌+◌, ◌≤◌, [], ◌∷◌, ◌++◌, length, take, Some, None, Ok, Err, Option, Result}
use Rattle.surface.specs.Permitted.{Permitted}
use Rattle.mesh.specs.Model.{surface, points, log}
use Rattle.mesh.specs.Moves.{SameOpening, Advanced}
use Rattle.mesh.specs.Refusals.{Refused}
use Rattle.mesh.specs.Stages.{record_at}
use Rattle.mesh.specs.declared.mesh.Mesh.{Mesh}
use Rattle.mesh.specs.declared.mesh.permits.CollapseRefusal.{CollapseRefusal}
use Rattle.mesh.specs.declared.record.Record.{Record}

-- u is collapsed to w: the record stands at the position, nothing lies ahead, and the position is behind it
pub record Done (m : Mesh) (u w : ℕ) (n : Mesh) : Type 0 where
  pub permitted : Permitted (surface m) (points m) u w
  pub opening_same : SameOpening m n
  pub log_cut : log n ≡ take m.position (log m) ++ record { u = u; w = w } ∷ []
  pub position_next : n.position ≡ m.position + 1

-- the answer to a collapse of u to w, which is refused by the first rule that it breaks and then changes nothing
abbrev pub Collapse : Mesh → ℕ → ℕ → Result Unit CollapseRefusal → Mesh → Type 0
Collapse m u w (Ok r) n = Done m u w n
Collapse m u w (Err x) n = Refused (surface m) (points m) u w x × (n ≡ m)

-- the answer to doing the next record ahead
abbrev pub Redo : Mesh → Option Record → Mesh → Type 0
Redo m None n = (length (log m) ≤ m.position) × (n ≡ m)
Redo m (Some r) n = Advanced m n × (r ≡ record_at (log m) m.position)
