-- What a price means: the volumes that are swept, over the number of the triangles that are moved.
use Rattle.std.specs.Prelude.{◌≡◌, ℕ, ◌≤◌, Option}
use Rattle.surface.specs.Surface.{Side}
use Rattle.mesh.specs.Model.{surface, points}
use Rattle.mesh.specs.declared.mesh.Mesh.{Mesh}
use Rattle.gauge.specs.Near.{Placed, near}
use Rattle.sweep.specs.Prices.{price}
use Rattle.sweep.specs.Sweeps.{volume_swept, number_moved}

-- on a mesh, wherever it stands on its log: where (u, w) is a side, some triangle is moved and no more than 2,048 are, and the price is
-- the sum of the sizes of the moved triangles' six-volumes at the point of w, over their number
abbrev pub ExactFraction : Type 0
ExactFraction =
    (m : Mesh) (u w : ℕ) → Side (surface m) u w →
    let at : ℕ → Option Placed = near (surface m) (points m) u w in
    (1 ≤ number_moved u w at) × (number_moved u w at ≤ 2048) × ((price u w (points m w) at).amount ≡ volume_swept u w (points m w) at) × ((price u w (points m w) at).divisor ≡ number_moved u w at)
