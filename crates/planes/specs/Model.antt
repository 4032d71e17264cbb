-- What a gauge by planes stands for.
use Rattle.std.specs.Prelude.{ℕ, List, vec_items}
use Rattle.planes.specs.declared.planes.Planes.{Planes}
use Rattle.planes.specs.declared.quadric.Quadric.{Quadric}

-- how many vertices it takes
abbrev pub capacity : Planes → ℕ
capacity g = g.capacity

-- the entries of the opened vertices
abbrev pub account : Planes → List Quadric
account g = vec_items g.table
