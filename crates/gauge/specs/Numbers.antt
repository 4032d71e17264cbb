-- The numbers of a gauge's refusals.
use Rattle.std.specs.Prelude.{ℕ}

-- there are more vertices than the gauge takes
abbrev pub too_many_vertices_number : ℕ
too_many_vertices_number = 12

-- the two are not two opened vertices
abbrev pub no_pair_number : ℕ
no_pair_number = 13
