-- The account of a sweep: nothing is kept for a vertex.
use Rattle.std.specs.Prelude.{List, replicate}
use Rattle.sweep.specs.declared.Sweep.{Sweep}

abbrev pub entries : Sweep → List (Unit {0})
entries s = replicate s.count tt
