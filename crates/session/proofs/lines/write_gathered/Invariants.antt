use Rattle.std.proofs.Common.{◌≡◌, ◌++◌, vec_items}
use Rattle.session.specs.Lines.{texts}
use Rattle.session.specs.Still.{gathered_lines}
use Rattle.session.proofs.lines.write_gathered.Given as goal

abbrev pub invariant-loop-t : goal.invariant-loop-t
invariant-loop-t l = vec_items l.out ≡ vec_items l.initial.out ++ texts (gathered_lines l.corners l.t)
