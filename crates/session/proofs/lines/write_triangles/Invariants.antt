use Rattle.std.proofs.Common.{◌≡◌, ◌++◌, vec_items}
use Rattle.mesh.specs.Model.{held}
use Rattle.session.specs.Lines.{texts, triangle_lines}
use Rattle.session.proofs.lines.write_triangles.Given as goal

abbrev pub invariant-loop-t : goal.invariant-loop-t
invariant-loop-t l = vec_items l.out ≡ vec_items l.initial.out ++ texts (triangle_lines (held l.edges) l.t)
