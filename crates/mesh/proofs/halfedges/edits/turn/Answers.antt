use Rattle.std.proofs.Common.{◌<◌, get_or, arith}
use Rattle.surface.specs.Surface.{next}
use Rattle.surface.proofs.Tris.{next_cases}
use Rattle.mesh.proofs.halfedges.edits.turn.Goals as goal

pub overflow_cast-last : goal.overflow_cast-last
overflow_cast-last c =
    let b = c.requires.beside in
    let p : c.following-last.result < 6146 = rw (c.following-last.ensures.value, c.following.ensures.value) (omega (arith, next_cases (get_or c.args.twin.now (next c.args.f) 0), b.behind_f_next, b.few)) in
    omega arith
