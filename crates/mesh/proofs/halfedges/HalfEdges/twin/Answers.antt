use Rattle.std.proofs.Common.{◌≡◌, get_or, vec_items}
use Rattle.mesh.proofs.halfedges.HalfEdges.twin.Goals as goal

pub returns : goal.returns
returns c =
    let e : c.entry.result ≡ get_or (vec_items c.args.self.now.twin) c.args.h 0 = cc (c.entry.ensures.value, c.deref.ensures.value, c.from.ensures) in
    record { runs_opposite = λ l. rw e (c.args.self.now.twins c.args.h l) }
