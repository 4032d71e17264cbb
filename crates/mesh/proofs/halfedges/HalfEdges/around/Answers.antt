use Rattle.std.proofs.Common.{◌≡◌, get_or, vec_items}
use Rattle.surface.specs.Surface.{prev}
use Rattle.mesh.proofs.Reading.{twin_turns}
use Rattle.mesh.proofs.halfedges.HalfEdges.around.Goals as goal

pub returns : goal.returns
returns c =
    let e : c.entry.result ≡ get_or (vec_items c.args.self.now.twin) (prev c.args.h) 0 = cc (c.entry.ensures.value, c.deref.ensures.value, c.preceding.ensures.value) in
    record { turns = λ l. rw e (twin_turns _ _ c.args.self.now.twins c.args.h l) }
