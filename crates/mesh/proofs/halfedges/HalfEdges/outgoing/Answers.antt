use Rattle.std.proofs.Common.{◌≡◌, get_or, vec_items, arith, subst, sym}
use Rattle.std.proofs.lemmas.Grind.{common_steps}
use Rattle.surface.specs.Read.{read}
use Rattle.mesh.specs.Model.{held}
use Rattle.mesh.specs.Reads.{Outgoing}
use Rattle.mesh.proofs.Reading.{outgoing_told}
use Rattle.mesh.proofs.halfedges.HalfEdges.outgoing.Goals as goal

pub returns : goal.returns
unfolding read
returns c =
    let e = c.args.self.now in
    let live : c.unwrap_or-live.result ≡ (held e).present c.args.v = grind (arith, common_steps) in
    let h : c.entry.result ≡ get_or (vec_items e.out) c.args.v 0 = cc (c.entry.ensures.value, c.deref-2.ensures.value, c.from-i.ensures) in
    record { begins = subst (Outgoing (held e) c.args.v) (sym c.then_some.ensures) (outgoing_told _ _ e.outs c.args.v _ _ live h) }
