use Rattle.mesh.proofs.Rings.{set_out}
use Rattle.mesh.proofs.halfedges.HalfEdges.ring.Goals as goal

pub invariant_of-result : goal.invariant_of-result
invariant_of-result c = record { returns = (set_out c.args.self.now c.args.v _ c.outgoing-ahead.result c.unwrap_or.ensures c.outgoing-ahead.ensures.begins).0 }

pub returns-clause-round : goal.returns-clause-round
returns-clause-round c = (set_out c.args.self.now c.args.v _ c.outgoing-ahead.result c.unwrap_or.ensures c.outgoing-ahead.ensures.begins).1

pub returns-clause-none : goal.returns-clause-none
returns-clause-none c = (set_out c.args.self.now c.args.v _ c.outgoing-ahead.result c.unwrap_or.ensures c.outgoing-ahead.ensures.begins).2
