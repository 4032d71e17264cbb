use Rattle.mesh.proofs.Joins as joins
use Rattle.mesh.proofs.halfedges.HalfEdges.record_of.Goals as goal

pub index-requires : goal.index-requires
index-requires c = joins.e_corner c.args.self.now c.args.e c.requires.live

pub index-requires-2 : goal.index-requires-2
index-requires-2 c = joins.next_corner c.args.self.now c.args.e c.requires.live c.following.result c.following.ensures.value

pub returns : goal.returns
returns c =
    record {
      value =
          joins.record_is c.args.self.now c.args.e c.requires.live c.index.result.now c.following.result c.index-2.result.now
          c.index.ensures c.following.ensures.value c.index-2.ensures;
    }
