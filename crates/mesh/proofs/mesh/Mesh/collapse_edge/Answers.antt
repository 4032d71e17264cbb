use Rattle.mesh.proofs.Meshes as meshes
use Rattle.mesh.proofs.mesh.Mesh.collapse_edge.Goals as goal

pub advance-requires : goal.advance-requires
advance-requires c =
    let m = c.args.self.now in
    record {
      ahead = meshes.noted_ahead m c.args.e c.record_of-r.result c.note.new.self c.record_of-r.ensures.value c.note.ensures.noted;
      live = meshes.noted_live m c.args.e c.record_of-r.result c.note.new.self c.record_of-r.ensures.value c.note.ensures.noted c.requires.live;
      same = meshes.noted_same m c.args.e c.record_of-r.result c.note.new.self c.record_of-r.ensures.value c.note.ensures.noted;
    }
