use Rattle.planes.proofs.Quadrics.{at_nested}
use Rattle.planes.proofs.quadric.Quadric.at.Goals as goal

pub returns : goal.returns
returns c =
    record {
      value =
          at_nested c.args.self c.args.p c.affine-along_x.result c.affine-along_y.result c.affine-along_z.result c.affine.result
          c.affine-along_x.ensures.value c.affine-along_y.ensures.value c.affine-along_z.ensures.value c.affine.ensures.value;
    }
