use Rattle.std.proofs.Common.{pos, ap, ◌∙◌, arith}
use Rattle.planes.specs.Quadrics.{square_of}
use Rattle.planes.proofs.Quadrics.{quadric_made}
use Rattle.planes.proofs.quadric.quadric_of.Goals as goal

pub returns : goal.returns
returns c =
    record {
      value =
          quadric_made c.args.p c.args.q c.args.r c.normal_of-n.result c.cast_unsigned-x.result c.cast_unsigned-y.result c.cast_unsigned-z.result
          c.affine-offset.result c.square_of.result c.normal_of-n.ensures.value c.normal_of-n.ensures.bound
          c.cast_unsigned-x.ensures c.cast_unsigned-y.ensures c.cast_unsigned-z.ensures c.affine-offset.ensures.value
          (c.square_of.ensures.value ∙ ap (λ t. square_of (pos c.cast_unsigned-x.result) (pos c.cast_unsigned-y.result) (pos c.cast_unsigned-z.result) (pos t)) (omega (arith, c.wrapping_neg.ensures)));
    }
