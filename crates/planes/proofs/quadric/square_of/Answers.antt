use Rattle.std.proofs.Common.{refl}
use Rattle.planes.specs.Quadrics.{square_of}
use Rattle.planes.proofs.Quadrics.{same_quadric}
use Rattle.planes.proofs.quadric.square_of.Goals as goal

pub returns : goal.returns
unfolding square_of
returns c =
    record {
      value =
          same_quadric _ _ refl refl refl c.twice.ensures.value c.twice-2.ensures.value c.twice-3.ensures.value
          c.twice-4.ensures.value c.twice-5.ensures.value c.twice-6.ensures.value refl;
    }
