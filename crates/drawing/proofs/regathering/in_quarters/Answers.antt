use Rattle.std.proofs.Common.{ap, ◌∙◌, arith}
use lib.Ieee.{Float, binary32, mul, to_unsigned}
use Rattle.drawing.proofs.Quarters.{read_back, four}
use Rattle.drawing.proofs.regathering.in_quarters.Goals as goal

pub returns : goal.returns
returns c =
    record {
      value = λ n Q.
          c.saturating_f32_to_u16.ensures ∙ ap (λ (x : Float). to_unsigned 16 (mul binary32 c.args.metres x)) four ∙ ap (to_unsigned 16) Q.back
          ∙ read_back n (let l = Q.low in omega arith);
    }
