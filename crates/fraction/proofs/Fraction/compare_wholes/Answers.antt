use Rattle.std.proofs.Common.{◌/◌}
use Rattle.std.proofs.lemmas.Cmp.{ranked}
use Rattle.fraction.specs.Ranks.{wholes_tell}
use Rattle.fraction.proofs.Fraction.compare_wholes.Goals as goal

pub returns : goal.returns
returns c =
    let x = c.args.self.now in
    let y = c.args.other.now in
    wholes_tell x.amount x.divisor y.amount y.divisor x.divides.0 y.divides.0 c.cmp.result (ranked (x.amount / x.divisor) (y.amount / y.divisor) c.cmp.result cc)
