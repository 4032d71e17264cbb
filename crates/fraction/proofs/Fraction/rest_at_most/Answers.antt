use Rattle.fraction.specs.Ranks.{level_tells}
use Rattle.fraction.proofs.Fraction.rest_at_most.Goals as goal

pub returns : goal.returns
returns c =
    let x = c.args.self.now in
    let y = c.args.other.now in
    rw (c.from-m.ensures, c.from-n.ensures) (level_tells x.amount x.divisor y.amount y.divisor c.requires)
