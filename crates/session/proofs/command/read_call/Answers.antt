use Rattle.std.proofs.Common.{length, refl, ap, arith}
use Rattle.std.proofs.lemmas.Result.{err_from_is_err_and}
use Rattle.session.specs.Spelled.{short_collapse, short_go}
use Rattle.session.proofs.command.read_call.Goals as goal

pub returns-in_err-u-in-67 : goal.returns-in_err-u-in-67
returns-in_err-u-in-67 c =
    let p = err_from_is_err_and c.from_residual.result c.from_residual.ensures.1 in
    let e = c.in_err-u-in-67.ensures.read in
    rw (p.1, p.2, e.0, c.in-67.is) (record { read = short_collapse c.args.bytes.now refl (omega (arith, e.1)) })

pub returns-in_err-w-in-67 : goal.returns-in_err-w-in-67
returns-in_err-w-in-67 c =
    let p = err_from_is_err_and c.from_residual-in_err-w-in-67.result c.from_residual-in_err-w-in-67.ensures.1 in
    let e = c.in_err-w-in-67.ensures.read in
    rw (p.1, p.2, e.0, c.in-67.is) (record { read = short_collapse c.args.bytes.now refl (omega (arith, e.1, ap length c.in_ok-u-in-67.ensures.read)) })

pub returns-in_err-target-in-71 : goal.returns-in_err-target-in-71
returns-in_err-target-in-71 c =
    let p = err_from_is_err_and c.from_residual-in_err-target-in-71.result c.from_residual-in_err-target-in-71.ensures.1 in
    let e = c.in_err-target-in-71.ensures.read in
    rw (p.1, p.2, e.0, c.in-71.is) (record { read = short_go c.args.bytes.now refl (omega (arith, e.1)) })
