use Rattle.std.proofs.Common.{arith, rules}
use Rattle.std.proofs.lemmas.Grind.{common_steps}
use Rattle.session.specs.Spelled.{short_vertex, short_triangle, no_gauge}
use Rattle.session.proofs.command.Command.read.Goals as goal

pub returns-in_err-x-in-86 : goal.returns-in_err-x-in-86
returns-in_err-x-in-86 g c = search (rules, short_vertex)

pub returns-in_err-a-in-84 : goal.returns-in_err-a-in-84
returns-in_err-a-in-84 g c = search (rules, short_triangle)

pub returns-in_err-gauge-in-79 : goal.returns-in_err-gauge-in-79
returns-in_err-gauge-in-79 g c = grind (arith, common_steps, no_gauge)
