use Rattle.std.proofs.Common.{rules, ◌<◌, length, arith}
use Rattle.judging.proofs.judge.fans.Fans.marked.Goals as goal
use borrow.Author.Tests.{tests}

pub filter-requires : goal.filter-requires
filter-requires c = λ g is p s. let l : p.now < length c.args.self.now.corners.now = omega (arith, s, (c.requires.ready.marks_real.real c.args.x g is).0) in search (rules, tests)
