use Rattle.std.proofs.Common.{◌≡◌, vec_items}
use Rattle.judging.specs.Chains.{Standing}
use Rattle.judging.specs.Sides.{Passed, Found}
use Rattle.judging.proofs.judge.fans.Fans.match_sides.Given as goal

abbrev pub invariant-loop-h : goal.invariant-loop-h
invariant-loop-h l =
    let cs = l.self.corners.now in
    let at = l.h-iterator.at in
    (l.h-iterator.link.now ≡ vec_items l.self.link) × Standing cs l.u at × Found cs (Passed cs l.u at) l.first l.twin
