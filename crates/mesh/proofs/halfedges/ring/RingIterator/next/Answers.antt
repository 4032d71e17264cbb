use Rattle.std.proofs.Common.{◌<◌, length, ap, arith}
use Rattle.mesh.proofs.Rings.{given}
use Rattle.mesh.specs.Rings.{left_from}
use Rattle.mesh.proofs.halfedges.ring.RingIterator.next.Goals as goal

pub invariant_of-self : goal.invariant_of-self
invariant_of-self c =
    let s = c.args.self.now in
    record { returns = (given s.edges.now s.first s.ahead _ c.in_ok-h.h c.around-next.result s.returns c.in_ok-h.was c.around-next.ensures.turns c.then_some-self.ensures).0 }

pub returns-clause-steps : goal.returns-clause-steps
returns-clause-steps c =
    let s = c.args.self.now in
    (given s.edges.now s.first s.ahead _ c.in_ok-h.h c.around-next.result s.returns c.in_ok-h.was c.around-next.ensures.turns c.then_some-self.ensures).1

pub returns-clause-goes : goal.returns-clause-goes
returns-clause-goes c =
    let s = c.args.self.now in
    let g = ap length (given s.edges.now s.first s.ahead _ c.in_ok-h.h c.around-next.result s.returns c.in_ok-h.was c.around-next.ensures.turns c.then_some-self.ensures).1 in
    let l : length (left_from s.edges.now s.first c.then_some-self.result) < length (left_from s.edges.now s.first s.ahead) = omega arith in
    record { on = λ f. (tt, tt, l); keeps = tt; rests = λ _. tt }
