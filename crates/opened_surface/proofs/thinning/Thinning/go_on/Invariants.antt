use Rattle.std.proofs.Common.{◌+◌, ◌≤◌, length}
use Rattle.mesh.specs.Model.{log}
use Rattle.opened_surface.specs.Tied.{Placed, Tied}
use Rattle.opened_surface.proofs.thinning.Thinning.go_on.Given as goal

abbrev pub invariant-loop : goal.invariant-loop
invariant-loop g l =
    Tied g.G.Gauge g.G.Cost.Ordered l.initial.self → l.initial.self.mesh.position + l.count ≤ length (log l.initial.self.mesh) →
    Placed g.G.Gauge g.G.Cost.Ordered l.initial.self (l.initial.self.mesh.position + l.counter) l.self
