use Rattle.std.proofs.Common.{◌-◌, ◌≤◌}
use Rattle.opened_surface.specs.Tied.{Placed, Tied}
use Rattle.opened_surface.proofs.thinning.Thinning.go_back.Given as goal

abbrev pub invariant-loop : goal.invariant-loop
invariant-loop g l =
    Tied g.G.Gauge g.G.Cost.Ordered l.initial.self → l.count ≤ l.initial.self.mesh.position → Placed g.G.Gauge g.G.Cost.Ordered l.initial.self (l.initial.self.mesh.position - l.counter) l.self
