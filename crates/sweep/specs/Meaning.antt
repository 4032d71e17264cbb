-- What the gauge by sweep means, as a whole, and the order of its costs.
use Rattle.order.specs.declared.Ordered.{Ghosts as Order}
use Rattle.fraction.specs.declared.Fraction.{Fraction}
use Rattle.fraction.specs.contracts.FractionOrdered.TheImpl.{ghosts as fraction_ordered}
use Rattle.gauge.specs.declared.Gauge.{Ghosts}
use Rattle.sweep.specs.declared.Sweep.{Sweep}
use Rattle.sweep.specs.contracts.SweepGauge.TheImpl.{ghosts as sweep_gauge}

abbrev pub by_sweep : Ghosts Sweep Fraction (Unit {0}) (Unit {0})
by_sweep = sweep_gauge

-- costs are fractions
abbrev pub fraction_order : Order Fraction
fraction_order = fraction_ordered
