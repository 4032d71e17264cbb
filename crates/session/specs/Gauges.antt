-- The gauges: the number of each, and the most vertices that it takes.
use Rattle.std.specs.Prelude.{◌≡◌, ◌≢◌, ℕ, Result, MatchResult}
use Rattle.session.specs.declared.gauges.Gauge.{Gauge}
use Rattle.session.specs.declared.gauges.Gauge.TheVariants.{Planes, Sweep}
use Rattle.session.specs.declared.refusal.Refusal.{Refusal}
use Rattle.session.specs.declared.refusal.Refusal.TheVariants.{UnknownGauge}

abbrev pub gauge_number : Gauge → ℕ
gauge_number Planes = 0
gauge_number Sweep = 1

abbrev pub most_vertices : Gauge → ℕ
most_vertices Planes = 400
most_vertices Sweep = 1024

-- the gauge of this number, or the refusal where no gauge has it
abbrev pub Numbered : ℕ → Result Gauge Refusal → Type 0
Numbered k r = MatchResult r (λ g. gauge_number g ≡ k) (λ e. (e ≡ UnknownGauge) × ((g : Gauge) → gauge_number g ≢ k))
