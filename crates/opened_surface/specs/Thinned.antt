-- What opening a gathered surface and making calls on it answers.
use Rattle.std.specs.Prelude.{◌≤◌, List, length, Ok, Err, vec_items, Result}
use Rattle.gathering.specs.Model.{positions, corners}
use Rattle.gathering.specs.declared.gathering.Gathering.{Gathering}
use Rattle.judging.specs.Verdict.{Judged}
use Rattle.order.specs.declared.Ordered.{Ghosts as Order}
use Rattle.gauge.specs.declared.Gauge.{Ghosts}
use Rattle.ledger.specs.declared.call.Call.{Call}
use Rattle.opened_surface.specs.Consistent.{Consistent}
use Rattle.opened_surface.specs.Openings.{first_book, HandedBack}
use Rattle.opened_surface.specs.Promise.{Promise}
use Rattle.opened_surface.specs.declared.opened.opening.Unopened.{Unopened}
use Rattle.opened_surface.specs.declared.opened.thinned.Thinned.{Thinned}

-- the gathered surface is accepted, the gauge takes it, and the promise holds of the calls on it, from the surface as it was gathered
pub record ThinnedBy {G C E Z : Type 0} (m : Ghosts G C E Z) (o : Order C) (g : Gathering) (gauge : G) (calls : List Call) (x : Thinned G C E Z m o) : Type 0 where
  pub judged : Judged (positions g) (corners g) (Ok x.opened.counts)
  pub taken : length (positions g) ≤ m.capacity gauge
  pub promise : Promise m o (m.setting gauge) (first_book (positions g) (corners g)) calls (vec_items x.answers) x.opened
  pub consistent : Consistent m o x.opened

-- or it is not opened, and gathering and gauge are handed back
abbrev pub Thins : {G C E Z : Type 0} → (m : Ghosts G C E Z) → (o : Order C) → Gathering → G → List Call → Result (Thinned G C E Z m o) (Unopened G) → Type 0
Thins m o g gauge calls (Ok x) = ThinnedBy m o g gauge calls x
Thins m o g gauge calls (Err f) = HandedBack m g gauge f
