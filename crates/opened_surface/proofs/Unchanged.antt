-- A refused call leaves surface, log, position and gauge as they were.
use Rattle.std.proofs.Common.{◌≡◌, IfNone, IfErr, Some, None, Ok, Err, Option, Result}
use Rattle.order.specs.declared.Ordered.{Ghosts as Order}
use Rattle.gauge.specs.declared.Gauge.{Ghosts}
use Rattle.opened_surface.specs.Parts.{gauge_of, mesh_of}
use Rattle.opened_surface.specs.Promise.{Untouched}
use Rattle.opened_surface.specs.declared.opened.Opened.{Opened}

module _ {G C E Z : Type 0} {m : Ghosts G C E Z} {o : Order C} (x y : Opened G C E Z m o) (counts : y.counts ≡ x.counts) where
  abbrev Same : Type 0
  Same = (mesh_of y ≡ mesh_of x) × (gauge_of y ≡ gauge_of x)

  untouched : Same → Untouched x y
  untouched (i, j) = record { mesh_same = i; gauge_same = j; counts_same = counts }

  pub refused_same : {A B : Type 0} (r : Result A B) → IfErr r (λ _. Same) → IfErr r (λ _. Untouched x y)
  refused_same (Ok _) s = tt
  refused_same (Err _) s = untouched s

  pub none_same : {A : Type 0} (r : Option A) → IfNone r Same → IfNone r (Untouched x y)
  none_same (Some _) s = tt
  none_same None s = untouched s
