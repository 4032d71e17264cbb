-- An opened surface after calls keeps the promise from the surface as it was gathered.
use Rattle.std.proofs.Common.{List, subst₂}
use Rattle.gathering.specs.Model.{positions, corners}
use Rattle.gathering.specs.declared.gathering.Gathering.{Gathering}
use Rattle.order.specs.declared.Ordered.{Ghosts as Order}
use Rattle.gauge.specs.declared.Gauge.{Ghosts}
use Rattle.ledger.specs.declared.call.Call.{Call}
use Rattle.ledger.specs.declared.call.Answer.{Answer}
use Rattle.opened_surface.specs.Openings.{first_book, OpenedWith}
use Rattle.opened_surface.specs.Promise.{Promise, Ran}
use Rattle.opened_surface.specs.declared.opened.Opened.{Opened}

module _ {G C E Z : Type 0} (m : Ghosts G C E Z) (o : Order C) (g : Gathering) (gauge : G) (x y : Opened G C E Z m o) (calls : List Call) (answers : List (Answer C)) where
  pub from_gathered : OpenedWith m o g gauge x → Ran m o x calls answers y → Promise m o (m.setting gauge) (first_book (positions g) (corners g)) calls answers y
  from_gathered W R =
      subst₂ (λ s b. Promise m o s b calls answers y) W.setting_same W.book_is R.promise
