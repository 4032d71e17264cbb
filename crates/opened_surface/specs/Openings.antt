-- What opening a gathered surface with a gauge answers.
use Rattle.std.specs.Prelude.{◌≡◌, ℕ, ◌<◌, ◌≤◌, List, [], length, Ok, Err, Result}
use Rattle.gathering.specs.Model.{positions, corners, point_of, surface_of, triangle_count}
use Rattle.gathering.specs.declared.gathering.Gathering.{Gathering}
use Rattle.geometry.specs.declared.Position.{Position}
use Rattle.judging.specs.Numbers.{flaw_number, flaw_place}
use Rattle.judging.specs.Verdict.{Judged}
use Rattle.judging.specs.declared.verdict.Counts.{Counts}
use Rattle.mesh.specs.Model.{surface}
use Rattle.order.specs.declared.Ordered.{Ghosts as Order}
use Rattle.gauge.specs.Numbers.{too_many_vertices_number}
use Rattle.gauge.specs.declared.Gauge.{Ghosts}
use Rattle.ledger.specs.Book.{Book}
use Rattle.opened_surface.specs.Consistent.{Consistent}
use Rattle.opened_surface.specs.Parts.{gauge_of, mesh_of}
use Rattle.opened_surface.specs.Tied.{book_of}
use Rattle.opened_surface.specs.declared.opened.Opened.{Opened}
use Rattle.opened_surface.specs.declared.opened.opening.OpenRefusal.{OpenRefusal}
use Rattle.opened_surface.specs.declared.opened.opening.OpenRefusal.TheVariants.{Flawed, TooManyVertices}
use Rattle.opened_surface.specs.declared.opened.opening.Why.{Why}
use Rattle.opened_surface.specs.declared.opened.opening.Why.TheVariants.{Refused, NoMemory}
use Rattle.opened_surface.specs.declared.opened.opening.Unopened.{Unopened}

-- the number of a refusal, and the lowest triangle or vertex concerned, 0 where there is none
abbrev pub open_number : OpenRefusal → ℕ
open_number (Flawed f) = flaw_number f
open_number TooManyVertices = too_many_vertices_number

abbrev pub open_place : OpenRefusal → ℕ
open_place (Flawed f) = flaw_place f
open_place TooManyVertices = 0

-- the book of the surface of gathered positions and corners before any call: all is live, and the log is empty
abbrev pub first_book : List Position → List ℕ → Book
first_book ps cs =
    record {
      opened = surface_of ps cs;
      points = point_of ps;
      triangles = triangle_count cs;
      vertices = length ps;
      log = [];
      position = 0;
    }

-- the gathered surface is accepted with its counts, and opened with the gauge
pub record OpenedWith {G C E Z : Type 0} (m : Ghosts G C E Z) (o : Order C) (g : Gathering) (gauge : G) (x : Opened G C E Z m o) : Type 0 where
  pub judged : Judged (positions g) (corners g) (Ok x.counts)
  pub taken : length (positions g) ≤ m.capacity gauge
  pub book_is : book_of (mesh_of x) ≡ first_book (positions g) (corners g)
  pub surface_is : surface (mesh_of x) ≡ surface_of (positions g) (corners g)
  pub account_is : m.account (gauge_of x) ≡ m.opening (m.setting gauge) (surface_of (positions g) (corners g)) (point_of (positions g)) (length (positions g))
  pub setting_same : m.setting (gauge_of x) ≡ m.setting gauge
  pub consistent : Consistent m o x

-- why the gathering is not opened: the first rule that it breaks, or an accepted one has more vertices than the gauge takes
abbrev pub WhyNot : {G C E Z : Type 0} → Ghosts G C E Z → Gathering → G → Why → Type 0
WhyNot m g gauge (Refused (Flawed f)) = Judged (positions g) (corners g) (Err f)
WhyNot m g gauge (Refused TooManyVertices) = ((n : Counts) × Judged (positions g) (corners g) (Ok n)) × (m.capacity gauge < length (positions g))
WhyNot m g gauge NoMemory = Unit {0}

-- gathering and gauge are handed back as they came
pub record HandedBack {G C E Z : Type 0} (m : Ghosts G C E Z) (g : Gathering) (gauge : G) (f : Unopened G) : Type 0 where
  pub gathering_same : f.gathering ≡ g
  pub gauge_same : f.gauge ≡ gauge
  pub why_not : WhyNot m g gauge f.why

abbrev pub Opens : {G C E Z : Type 0} → (m : Ghosts G C E Z) → (o : Order C) → Gathering → G → Result (Opened G C E Z m o) (Unopened G) → Type 0
Opens m o g gauge (Ok x) = OpenedWith m o g gauge x
Opens m o g gauge (Err f) = HandedBack m g gauge f
