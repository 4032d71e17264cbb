-- What a session holds.
use Rattle.std.specs.Prelude.{ℕ, Bool, false, List, []}
use Rattle.gathering.specs.Model.{positions, corners}
use Rattle.geometry.specs.declared.Position.{Position}
use Rattle.mesh.specs.declared.mesh.Mesh.{Mesh}
use Rattle.ledger.specs.Book.{Book}
use Rattle.opened_surface.specs.Openings.{first_book}
use Rattle.opened_surface.specs.Parts.{mesh_of}
use Rattle.opened_surface.specs.Tied.{book_of}
use Rattle.session.specs.declared.draft.Draft.{Draft}
use Rattle.session.specs.declared.gauges.Gauge.{Gauge}
use Rattle.session.specs.declared.gauges.Gauge.TheVariants as gauge
use Rattle.session.specs.declared.hull.Hull.{Hull}
use Rattle.session.specs.declared.hull.Hull.TheVariants.{Planes, Sweep}
use Rattle.session.specs.declared.state.State.{State}
use Rattle.session.specs.declared.state.State.TheVariants.{Gathering, Still, Opened}
use Rattle.session.specs.declared.still.Still.{Still as A-still}

pub data Held : Type 0 where
  -- whether there is a name, the positions of the gathered vertices, and the corners of the triangles, three each
  gathering : (named : Bool) (ps : List Position) (cs : List ℕ) → Held
  -- the ledger's book of a surface that was opened on this gauge
  opened : (on : Gauge) (b : Book) → Held

abbrev pub held_draft : Draft → Held
held_draft d = gathering d.named (positions d.gathering) (corners d.gathering)

abbrev pub hull_gauge : Hull → Gauge
hull_gauge (Planes x) = gauge.Planes
hull_gauge (Sweep x) = gauge.Sweep

abbrev pub hull_mesh : Hull → Mesh
hull_mesh (Planes x) = mesh_of x
hull_mesh (Sweep x) = mesh_of x

abbrev pub held_hull : Hull → Held
held_hull h = opened (hull_gauge h) (book_of (hull_mesh h))

-- what was gathered, as it is opened
abbrev pub held_still : A-still → Held
held_still s = opened s.gauge (first_book (positions s.gathering) (corners s.gathering))

abbrev pub held : State → Held
held (Gathering d) = held_draft d
held (Still s) = held_still s
held (Opened h) = held_hull h

-- what a session holds at first
abbrev pub empty : Held
empty = gathering false [] []
