-- Books. The log is a list of records (u, w), of the collapse of u to w. Those before the position are done, the others lie
-- ahead. The triangle list and the account of a book are the opening ones with the done records collapsed and merged in order.
use Rattle.std.specs.Prelude.{ℕ, zero, suc, ◌≤◌, List, length, slice_index_or}
use Rattle.surface.specs.Surface.{Surface, Within}
use Rattle.surface.specs.Closed.{Closed}
use Rattle.surface.specs.Geometry.{Vector}
use Rattle.surface.specs.Permitted.{Permitted}
use Rattle.mesh.specs.Stages.{stage, record_at, AllPermitted}
use Rattle.mesh.specs.declared.record.Record.{Record}
use Rattle.gauge.specs.Accounts.{changed}
use Rattle.gauge.specs.Near.{near}
use Rattle.gauge.specs.declared.Gauge.{Ghosts}

pub record Book : Type 0 where
  pub opened : Surface  -- the surface as it was opened
  pub points : ℕ → Vector  -- of the vertices
  pub triangles : ℕ  -- how many were opened
  pub vertices : ℕ
  pub log : List Record
  pub position : ℕ

-- the surface with the first k records collapsed, and at the position
abbrev pub surface_at : Book → ℕ → Surface
surface_at b k = stage b.opened b.log k

abbrev pub surface_now : Book → Surface
surface_now b = surface_at b b.position

-- u may be collapsed to w at the position
abbrev pub PermittedNow : Book → ℕ → ℕ → Type 0
PermittedNow b u w = Permitted (surface_now b) b.points u w

-- m is what a gauge means, and s its setting
module _ {G C E S : Type 0} (m : Ghosts G C E S) (s : S) where
  -- the opening account with the first k records merged
  unfoldable pub account_at : Book → ℕ → List E
  account_at b zero = m.opening s b.opened b.points b.vertices
  account_at b (suc k) = changed (m.merged s) m.blank (record_at b.log k).u (record_at b.log k).w (account_at b k)

  abbrev pub account_now : Book → List E
  account_now b = account_at b b.position

  -- what the collapse of u to w costs at the position
  abbrev pub cost_now : Book → ℕ → ℕ → C
  cost_now b u w =
      m.price s u w (slice_index_or (account_now b) u m.blank) (slice_index_or (account_now b) w m.blank) (b.points u) (b.points w) (near (surface_now b) b.points u w)

-- the opened surface is closed, with no more triangles and vertices than were opened, the position is one of the log, and each
-- record is permitted where its turn comes
pub record Sensible (b : Book) : Type 0 where
  pub closed : Closed b.opened
  pub within : Within b.opened b.triangles b.vertices
  pub placed : b.position ≤ length b.log
  pub permitted : AllPermitted b.opened b.points b.log
