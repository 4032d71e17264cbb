-- What opening a gathered surface answers.
use Rattle.std.specs.Prelude.{◌≡◌, ℕ, ◌/◌, ◌%◌, ◌≤◌, true, List, [], length, replicate, Ok, Err, vec_items, vec_capacity, Result}
use Rattle.surface.specs.Closed.{Closed}
use Rattle.surface.specs.Read.{whole}
use Rattle.gathering.specs.Model.{positions, corners}
use Rattle.gathering.specs.declared.gathering.Gathering.{Gathering}
use Rattle.judging.specs.Verdict.{Judged, WhyNot}
use Rattle.judging.specs.declared.verdict.Unjudged.{Unjudged}
use Rattle.mesh.specs.Held.{TwinsLive, OutLive}
use Rattle.mesh.specs.declared.halfedges.HalfEdges.{HalfEdges}
use Rattle.mesh.specs.declared.mesh.opening.Opening.{Opening}
use Rattle.mesh.specs.declared.mesh.opening.Prepared.{Prepared}
use Rattle.mesh.specs.declared.mesh.opening.Refused.{Refused}

-- the corners and n vertices make a closed surface, of which the other lists are the tables
pub record Tabled (cs : List ℕ) (n : ℕ) (twin out : List ℕ) : Type 0 where
  pub few : length cs ≤ 6144
  pub threes : length cs % 3 ≡ 0
  pub few_vertices : n ≤ 1024
  pub twin_long : length twin ≡ length cs
  pub out_long : length out ≡ n
  pub closed : ∥ Closed (whole cs n) ∥₁
  pub twins : TwinsLive (whole cs n) twin
  pub outs : OutLive (whole cs n) out

-- the half-edges hold the corners and n vertices, all live
pub record AllLive (cs : List ℕ) (n : ℕ) (e : HalfEdges) : Type 0 where
  pub corners_are : vec_items e.corners ≡ cs
  pub triangles_are : vec_items e.triangles ≡ replicate (length cs / 3) true
  pub vertices_are : vec_items e.vertices ≡ replicate n true

-- why the gathering is not opened
abbrev pub Why : Gathering → Unjudged → Type 0
Why g why = WhyNot (positions g) (corners g) why

-- a closed surface, with its half-edges and an empty log that has room for a record to each vertex
pub record Ready (g : Gathering) (p : Prepared) : Type 0 where
  pub judged : Judged (positions g) (corners g) (Ok p.counts)
  pub edges_live : AllLive (corners g) (length (positions g)) p.edges
  pub log_empty : vec_items p.log ≡ []
  pub log_room : length (positions g) ≤ vec_capacity p.log

abbrev pub Prepares : Gathering → Result Prepared Unjudged → Type 0
Prepares g (Ok p) = Ready g p
Prepares g (Err why) = Why g why

-- the gathered surface is accepted, and no collapse is recorded; the ghost facts of a mesh then say what it holds
pub record Opened (g : Gathering) (o : Opening) : Type 0 where
  pub judged : Judged (positions g) (corners g) (Ok o.counts)
  pub positions_are : vec_items o.mesh.positions ≡ positions g
  pub corners_are : vec_items o.mesh.opened ≡ corners g
  pub log_empty : vec_items o.mesh.log ≡ []
  pub at_start : o.mesh.position ≡ 0

abbrev pub Opens : Gathering → Result Opening Refused → Type 0
Opens g (Ok o) = Opened g o
Opens g (Err f) = (f.gathering ≡ g) × Why g f.why
