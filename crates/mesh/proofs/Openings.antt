-- From the survey of a gathering to the mesh that is opened.
use Rattle.std.proofs.Common.{◌≡◌, ℕ, ◌/◌, ◌%◌, ◌<◌, ◌≤◌, Bool, true, false, eqb, List, [], length, get_or, replicate, vec_items, vec_len, vec_capacity, Vec, ap, arith}
use Rattle.std.proofs.lemmas.List.{length-replicate}
use Rattle.std.proofs.lemmas.Bool.{and_from, eq-eqb}
use Rattle.std.specs.declared.alloc.Global.{Global}
use Rattle.surface.specs.Surface.{next}
use Rattle.surface.specs.Closed.{Closed}
use Rattle.surface.specs.Read.{read, whole}
use Rattle.gathering.specs.Limits.{Numbered}
use Rattle.gathering.specs.Model.{positions, corners, point_of}
use Rattle.gathering.specs.declared.gathering.Gathering.{Gathering}
use Rattle.geometry.specs.declared.Position.{Position}
use Rattle.judging.specs.Tables.{Twins, Outs, Surveyed}
use Rattle.judging.specs.declared.tables.Tables.{Tables}
use Rattle.mesh.specs.Held.{opposite, TwinsLive, OutLive}
use Rattle.mesh.specs.Kept.{CornersAre, TrianglesAre, VerticesAre, TwinsDead, OutDead}
use Rattle.mesh.specs.Opened.{Tabled, AllLive}
use Rattle.mesh.specs.Stages.{stage, AllPermitted}
use Rattle.mesh.specs.declared.halfedges.HalfEdges.{HalfEdges}
use Rattle.mesh.specs.declared.record.Record.{Record}
use Rattle.mesh.proofs.Along.{whole_within, whole_alive, died_parts}

-- lists that hold the whole surface
pub whole_read : (cs : List ℕ) (n : ℕ) (l : List ℕ) (triangles vertices : List Bool) → l ≡ cs → triangles ≡ replicate (length cs / 3) true → vertices ≡ replicate n true →
    read l triangles vertices ≡ whole cs n
whole_read cs n l triangles vertices p q r = cc

module _ (cs : List ℕ) (n : ℕ) (threes : length cs % 3 ≡ 0) where
  lives : (h : ℕ) → h < length cs → (whole cs n).alive (h / 3) ≡ true
  lives h l = whole_alive cs n (h / 3) (omega arith)

  pub twins_live : (twin : List ℕ) → Twins (whole cs n) (length cs) twin → TwinsLive (whole cs n) twin
  unfolding opposite
  twins_live twin T h l =
      let i : h / 3 < length cs / 3 = (whole_within cs n).triangles (h / 3) l in
      let j : h < length cs = omega arith in
      and_from ((whole cs n).alive (get_or twin h 0 / 3)) _ (lives (get_or twin h 0) (T.inside h j))
      (and_from (eqb ((whole cs n).corner (get_or twin h 0)) ((whole cs n).corner (next h))) _ (eq-eqb _ _ (T.from h j)) (eq-eqb _ _ (T.to h j)))

  pub outs_live : (out : List ℕ) → Outs (whole cs n) (length cs) n out → OutLive (whole cs n) out
  outs_live out O v l = let i = (whole_within cs n).vertices v l in (lives (get_or out v 0) (O.inside v i), O.from v i)

-- a gathering that is found closed
pub tabled : (g : Gathering) (t : Tables) → Surveyed (positions g) (corners g) t →
    Tabled (corners g) (length (positions g)) (vec_items t.twin) (vec_items t.out)
tabled g t (J, T, O) =
    let cs = corners g in
    let n = length (positions g) in
    let threes : length cs % 3 ≡ 0 = omega (arith, g.threes, g.corners.ok.0) in
    record {
      few = omega (arith, g.triangles, g.corners.ok.0);
      threes = threes;
      few_vertices = omega (arith, g.vertices, g.positions.ok.0);
      twin_long = T.long;
      out_long = O.long;
      closed = ∣ J.0 ∣₁;
      twins = twins_live cs n threes (vec_items t.twin) T;
      outs = outs_live cs n threes (vec_items t.out) O;
    }

-- what a mesh keeps to with nothing in its log
pub record Begun (p : Vec Position Global) (o : Vec ℕ Global) (e : HalfEdges) (l : Vec Record Global) : Type 0 where
  pub few_vertices : vec_len p ≤ 1024
  pub few_corners : vec_len o ≤ 6144
  pub corners_long : vec_len e.corners ≡ vec_len o
  pub vertices_long : vec_len e.vertices ≡ vec_len p
  pub numbered : Numbered (vec_items o) (vec_len p)
  pub log_room : vec_len p ≤ vec_capacity l
  pub closed : ∥ Closed (whole (vec_items o) (length (vec_items p))) ∥₁
  pub permitted : AllPermitted (whole (vec_items o) (length (vec_items p))) (point_of (vec_items p)) (vec_items l)
  pub corners_are : CornersAre (stage (whole (vec_items o) (length (vec_items p))) (vec_items l) 0) (vec_items e.corners)
  pub triangles_are : TrianglesAre (stage (whole (vec_items o) (length (vec_items p))) (vec_items l) 0) (vec_items e.triangles)
  pub vertices_are : VerticesAre (stage (whole (vec_items o) (length (vec_items p))) (vec_items l) 0) (vec_items e.vertices)
  pub twins_dead : TwinsDead (whole (vec_items o) (length (vec_items p))) (vec_items l) 0 (vec_items e.twin)
  pub out_dead : OutDead (whole (vec_items o) (length (vec_items p))) (vec_items l) 0 (vec_items e.out)

pub begun : (g : Gathering) (e : HalfEdges) (l : Vec Record Global) → AllLive (corners g) (length (positions g)) e → vec_items l ≡ [] →
    length (positions g) ≤ vec_capacity l → Closed (whole (corners g) (length (positions g))) → Begun g.positions g.corners e l
unfolding stage read
begun g e l A empty room C =
    let cs = corners g in
    let n = length (positions g) in
    let many : vec_len g.positions ≡ n = omega (arith, g.positions.ok.0) in
    let none : length (vec_items l) ≡ 0 = ap length empty in
    record {
      few_vertices = g.vertices;
      few_corners = g.triangles;
      corners_long = omega (arith, e.corners.ok.0, g.corners.ok.0, ap length A.corners_are);
      vertices_long = omega (arith, e.vertices.ok.0, ap length A.vertices_are, length-replicate n true);
      numbered = g.numbered;
      log_room = omega arith;
      closed = ∣ C ∣₁;
      permitted = λ k i. absurd (omega arith);
      corners_are = λ h. ap (λ (xs : List ℕ). get_or xs h 0) A.corners_are;
      triangles_are = λ t. ap (λ (xs : List Bool). get_or xs t false) A.triangles_are;
      vertices_are = λ v. ap (λ (xs : List Bool). get_or xs v false) A.vertices_are;
      twins_dead = λ k h d. let i = (died_parts (whole cs n) (vec_items l) 0 k (h / 3) d).0 in absurd (omega arith);
      out_dead = λ k i. absurd (omega arith);
    }
