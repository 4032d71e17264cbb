-- What the calls on a mesh do to its log and position. The ghost facts of a mesh then say what it holds.
use Rattle.std.specs.Prelude.{◌≡◌, ℕ, ◌+◌, [], ◌∷◌, ◌++◌, take, Some, None, vec_items, Option}
use Rattle.surface.specs.Surface.{next}
use Rattle.mesh.specs.Model.{held}
use Rattle.mesh.specs.Stages.{record_at}
use Rattle.mesh.specs.declared.record.Record.{Record}
use Rattle.mesh.specs.declared.halfedges.HalfEdges.{HalfEdges}
use Rattle.mesh.specs.declared.mesh.Mesh.{Mesh}

-- the collapse that the half-edge e stands for
abbrev pub record_of : HalfEdges → ℕ → Record
record_of x e = record { u = (held x).corner e; w = (held x).corner (next e) }

-- the positions and the opened corners are the same
pub record SameOpening (m n : Mesh) : Type 0 where
  pub positions_same : vec_items n.positions ≡ vec_items m.positions
  pub opened_same : vec_items n.opened ≡ vec_items m.opened

-- r stands at the position, and what lay ahead is gone
pub record Noted (m : Mesh) (r : Record) (n : Mesh) : Type 0 where
  pub opening_same : SameOpening m n
  pub edges_same : n.edges ≡ m.edges
  pub log_cut : vec_items n.log ≡ take m.position (vec_items m.log) ++ r ∷ []
  pub position_same : n.position ≡ m.position

-- the record at the position is done
pub record Advanced (m n : Mesh) : Type 0 where
  pub opening_same : SameOpening m n
  pub log_same : vec_items n.log ≡ vec_items m.log
  pub position_next : n.position ≡ m.position + 1

-- e is collapsed, and what lay ahead is gone
pub record Collapsed (m : Mesh) (e : ℕ) (n : Mesh) : Type 0 where
  pub opening_same : SameOpening m n
  pub log_cut : vec_items n.log ≡ take m.position (vec_items m.log) ++ record_of m.edges e ∷ []
  pub position_next : n.position ≡ m.position + 1

-- the last record that was done, r, is taken back
pub record TakenBack (m : Mesh) (r : Record) (n : Mesh) : Type 0 where
  pub opening_same : SameOpening m n
  pub log_same : vec_items n.log ≡ vec_items m.log
  pub record_is : r ≡ record_at (vec_items m.log) n.position
  pub position_back : n.position + 1 ≡ m.position

-- at position 0 nothing is done and nothing changes
abbrev pub Split : Mesh → Option Record → Mesh → Type 0
Split m None n = (m.position ≡ 0) × (n ≡ m)
Split m (Some r) n = TakenBack m r n

-- the half-edges have the same corners, twins and live triangles and vertices
pub record SameLists (m n : Mesh) : Type 0 where
  pub corners_same : vec_items n.edges.corners ≡ vec_items m.edges.corners
  pub twin_same : vec_items n.edges.twin ≡ vec_items m.edges.twin
  pub triangles_same : vec_items n.edges.triangles ≡ vec_items m.edges.triangles
  pub vertices_same : vec_items n.edges.vertices ≡ vec_items m.edges.vertices

-- the way along the log does not show: meshes of one opening with the same records done hold the same lists
abbrev pub WayHidden : Type 0
WayHidden =
    (m n : Mesh) → SameOpening m n → n.position ≡ m.position →
    take n.position (vec_items n.log) ≡ take m.position (vec_items m.log) → SameLists m n
