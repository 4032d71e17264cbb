-- What was drawn, gathered again.
use Rattle.std.specs.Prelude.{◌≡◌, ℕ, ◌+◌, ◌*◌, ◌<◌, ◌≤◌, ◌≢◌, List, [], length, take, Ok, Err, Result, slice_index, slice_index_or}
use Rattle.geometry.specs.declared.Position.{Position}
use Rattle.surface.specs.Euler.{vertices, triangles}
use Rattle.gathering.specs.Model.{positions, corners, point_of, surface_of, triangle_count}
use Rattle.gathering.specs.declared.gathering.Gathering.{Gathering}
use Rattle.gathering.specs.declared.refusal.VertexRefusal.{VertexRefusal}
use Rattle.gathering.specs.declared.refusal.TriangleRefusal.{TriangleRefusal}
use Rattle.mesh.specs.Model.{surface, points}
use Rattle.mesh.specs.Laws.{vertex_slots, triangle_slots}
use Rattle.mesh.specs.declared.mesh.Mesh.{Mesh}
use Rattle.drawing.specs.Points.{Placed}
use Rattle.drawing.specs.Drawn.{position_at, Drawn}
use Rattle.drawing.specs.ClosedUp.{ClosedUp, SamePoints, SameShape}
use Rattle.drawing.specs.declared.point.Point.{Point}
use Rattle.drawing.specs.declared.regathering.Unfit.{Unfit}
use Rattle.drawing.specs.declared.regathering.Unfit.TheVariants.{NoMemory, Vertex, Triangle}

-- the positions qs and the corners cs are those of the first a points and b triangles
pub record TakenFrom (ps : List Point) (ts : List (List ℕ)) (a b : ℕ) (qs : List Position) (cs : List ℕ) : Type 0 where
  pub positions_many : length qs ≡ a
  pub corners_many : length cs ≡ 3 * b
  -- a point that is a position in metres is gathered as that position
  pub positions_are : (i : ℕ) (p : Point) (q : Position) → i < a → Placed q (slice_index_or ps i p) → position_at qs i ≡ q
  pub corners_are : (t k : ℕ) → t < b → k < 3 → slice_index cs (3 * t + k) ≡ slice_index (slice_index_or ts t []) k

-- the surface so gathered has the shape of the one that was drawn, at the same points
pub record CameBack (m : Mesh) (qs : List Position) (cs : List ℕ) : Type 0 where
  pub same_shape : SameShape (surface m) (surface_of qs cs) (triangle_slots m) (vertex_slots m)
  pub same_points : SamePoints (surface m) (points m) (point_of qs)

-- and it has the live vertices and triangles of that one and no others
pub record CameBackWhole (m : Mesh) (qs : List Position) (cs : List ℕ) : Type 0 where
  pub came : CameBack m qs cs
  pub vertices_many : length qs ≡ vertices (surface m) (vertex_slots m)
  pub triangles_many : triangle_count cs ≡ triangles (surface m) (triangle_slots m)
  -- each live vertex and each live triangle stands at its place, and the corners are numbered by place
  pub closed_up : ClosedUp (surface m) (surface_of qs cs) (triangle_slots m) (vertex_slots m)

abbrev pub DrawnBack : Type 0
DrawnBack =
    (m : Mesh) (ps : List Point) (ts : List (List ℕ)) (a b : ℕ) (ps' : List Point) (ts' : List (List ℕ)) → Drawn m ps ts a b ps' ts' →
    (qs : List Position) (cs : List ℕ) → TakenFrom ps' ts' a b qs cs → CameBack m qs cs

-- the same of the whole
abbrev pub DrawnBackWhole : Type 0
DrawnBackWhole =
    (m : Mesh) (ps : List Point) (ts : List (List ℕ)) (a b : ℕ) (ps' : List Point) (ts' : List (List ℕ)) → Drawn m ps ts a b ps' ts' →
    (qs : List Position) (cs : List ℕ) → TakenFrom ps' ts' a b qs cs → CameBackWhole m qs cs

-- qs are the positions of the first n points
pub record PointsTaken (ps : List Point) (n : ℕ) (qs : List Position) : Type 0 where
  pub many : length qs ≡ n
  pub are : (i : ℕ) (p : Point) (q : Position) → i < n → Placed q (slice_index_or ps i p) → position_at qs i ≡ q

-- cs are the corners of the first n triangles
pub record TrianglesTaken (ts : List (List ℕ)) (n : ℕ) (cs : List ℕ) : Type 0 where
  pub many : length cs ≡ 3 * n
  pub are : (t k : ℕ) → t < n → k < 3 → slice_index cs (3 * t + k) ≡ slice_index (slice_index_or ts t []) k

-- no more points than a surface may have vertices, each a position in metres
pub record PointsFit (ps : List Point) : Type 0 where
  pub few : length ps ≤ 1024
  pub each : (i : ℕ) (p : Point) → i < length ps → (q : Position) × Placed q (slice_index_or ps i p)

-- no more triangles than a surface may have, each of three of the first n vertices
pub record TrianglesFit (ts : List (List ℕ)) (n : ℕ) : Type 0 where
  pub few : length ts ≤ 2048
  pub known : (t k : ℕ) → t < length ts → k < 3 → slice_index (slice_index_or ts t []) k < n
  pub differ : (t : ℕ) → t < length ts →
      (slice_index (slice_index_or ts t []) 0 ≢ slice_index (slice_index_or ts t []) 1) × (slice_index (slice_index_or ts t []) 1 ≢ slice_index (slice_index_or ts t []) 2) × (slice_index (slice_index_or ts t []) 2 ≢ slice_index (slice_index_or ts t []) 0)

abbrev pub GathersPoints : List Point → Gathering → Result Unit VertexRefusal → Gathering → Type 0
GathersPoints ps g (Ok r) h = PointsTaken ps (length ps) (positions h) × (corners h ≡ corners g)
GathersPoints ps g (Err e) h = PointsFit ps → ⊥

abbrev pub GathersTriangles : List (List ℕ) → Gathering → Result Unit TriangleRefusal → Gathering → Type 0
GathersTriangles ts g (Ok r) h = TrianglesTaken ts (length ts) (corners h) × (positions h ≡ positions g)
GathersTriangles ts g (Err e) h = TrianglesFit ts (length (positions g)) → ⊥

-- the answer of gathering again; there is a refusal only where the lists do not fit
abbrev pub Regathers : List Point → List (List ℕ) → Result Gathering Unfit → Type 0
Regathers ps ts (Ok g) = TakenFrom ps ts (length ps) (length ts) (positions g) (corners g)
Regathers ps ts (Err NoMemory) = Unit {0}
Regathers ps ts (Err (Vertex e)) = PointsFit ps → ⊥
Regathers ps ts (Err (Triangle e)) = TrianglesFit ts (length ps) → ⊥

-- the whole of what was drawn of m is taken, and comes back, unless there is no memory
abbrev pub ComesBack : Mesh → Result Gathering Unfit → Type 0
ComesBack m (Ok g) = CameBack m (positions g) (corners g)
ComesBack m (Err NoMemory) = Unit {0}
ComesBack m (Err (Vertex e)) = ⊥
ComesBack m (Err (Triangle e)) = ⊥

-- and has nothing else
abbrev pub ComesBackWhole : Mesh → Result Gathering Unfit → Type 0
ComesBackWhole m (Ok g) = CameBackWhole m (positions g) (corners g)
ComesBackWhole m (Err NoMemory) = Unit {0}
ComesBackWhole m (Err (Vertex e)) = ⊥
ComesBackWhole m (Err (Triangle e)) = ⊥

abbrev pub DrawnAndRegathered : Type 0
DrawnAndRegathered =
    (m : Mesh) (ps : List Point) (ts : List (List ℕ)) (a b : ℕ) (ps' : List Point) (ts' : List (List ℕ)) → Drawn m ps ts a b ps' ts' →
    (r : Result Gathering Unfit) → Regathers (take a ps') (take b ts') r → ComesBack m r

abbrev pub DrawnAndRegatheredWhole : Type 0
DrawnAndRegatheredWhole =
    (m : Mesh) (ps : List Point) (ts : List (List ℕ)) (a b : ℕ) (ps' : List Point) (ts' : List (List ℕ)) → Drawn m ps ts a b ps' ts' →
    (r : Result Gathering Unfit) → Regathers (take a ps') (take b ts') r → ComesBackWhole m r
