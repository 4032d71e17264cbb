-- What collapse and vertex split do to the half-edges.
use Rattle.std.specs.Prelude.{◌≡◌, ℕ, ◌/◌, ◌<◌, ◌≤◌, true, false, List, length, set, vec_items, vec_len, slice_index, slice_index_or, slice_set}
use Rattle.surface.specs.Surface.{Surface, next, prev, Within}
use Rattle.surface.specs.Closed.{Closed}
use Rattle.surface.specs.Collapse.{collapse}
use Rattle.mesh.specs.Held.{opposite}
use Rattle.mesh.specs.Kept.{CornersAre, TrianglesAre, VerticesAre}
use Rattle.mesh.specs.Model.{held}
use Rattle.mesh.specs.declared.halfedges.HalfEdges.{HalfEdges}

-- the half-edges behind the two triangles of e and f get each other for twins
abbrev pub crossed : List ℕ → ℕ → ℕ → List ℕ
crossed twin e f =
    let a : ℕ = slice_index_or twin (next e) 0 in
    let b : ℕ = slice_index_or twin (prev e) 0 in
    let c : ℕ = slice_index_or twin (next f) 0 in
    let d : ℕ = slice_index_or twin (prev f) 0 in
    slice_set (slice_set (slice_set (slice_set twin a b) b a) c d) d c

-- the half-edges behind the two triangles get those of the triangles for twins
abbrev pub uncrossed : List ℕ → ℕ → ℕ → List ℕ
uncrossed twin e f =
    let a : ℕ = slice_index_or twin (next e) 0 in
    let b : ℕ = slice_index_or twin (prev e) 0 in
    let c : ℕ = slice_index_or twin (next f) 0 in
    let d : ℕ = slice_index_or twin (prev f) 0 in
    slice_set (slice_set (slice_set (slice_set twin a (next e)) b (prev e)) c (next f)) d (prev f)

-- the triangles of e and f, and the half-edges behind them, are in the list
pub record Beside (twin : List ℕ) (e f : ℕ) : Type 0 where
  pub few : length twin ≤ 6144
  pub e_here : e < length twin
  pub f_here : f < length twin
  pub e_next : next e < length twin
  pub e_prev : prev e < length twin
  pub f_next : next f < length twin
  pub f_prev : prev f < length twin
  pub behind_e_next : slice_index_or twin (next e) 0 < length twin
  pub behind_e_prev : slice_index_or twin (prev e) 0 < length twin
  pub behind_f_next : slice_index_or twin (next f) 0 < length twin
  pub behind_f_prev : slice_index_or twin (prev f) 0 < length twin

-- e leaves its first end, and the other three corners of the two triangles have half-edges that outlive the triangles
abbrev pub mended : List ℕ → List ℕ → List ℕ → ℕ → ℕ → List ℕ
mended out corners twin e f =
    set (slice_set (slice_set (slice_set out (slice_index corners e) e) (slice_index corners f) (slice_index twin (prev f))) (slice_index corners (prev e)) (slice_index twin (next e)))
    (slice_index corners (prev f)) (slice_index twin (next f))

-- the corners of the two triangles are in the list
pub record Cornered (corners out : List ℕ) (e f : ℕ) : Type 0 where
  pub e_from : slice_index_or corners e 0 < length out
  pub f_from : slice_index_or corners f 0 < length out
  pub e_third : slice_index_or corners (prev e) 0 < length out
  pub f_third : slice_index_or corners (prev f) 0 < length out

-- the surface with the first end of e collapsed to the other
abbrev pub collapsed : HalfEdges → ℕ → Surface
collapsed x e = collapse (held x) ((held x).corner e) ((held x).corner (next e))

-- y holds x with e collapsed
pub record Joined (x : HalfEdges) (e : ℕ) (y : HalfEdges) : Type 0 where
  pub corners_are : CornersAre (collapsed x e) (vec_items y.corners)
  pub triangles_are : TrianglesAre (collapsed x e) (vec_items y.triangles)
  pub vertices_are : VerticesAre (collapsed x e) (vec_items y.vertices)
  -- dead triangles keep their twins
  pub twins_kept : (h : ℕ) → (collapsed x e).alive (h / 3) ≡ false → slice_index (vec_items y.twin) h ≡ slice_index (vec_items x.twin) h
  -- dead vertices keep their half-edges, and the one that died has e
  pub outs_kept : (v : ℕ) → (held x).present v ≡ false → slice_index (vec_items y.out) v ≡ slice_index (vec_items x.out) v
  pub out_is : slice_index_or (vec_items y.out) ((held x).corner e) 0 ≡ e
  pub corners_long : vec_len y.corners ≡ vec_len x.corners
  pub vertices_long : vec_len y.vertices ≡ vec_len x.vertices

-- x holds S with u collapsed to w, by the half-edge that x has for u
pub record Taken (S : Surface) (u w : ℕ) (x : HalfEdges) : Type 0 where
  pub closed : ∥ Closed S ∥₁
  pub within : Within S (vec_len x.triangles) (vec_len x.vertices)
  pub corners_are : CornersAre (collapse S u w) (vec_items x.corners)
  pub triangles_are : TrianglesAre (collapse S u w) (vec_items x.triangles)
  pub vertices_are : VerticesAre (collapse S u w) (vec_items x.vertices)
  pub out_lives : S.alive (slice_index (vec_items x.out) u / 3) ≡ true
  pub out_from : S.corner (slice_index (vec_items x.out) u) ≡ u
  pub out_to : S.corner (next (slice_index (vec_items x.out) u)) ≡ w
  -- the half-edges of the triangles that died have the twins that they had in S
  pub twins_before : (h : ℕ) → S.alive (h / 3) ≡ true → (collapse S u w).alive (h / 3) ≡ false → opposite S h (slice_index (vec_items x.twin) h) ≡ true

-- y holds S, which x held collapsed
pub record Parted (S : Surface) (x y : HalfEdges) : Type 0 where
  pub corners_are : CornersAre S (vec_items y.corners)
  pub triangles_are : TrianglesAre S (vec_items y.triangles)
  pub vertices_are : VerticesAre S (vec_items y.vertices)
  -- what is dead in S keeps its twins and half-edges
  pub twins_kept : (h : ℕ) → S.alive (h / 3) ≡ false → slice_index (vec_items y.twin) h ≡ slice_index (vec_items x.twin) h
  pub outs_kept : (v : ℕ) → S.present v ≡ false → slice_index (vec_items y.out) v ≡ slice_index (vec_items x.out) v
  pub corners_long : vec_len y.corners ≡ vec_len x.corners
  pub vertices_long : vec_len y.vertices ≡ vec_len x.vertices
