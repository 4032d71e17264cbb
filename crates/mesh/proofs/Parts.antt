-- The vertex split in place of half-edges.
use Rattle.std.proofs.Common.{◌≡◌, ℕ, ◌/◌, ◌<◌, Bool, true, false, List, length, get_or, set, vec_items, vec_len, sym, refl, ap, ◌∙◌, subst, arith, length-set}
use Rattle.std.specs.Vec.{with_items}
use Rattle.surface.specs.Surface.{Surface, next, prev}
use Rattle.surface.specs.Closed.{Closed}
use Rattle.surface.specs.Read.{read}
use Rattle.mesh.specs.Held.{TwinsLive, OutLive}
use Rattle.mesh.specs.Kept.{CornersAre, TrianglesAre, VerticesAre}
use Rattle.mesh.specs.Edits.{uncrossed, Beside, Taken}
use Rattle.mesh.specs.Walks.{Walkable, Moved}
use Rattle.mesh.specs.declared.halfedges.HalfEdges.{HalfEdges}
use Rattle.mesh.proofs.Held.{read_is, refilled_as, entry}
use Rattle.mesh.proofs.Parting as parting

-- what the steps of the split write
pub record Steps (x : HalfEdges) (u e f v : ℕ) (corners twin out : List ℕ) (triangles vertices : List Bool) : Type 0 where
  pub e_is : e ≡ get_or (vec_items x.out) u e
  pub f_is : f ≡ get_or (vec_items x.twin) e f
  pub v_is : v ≡ get_or (vec_items x.corners) f v
  pub corners_is : Moved (vec_items x.corners) (vec_items x.twin) (get_or (vec_items x.twin) (prev e) 0) (next (get_or (vec_items x.twin) (next f) 0)) u corners
  pub twin_is : twin ≡ uncrossed (vec_items x.twin) e f
  pub out_is : out ≡ set (vec_items x.out) v f
  pub triangles_is : triangles ≡ set (set (vec_items x.triangles) (e / 3) true) (f / 3) true
  pub vertices_is : vertices ≡ set (vec_items x.vertices) u true

pub steps : (x : HalfEdges) (u e f v : ℕ) → e ≡ get_or (vec_items x.out) u e → f ≡ get_or (vec_items x.twin) e f → v ≡ get_or (vec_items x.corners) f v →
    (c₁ t₁ t₂ : List ℕ) (f₀ : List Bool) → c₁ ≡ vec_items x.corners → t₁ ≡ vec_items x.twin → t₂ ≡ vec_items x.twin → f₀ ≡ vec_items x.triangles →
    (c' t' : List ℕ) (f' : List Bool) → Moved c₁ t₁ (get_or t₁ (prev e) 0) (next (get_or t₁ (next f) 0)) u c' →
    length c' ≡ length c₁ → t' ≡ uncrossed t₂ e f → f' ≡ set (set f₀ (e / 3) true) (f / 3) true →
    Steps x u e f v (with_items x.corners c').items (with_items x.twin t').items (set (vec_items x.out) v f) (with_items x.triangles f').items (set (vec_items x.vertices) u true)
steps x u e f v pe pf pv c₁ t₁ t₂ f₀ jc jt kt jf c' t' f' pc lc pt pf' =
    let C : List ℕ = vec_items x.corners in
    let T : List ℕ = vec_items x.twin in
    record {
      e_is = pe;
      f_is = pf;
      v_is = pv;
      corners_is =
          let q : (with_items x.corners c').items ≡ c' = refilled_as x.corners c' c' refl (lc ∙ ap length jc) in
          let m : Moved C T (get_or T (prev e) 0) (next (get_or T (next f) 0)) u c' =
          subst (λ c. Moved c T (get_or T (prev e) 0) (next (get_or T (next f) 0)) u c') jc
          (subst (λ t. Moved c₁ t (get_or t (prev e) 0) (next (get_or t (next f) 0)) u c') jt pc) in
          subst (Moved C T (get_or T (prev e) 0) (next (get_or T (next f) 0)) u) (sym q) m;
      twin_is = refilled_as x.twin t' (uncrossed T e f) (pt ∙ ap (λ t. uncrossed t e f) kt) (simp length-set);
      out_is = refl;
      triangles_is =
          refilled_as x.triangles f' (set (set (vec_items x.triangles) (e / 3) true) (f / 3) true)
          (pf' ∙ ap (λ t. set (set t (e / 3) true) (f / 3) true) jf) (simp length-set);
      vertices_is = refl;
    }

module _ (x : HalfEdges) (S : Surface) (u w : ℕ) (H : Taken S u w x) where
  abbrev C : List ℕ
  C = vec_items x.corners

  abbrev T : List ℕ
  T = vec_items x.twin

  abbrev O : List ℕ
  O = vec_items x.out

  abbrev F : List Bool
  F = vec_items x.triangles

  abbrev V : List Bool
  V = vec_items x.vertices

  beside : Beside T (get_or O u 0) (get_or T (get_or O u 0) 0)
  beside =
      parting.beside x S u w H

  u_low : u < length V
  u_low =
      parting.u_low x S u w H

  pub u_vertex : u < vec_len x.vertices
  u_vertex = let p = u_low in let q = x.vertices.ok.0 in omega arith

  pub u_out : u < vec_len x.out
  u_out = let p = u_vertex in let q = x.out_long in omega arith

  module _ (e : ℕ) (pe : e ≡ get_or O u e) where
    e_is : e ≡ get_or O u 0
    e_is = entry x.out u e (let p = u_out in let q = x.out.ok.0 in omega arith) pe

    pub e_twin : e < vec_len x.twin
    e_twin = let p = beside.e_here in let q = e_is in let r = x.twin.ok.0 in omega arith

    module _ (f : ℕ) (pf : f ≡ get_or T e f) where
      f_is : f ≡ get_or T (get_or O u 0) 0
      f_is = entry x.twin e f (let p = e_twin in let r = x.twin.ok.0 in omega arith) pf ∙ ap (λ h. get_or T h 0) e_is

      pub f_corner : f < vec_len x.corners
      f_corner = let q = beside.f_here in let r = f_is in let s = x.twin.ok.0 in let t = x.twin_long in omega arith

      pub beside_at : (t : List ℕ) → t ≡ T → Beside t e f
      beside_at t q = rw (q, f_is, e_is) beside

      pub walkable_at : (c t : List ℕ) → c ≡ C → t ≡ T → Walkable c t (get_or t (prev e) 0) (next (get_or t (next f) 0)) u
      walkable_at c t q r =
          rw (q, r, f_is, e_is)
          (parting.walkable x S u w H)

      pub e_triangle : (t : List Bool) → t ≡ F → e / 3 < length t
      e_triangle t q =
          rw (q, e_is)
          (parting.e_triangle x S u w H)

      pub f_triangle : (t : List Bool) → t ≡ F → f / 3 < length t
      f_triangle t q =
          rw (q, f_is)
          (parting.f_triangle x S u w H)

      v_is : (v : ℕ) → v ≡ get_or C f v → v ≡ w
      v_is v q =
          entry x.corners f v (let r = f_corner in let s = x.corners.ok.0 in omega arith) q ∙ ap (λ g. get_or C g 0) f_is
          ∙ parting.f_from x S u w H

      pub v_out : (v : ℕ) → v ≡ get_or C f v → v < vec_len x.out
      v_out v q =
          let p = v_is v q in
          let r =
          parting.w_low x S u w H in
          let s = x.out.ok.0 in
          omega arith

  module _ {e f v : ℕ} {corners twin out : List ℕ} {triangles vertices : List Bool} (G : Steps x u e f v corners twin out triangles vertices) where
    pub corners_are : CornersAre S corners
    corners_are =
        parting.corners_are x S u w H corners
        (subst (λ h. Moved C T (get_or T (prev h) 0) (next (get_or T (next (get_or T (get_or O u 0) 0)) 0)) u corners) (e_is e G.e_is)
        (subst (λ g. Moved C T (get_or T (prev e) 0) (next (get_or T (next g) 0)) u corners) (f_is e G.e_is f G.f_is) G.corners_is))

    pub triangles_are : TrianglesAre S triangles
    triangles_are =
        rw (G.triangles_is, f_is e G.e_is f G.f_is, e_is e G.e_is)
        (parting.triangles_are x S u w H)

    pub vertices_are : VerticesAre S vertices
    vertices_are =
        rw G.vertices_is
        (parting.vertices_are x S u w H)

    now_is : read corners triangles vertices ≡ S
    now_is = read_is S corners triangles vertices corners_are triangles_are vertices_are

    pub closed_now : ∥ Closed (read corners triangles vertices) ∥₁
    closed_now = rw now_is H.closed

    twin_is : twin ≡ uncrossed T (get_or O u 0) (get_or T (get_or O u 0) 0)
    twin_is = G.twin_is ∙ ap (uncrossed T e) (f_is e G.e_is f G.f_is) ∙ ap (λ h. uncrossed T h (get_or T (get_or O u 0) 0)) (e_is e G.e_is)

    pub twins_now : TwinsLive (read corners triangles vertices) twin
    twins_now =
        rw (now_is, twin_is)
        (parting.twins_are x S u w H)

    pub twins_kept : (h : ℕ) → S.alive (h / 3) ≡ false → get_or twin h 0 ≡ get_or T h 0
    twins_kept h l =
        ap (λ t. get_or t h 0) twin_is
        ∙ parting.twins_kept x S u w H h l

    out_is : out ≡ set O w (get_or T (get_or O u 0) 0)
    out_is = G.out_is ∙ ap (λ y. set O y f) (v_is e G.e_is f G.f_is v G.v_is) ∙ ap (set O w) (f_is e G.e_is f G.f_is)

    pub outs_now : OutLive (read corners triangles vertices) out
    outs_now =
        rw (now_is, out_is)
        (parting.outs_are x S u w H)

    pub outs_kept : (y : ℕ) → S.present y ≡ false → get_or out y 0 ≡ get_or O y 0
    outs_kept y n =
        ap (λ t. get_or t y 0) out_is
        ∙ parting.outs_kept x S u w H y n
