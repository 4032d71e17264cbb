-- The collapse in place of half-edges.
use Rattle.std.proofs.Common.{◌≡◌, ℕ, ◌/◌, ◌<◌, Bool, true, false, List, length, get_or, set, vec_items, vec_len, sym, refl, ap, ◌∙◌, subst, arith, length-set}
use Rattle.std.specs.Vec.{with_items}
use Rattle.surface.specs.Surface.{next, prev}
use Rattle.surface.specs.Closed.{Closed}
use Rattle.surface.specs.Read.{read}
use Rattle.mesh.specs.Held.{TwinsLive, OutLive}
use Rattle.mesh.specs.Kept.{CornersAre, TrianglesAre, VerticesAre}
use Rattle.mesh.specs.Model.{held}
use Rattle.mesh.specs.Moves.{record_of}
use Rattle.mesh.specs.Edits.{crossed, mended, collapsed, Beside, Cornered}
use Rattle.mesh.specs.Walks.{Walkable, Moved}
use Rattle.mesh.specs.declared.halfedges.HalfEdges.{HalfEdges}
use Rattle.mesh.specs.declared.record.Record.{Record}
use Rattle.mesh.proofs.Held.{sized, read_is, refilled_as, entry}
use Rattle.mesh.proofs.Joining as joining

-- what the steps of the collapse write
pub record Steps (x : HalfEdges) (e f w : ℕ) (corners twin out : List ℕ) (triangles vertices : List Bool) : Type 0 where
  pub f_is : f ≡ get_or (vec_items x.twin) e 0
  pub w_is : w ≡ get_or (vec_items x.corners) f 0
  pub corners_is : Moved (vec_items x.corners) (vec_items x.twin) (get_or (vec_items x.twin) (prev e) 0) (next (get_or (vec_items x.twin) (next f) 0)) w corners
  pub twin_is : twin ≡ crossed (vec_items x.twin) e f
  pub out_is : out ≡ mended (vec_items x.out) (vec_items x.corners) (vec_items x.twin) e f
  pub triangles_is : triangles ≡ set (set (vec_items x.triangles) (e / 3) false) (f / 3) false
  pub vertices_is : vertices ≡ set (vec_items x.vertices) (get_or (vec_items x.corners) e 0) false

pub twin_long : (x : HalfEdges) → length (vec_items x.twin) ≡ length (vec_items x.corners)
twin_long x = (sized x).twin_long

module _ (x : HalfEdges) (e : ℕ) (live : (held x).alive (e / 3) ≡ true) where
  abbrev C : List ℕ
  C = vec_items x.corners

  abbrev T : List ℕ
  T = vec_items x.twin

  abbrev O : List ℕ
  O = vec_items x.out

  abbrev F : List Bool
  F = vec_items x.triangles

  abbrev V : List Bool
  V = vec_items x.vertices

  pub beside : Beside T e (get_or T e 0)
  beside = joining.beside x e live

  pub e_twin : e < vec_len x.twin
  e_twin = let p = beside.e_here in let q = x.twin.ok.0 in omega arith

  pub e_corner : e < vec_len x.corners
  e_corner = let p = beside.e_here in let q = x.twin.ok.0 in let r = x.twin_long in omega arith

  pub e_low : e < 6144
  e_low = let p = e_corner in let q = x.few in omega arith

  pub next_corner : (h : ℕ) → h ≡ next e → h < vec_len x.corners
  next_corner h i = let p = beside.e_next in let q = x.twin.ok.0 in let r = x.twin_long in omega arith

  pub record_is : (u h w : ℕ) → u ≡ get_or C e u → h ≡ next e → w ≡ get_or C h w → ◌≡◌ {A = Record} (record { u = u; w = w }) (record_of x e)
  unfolding read
  record_is u h w p i q =
      let c = x.corners.ok.0 in
      let a : u ≡ get_or C e 0 = entry x.corners e u (let l = e_corner in omega arith) p in
      let b : w ≡ get_or C (next e) 0 = entry x.corners h w (let l = next_corner h i in omega arith) q ∙ ap (λ k. get_or C k 0) i in
      λ j. record { u = a j; w = b j }

  module _ (f : ℕ) (p : f ≡ get_or T e f) where
    pub f_is : f ≡ get_or T e 0
    f_is = entry x.twin e f beside.e_here p

    pub f_corner : f < vec_len x.corners
    f_corner = let q = beside.f_here in let r = f_is in let s = x.twin.ok.0 in let t = x.twin_long in omega arith

    pub beside_at : (t : List ℕ) → t ≡ T → Beside t e f
    beside_at t q = rw (q, f_is) beside

    pub cornered_at : (c o : List ℕ) → c ≡ C → o ≡ O → Cornered c o e f
    cornered_at c o q r = rw (q, r, f_is) (joining.cornered x e live)

    w_is : (w : ℕ) → w ≡ get_or C f w → w ≡ get_or C f 0
    w_is w q = entry x.corners f w (let r = f_corner in let s = x.corners.ok.0 in omega arith) q

    -- f begins where e ends
    w_end : (w : ℕ) → w ≡ get_or C f w → w ≡ (held x).corner (next e)
    unfolding read
    w_end w q = w_is w q ∙ ap (λ g. get_or C g 0) f_is ∙ joining.f_from x e live

    pub walkable_at : (c t : List ℕ) (w : ℕ) → c ≡ C → t ≡ T → w ≡ get_or C f w → Walkable c t (get_or t (prev e) 0) (next (get_or t (next f) 0)) w
    walkable_at c t w q r s = rw (q, r, f_is, w_end w s) (joining.walkable x e live)

    pub e_triangle : (t : List Bool) → t ≡ F → e / 3 < length t
    e_triangle t q = rw q (joining.e_triangle x e live)

    pub f_triangle : (t : List Bool) → t ≡ F → f / 3 < length t
    f_triangle t q = rw (q, f_is) (joining.f_triangle x e live)

    pub u_low : (u : ℕ) → u ≡ get_or C e u → u < vec_len x.vertices
    unfolding read
    u_low u q =
        let r : u ≡ get_or C e 0 = entry x.corners e u (let s = beside.e_here in let t = (sized x).twin_long in omega arith) q in
        let s = joining.u_low x e live in
        let t = x.vertices.ok.0 in
        rw r (omega arith)

  pub steps : (f u w : ℕ) → f ≡ get_or T e f → u ≡ get_or C e u → w ≡ get_or C f w →
      (o₀ c₀ t₀ c₁ t₁ t₂ : List ℕ) (f₀ : List Bool) → o₀ ≡ O → c₀ ≡ C → t₀ ≡ T → c₁ ≡ C → t₁ ≡ T → t₂ ≡ T → f₀ ≡ F →
      (o' c' t' : List ℕ) (f' : List Bool) → o' ≡ mended o₀ c₀ t₀ e f → Moved c₁ t₁ (get_or t₁ (prev e) 0) (next (get_or t₁ (next f) 0)) w c' →
      length c' ≡ length c₁ → t' ≡ crossed t₂ e f → f' ≡ set (set f₀ (e / 3) false) (f / 3) false →
      Steps x e f w (with_items x.corners c').items (with_items x.twin t').items (with_items x.out o').items (with_items x.triangles f').items (set V u false)
  steps f u w pf pu pw o₀ c₀ t₀ c₁ t₁ t₂ f₀ io ic it jc jt kt jf o' c' t' f' po pc lc pt pf' =
      record {
        f_is = f_is f pf;
        w_is = w_is f pf w pw;
        corners_is =
            let q : (with_items x.corners c').items ≡ c' = refilled_as x.corners c' c' refl (lc ∙ ap length jc) in
            let m : Moved C T (get_or T (prev e) 0) (next (get_or T (next f) 0)) w c' =
            subst (λ c. Moved c T (get_or T (prev e) 0) (next (get_or T (next f) 0)) w c') jc
            (subst (λ t. Moved c₁ t (get_or t (prev e) 0) (next (get_or t (next f) 0)) w c') jt pc) in
            subst (Moved C T (get_or T (prev e) 0) (next (get_or T (next f) 0)) w) (sym q) m;
        twin_is = refilled_as x.twin t' (crossed T e f) (pt ∙ ap (λ t. crossed t e f) kt) (simp length-set);
        out_is =
            refilled_as x.out o' (mended O C T e f)
            (po ∙ ap (λ o. mended o c₀ t₀ e f) io ∙ ap (λ c. mended O c t₀ e f) ic ∙ ap (λ t. mended O C t e f) it) (simp length-set);
        triangles_is = refilled_as x.triangles f' (set (set F (e / 3) false) (f / 3) false) (pf' ∙ ap (λ t. set (set t (e / 3) false) (f / 3) false) jf) (simp length-set);
        vertices_is = ap (λ v. set V v false) (entry x.corners e u (let s = beside.e_here in let t = (sized x).twin_long in omega arith) pu);
      }

  module _ {f w : ℕ} {corners twin out : List ℕ} {triangles vertices : List Bool} (H : Steps x e f w corners twin out triangles vertices) where
    w_to : w ≡ (held x).corner (next e)
    unfolding read
    w_to = H.w_is ∙ ap (λ g. get_or C g 0) H.f_is ∙ joining.f_from x e live

    pub corners_are : CornersAre (collapsed x e) corners
    corners_are =
        joining.corners_are x e live corners
        (subst (λ v. Moved C T (get_or T (prev e) 0) (next (get_or T (next (get_or T e 0)) 0)) v corners) w_to
        (subst (λ g. Moved C T (get_or T (prev e) 0) (next (get_or T (next g) 0)) w corners) H.f_is H.corners_is))

    pub triangles_are : TrianglesAre (collapsed x e) triangles
    triangles_are = rw (H.triangles_is, H.f_is) (joining.triangles_are x e live)

    pub vertices_are : VerticesAre (collapsed x e) vertices
    unfolding read
    vertices_are = rw H.vertices_is (joining.vertices_are x e live)

    now_is : read corners triangles vertices ≡ collapsed x e
    now_is = read_is (collapsed x e) corners triangles vertices corners_are triangles_are vertices_are

    pub closed_now : ∥ Closed (collapsed x e) ∥₁ → ∥ Closed (read corners triangles vertices) ∥₁
    closed_now c = rw now_is c

    twin_is : twin ≡ crossed T e (get_or T e 0)
    twin_is = H.twin_is ∙ ap (crossed T e) H.f_is

    pub twins_now : TwinsLive (read corners triangles vertices) twin
    twins_now = rw (now_is, twin_is) (joining.twins_are x e live)

    pub twins_kept : (h : ℕ) → (collapsed x e).alive (h / 3) ≡ false → get_or twin h 0 ≡ get_or T h 0
    twins_kept h l = ap (λ t. get_or t h 0) twin_is ∙ joining.twins_kept x e live h l

    out_to : out ≡ mended O C T e (get_or T e 0)
    out_to = H.out_is ∙ ap (mended O C T e) H.f_is

    pub outs_now : OutLive (read corners triangles vertices) out
    outs_now = rw (now_is, out_to) (joining.outs_are x e live)

    pub outs_kept : (v : ℕ) → (held x).present v ≡ false → get_or out v 0 ≡ get_or O v 0
    outs_kept v n = ap (λ t. get_or t v 0) out_to ∙ joining.outs_kept x e live v n

    pub out_is : get_or out ((held x).corner e) 0 ≡ e
    out_is = ap (λ t. get_or t ((held x).corner e) 0) out_to ∙ joining.out_is x e live
