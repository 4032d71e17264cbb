-- What half-edges keep to, for the proofs.
use Rattle.std.proofs.Common.{◌≡◌, ℕ, ◌+◌, ◌*◌, ◌/◌, ◌<◌, ◌≤◌, Bool, true, List, length, get_or, vec_items, Vec, sym, ap, ◌∙◌, arith}
use Rattle.std.proofs.lemmas.List.{with_items_is, get_or_read}
use Rattle.std.specs.Vec.{with_items}
use Rattle.surface.specs.Surface.{Surface, Tri}
use Rattle.surface.specs.Read.{read}
use Rattle.surface.proofs.Sealed.{Sealed}
use Rattle.surface.proofs.FromRings.{sealed}
use Rattle.surface.proofs.Found.{closed_found}
use Rattle.mesh.specs.Model.{held}
use Rattle.mesh.specs.Kept.{CornersAre, TrianglesAre, VerticesAre}
use Rattle.mesh.specs.declared.halfedges.HalfEdges.{HalfEdges}
use Rattle.mesh.proofs.Puts.{true_low}

-- lists of one size
pub record Sized (corners twin out : List ℕ) (triangles vertices : List Bool) : Type 0 where
  pub few : length corners ≤ 6144
  pub threes : length corners ≡ 3 * length triangles
  pub twin_long : length twin ≡ length corners
  pub out_long : length out ≡ length vertices

module _ (x : HalfEdges) where
  pub sized : Sized (vec_items x.corners) (vec_items x.twin) (vec_items x.out) (vec_items x.triangles) (vec_items x.vertices)
  sized =
      let few = x.few in
      let threes = x.threes in
      let twin_long = x.twin_long in
      let out_long = x.out_long in
      let c = x.corners.ok.0 in
      let t = x.twin.ok.0 in
      let o = x.out.ok.0 in
      let f = x.triangles.ok.0 in
      let v = x.vertices.ok.0 in
      record { few = omega arith; threes = omega arith; twin_long = omega arith; out_long = omega arith }

  pub sealed_held : Sealed (held x)
  sealed_held = sealed (closed_found (held x) x.closed)

  -- a half-edge of a live triangle is in the lists, with its triangle
  pub tri_triangle : {h a b c : ℕ} → Tri (held x) h a b c → h / 3 < length (vec_items x.triangles)
  unfolding read
  tri_triangle {h} t = true_low (vec_items x.triangles) (h / 3) t.lives

  pub tri_low : {h a b c : ℕ} → Tri (held x) h a b c → 3 * (h / 3) + 2 < length (vec_items x.corners)
  tri_low t = omega (arith, tri_triangle t, sized.threes)

  pub tri_twin : {h a b c : ℕ} → Tri (held x) h a b c → h < length (vec_items x.twin)
  tri_twin t = omega (arith, tri_low t, sized.twin_long)

  pub present_low : (v : ℕ) → (held x).present v ≡ true → v < length (vec_items x.vertices)
  unfolding read
  present_low v p = true_low (vec_items x.vertices) v p

-- lists that hold a surface entry for entry
pub read_is : (S : Surface) (corners : List ℕ) (triangles vertices : List Bool) →
    CornersAre S corners → TrianglesAre S triangles → VerticesAre S vertices → read corners triangles vertices ≡ S
unfolding read
read_is S corners triangles vertices c t v = λ i. record { corner = λ h. c h i; alive = λ k. t k i; present = λ k. v k i }

-- a Vec that is filled anew with as many entries
pub refilled_as : {X Z : Type 0} (v : Vec X Z) (ws us : List X) → ws ≡ us → length us ≡ length v.items → (with_items v ws).items ≡ us
refilled_as v ws us p q = with_items_is v ws (ap length p ∙ q ∙ sym v.ok.0) ∙ p

-- an entry that was read
pub entry : {Z : Type 0} (v : Vec ℕ Z) (i x : ℕ) → i < length v.items → x ≡ get_or v.items i x → x ≡ get_or v.items i 0
entry v i x l p = get_or_read v.items i x l p 0
