-- The ends of a live half-edge of a mesh.
use Rattle.std.proofs.Common.{◌≡◌, ℕ, ◌/◌, ◌<◌, true, length, vec_items, sym, ap, ◌∙◌, arith}
use Rattle.surface.specs.Surface.{next, prev, Tri, Side}
use Rattle.surface.proofs.Tris.{spin, moved, tri_at}
use Rattle.mesh.specs.Model.{held, surface}
use Rattle.mesh.specs.declared.halfedges.HalfEdges.{HalfEdges}
use Rattle.mesh.specs.declared.mesh.Mesh.{Mesh}
use Rattle.mesh.proofs.Round.{corner_within}

-- a corner of a live triangle has a point
pub corner_placed : (m : Mesh) {h a b c : ℕ} → Tri (surface m) h a b c → a < length (vec_items m.positions)
corner_placed m t = let p = corner_within m.edges t in let q = m.vertices_long in let r = m.positions.ok.0 in omega arith

-- so what is said to be no side between two of n vertices is no live half-edge
pub not_live : (m : Mesh) (e : HalfEdges) → e ≡ m.edges → (h u w n : ℕ) → u ≡ (held e).corner h → w ≡ (held e).corner (next h) → n ≡ length (vec_items m.positions) →
    (Side (surface m) u w → u < n → w < n → ⊥) → (surface m).alive (h / 3) ≡ true → ⊥
not_live m e i h u w n j k q none l =
    let p : (held e).corner h ≡ (surface m).corner h = ap (λ x. (held x).corner h) i in
    let o : (held e).corner (next h) ≡ (surface m).corner (next h) = ap (λ x. (held x).corner (next h)) i in
    let t : Tri (surface m) h u w ((surface m).corner (prev h)) = moved (sym (j ∙ p)) (sym (k ∙ o)) (λ _. (surface m).corner (prev h)) (tri_at (surface m) h l) in
    let a = corner_placed m t in
    let b = corner_placed m (spin t) in
    none (h, _, t) (omega arith) (omega arith)
