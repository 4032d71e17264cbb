-- Which half-edges a walk round a vertex meets.
use Rattle.std.proofs.Common.{◌≡◌, ℕ, true, ◌⊎◌, refl, inl, inr}
use Rattle.surface.specs.Surface.{Surface, next, Tri}
use Rattle.surface.specs.Closed.{Closed}
use Rattle.surface.proofs.Tris.{moved, tri_at}
use Rattle.mesh.specs.Held.{opposite}
use Rattle.mesh.proofs.Reading.{opposite_tri}
use Rattle.mesh.proofs.Twins.{tri_opposite}
use Rattle.opened_surface.specs.Mending.{Touches}

-- k is g or runs opposite to it
abbrev pub Pair : Surface → ℕ → ℕ → Type 0
Pair S g k = (k ≡ g) ⊎ (opposite S g k ≡ true)

-- one half-edge runs opposite to g
pub pair_is : (S : Surface) → Closed S → (g r k : ℕ) → opposite S g r ≡ true → Pair S g k → (k ≡ g) ⊎ (k ≡ r)
pair_is S C g r k p (inl i) = inl i
pair_is S C g r k p (inr q) = inr (C.single _ _ _ _ _ _ (opposite_tri S g k q) (opposite_tri S g r p))

-- what touches x is met in pairs round x
pub touching : (S : Surface) → Closed S → (x k : ℕ) → Touches S x k → (g : ℕ) × (a : ℕ) × (b : ℕ) × Tri S g x a b × Pair S g k
touching S C x k (l, inl i) = (k, _, _, moved i refl refl (tri_at S k l), inl refl)
touching S C x k (l, inr i) =
    let t : Tri S k (S.corner k) x (S.corner (next (next k))) = moved refl i refl (tri_at S k l) in
    let (g, c, s) = C.matched _ _ _ _ t in
    (g, _, c, s, inr (tri_opposite S s t))
