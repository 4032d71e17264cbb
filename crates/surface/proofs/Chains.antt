-- Chains of sides: they join, turn back, and are kept by a pinch.
use Rattle.std.proofs.Common.{◌≡◌, ℕ, ◌⊎◌, sym, refl, ◌∙◌, subst, inl, inr}
use Rattle.surface.specs.Surface.{Surface, Tri, Side}
use Rattle.surface.specs.Pieces.{Chain, end, along}
use Rattle.surface.proofs.Tris.{spin, spin2, moved}
use Rattle.surface.proofs.Sealed.{Sealed}
use Rattle.surface.proofs.Pinch.{Pinch, swap, Gone, uwa, wau, auw, wub, ubw, bwu, fate}
use Rattle.surface.proofs.Local.{Lives, touch, new_aw, new_ua}

module _ {S : Surface} where
  pub chain_from : {x x' y : ℕ} → x ≡ x' → Chain S x y → Chain S x' y
  chain_from {y = y} p c = subst (λ (n : ℕ). Chain S n y) p c

  pub chain_to : {x y y' : ℕ} → y ≡ y' → Chain S x y → Chain S x y'
  chain_to {x} p c = subst (λ (n : ℕ). Chain S x n) p c

  pub chain_then : {x y z : ℕ} → Chain S x y → Chain S y z → Chain S x z
  chain_then end d = d
  chain_then (along t c) d = along t (chain_then c d)

  -- the way back along a side goes round its triangle
  pub chain_back : {x y : ℕ} → Chain S x y → Chain S y x
  chain_back end = end
  chain_back (along t c) = chain_then (chain_back c) (along (spin t) (along (spin2 t) end))

module _ {S N : Surface} {φ : ℕ → ℕ} (K : Sealed S) {e f u w a b : ℕ} (P : Pinch S N φ e f u w a b) where
  onward : {x y k : ℕ} → Side N x y → Chain N y k → Chain N x k
  onward j c = along j.2 c

  step : {h x y z k : ℕ} → Tri S h x y z → Lives N h ⊎ Gone u w a b x y z → Chain N (φ y) k → Chain N (φ x) k
  step t (inl l) c = along (P.I.up t l) c
  step t (inr (uwa i j m)) c = chain_from (sym (touch K P i j)) c
  step t (inr (wau i j m)) c = onward (new_aw K P j i) c
  step t (inr (auw i j m)) c = onward (new_ua K P j i) c
  step t (inr (wub i j m)) c = chain_from (touch K P j i) c
  step t (inr (ubw i j m)) c = onward (new_aw K (swap P) j i) c
  step t (inr (bwu i j m)) c = onward (new_ua K (swap P) j i) c

  pub kept : {x y : ℕ} → Chain S x y → Chain N (φ x) (φ y)
  kept end = end
  kept (along t c) = step t (fate K P t) (kept c)

  hop : (x y : ℕ) → φ x ≡ φ y → Chain S x y
  hop x y p = go (P.J.split x y p)
    where
      go : (x ≡ y) ⊎ (((x ≡ u) × (y ≡ w)) ⊎ ((x ≡ w) × (y ≡ u))) → Chain S x y
      go (inl i) = chain_from (sym i) end
      go (inr (inl (i, j))) = along (moved (sym i) (sym j) refl P.te) end
      go (inr (inr (i, j))) = along (moved (sym i) (sym j) refl P.tf) end

  pub unkept : {x y : ℕ} → Chain N x y → (p q : ℕ) → φ p ≡ x → φ q ≡ y → Chain S p q
  unkept end p q i j = hop p q (i ∙ sym j)
  unkept (along t c) p q i j = let (p', q', r, s, i', j', k) = P.I.down t in chain_then (hop p p' (i ∙ sym i')) (along s (unkept c q' q j' j))
