-- A live triangle with the same corners in two surfaces, before a collapse and after it.
use Rattle.std.proofs.Common.{◌≡◌, ℕ, ◌+◌, ◌*◌, ◌/◌, true, ◌⊎◌, sym, refl, ap, ◌∙◌, inl, inr, arith}
use Rattle.surface.specs.Surface.{Surface, Tri}
use Rattle.surface.specs.Geometry.{Vector, normal_at}
use Rattle.surface.specs.Collapse.{falls, collapse, Holds}
use Rattle.surface.specs.Changes.{SameStar}
use Rattle.surface.proofs.Tris.{next_third, second_is, third_is, spin, spin2, moved, renumber, first_of}

pub same_star_swap : {S N : Surface} {x : ℕ} → SameStar S N x → SameStar N S x
same_star_swap Q = record { there = Q.back; back = Q.there }

-- a live triangle that holds x is the same in both
same_triangle : (S N : Surface) (x t : ℕ) → SameStar S N x → S.alive t ≡ true → Holds S t x →
    Tri N (3 * t) (S.corner (3 * t)) (S.corner (3 * t + 1)) (S.corner (3 * t + 2))
same_triangle S N x t Q l o = go (first_of S t l) o
  where
    go : {a b c : ℕ} → Tri S (3 * t) a b c → (a ≡ x) ⊎ ((b ≡ x) ⊎ (c ≡ x)) → Tri N (3 * t) a b c
    go {a} {b} {c} s (inl i) = moved (sym i) refl refl (Q.there _ _ _ (moved i refl refl s))
    go {a} {b} {c} s (inr (inl i)) = renumber (next_third (3 * t)) (spin2 (moved (sym i) refl refl (Q.there _ _ _ (moved i refl refl (spin s)))))
    go {a} {b} {c} s (inr (inr i)) = renumber (next_third (3 * t)) (spin (moved (sym i) refl refl (Q.there _ _ _ (moved i refl refl (spin2 s)))))

-- triangle t is live in both, with the same corners
pub record Alike (S N : Surface) (t : ℕ) : Type 0 where
  pub one : S.alive t ≡ true
  pub two : N.alive t ≡ true
  pub first : S.corner (3 * t) ≡ N.corner (3 * t)
  pub second : S.corner (3 * t + 1) ≡ N.corner (3 * t + 1)
  pub third : S.corner (3 * t + 2) ≡ N.corner (3 * t + 2)

pub alike : (S N : Surface) (x t : ℕ) → SameStar S N x → S.alive t ≡ true → Holds S t x → Alike S N t
alike S N x t Q l o =
    let k = same_triangle S N x t Q l o in
    let p : (3 * t) / 3 ≡ t = omega arith in
    record {
      one = l;
      two = ap N.alive (sym p) ∙ k.lives;
      first = sym k.from;
      second = sym k.to ∙ ap N.corner (second_is t);
      third = sym k.third ∙ ap N.corner (third_is t);
    }

module _ {S N : Surface} {t : ℕ} (A : Alike S N t) where
  pub alike_holds : (v : ℕ) → Holds S t v → Holds N t v
  alike_holds v (inl i) = inl (sym A.first ∙ i)
  alike_holds v (inr (inl i)) = inr (inl (sym A.second ∙ i))
  alike_holds v (inr (inr i)) = inr (inr (sym A.third ∙ i))

  pub alike_normal : (P : ℕ → Vector) → normal_at S P t ≡ normal_at N P t
  alike_normal P = rw (A.first, A.second, A.third)

  alike_falls : (u w : ℕ) → falls S u w t ≡ falls N u w t
  unfolding falls
  alike_falls u w = rw (A.first, A.second, A.third)

  alike_corner : (u w h : ℕ) → h / 3 ≡ t → S.corner h ≡ N.corner h → (collapse S u w).corner h ≡ (collapse N u w).corner h
  unfolding collapse
  alike_corner u w h p i = rw (p, A.one, A.two, alike_falls u w, i)

  pub alike_after : (P : ℕ → Vector) (u w : ℕ) → normal_at (collapse S u w) P t ≡ normal_at (collapse N u w) P t
  alike_after P u w =
      let p : (collapse S u w).corner (3 * t) ≡ (collapse N u w).corner (3 * t) = alike_corner u w (3 * t) (omega arith) A.first in
      let q : (collapse S u w).corner (3 * t + 1) ≡ (collapse N u w).corner (3 * t + 1) = alike_corner u w (3 * t + 1) (omega arith) A.second in
      let r : (collapse S u w).corner (3 * t + 2) ≡ (collapse N u w).corner (3 * t + 2) = alike_corner u w (3 * t + 2) (omega arith) A.third in
      rw (p, q, r)

pub alike_swap : {S N : Surface} {t : ℕ} → Alike S N t → Alike N S t
alike_swap A = record { one = A.two; two = A.one; first = sym A.first; second = sym A.second; third = sym A.third }
