-- Identities of polynomials of degree 2 in a point (p, q, r).
use Rattle.std.proofs.Common.{◌≡◌, ℕ, ◌+◌, [], ◌∷◌, get_or, ℤ, pos, ◌+ℤ◌, ◌-ℤ◌, ◌*ℤ◌, neg_ℤ, refl}
use Rattle.mesh.proofs.Polynomials.{Exp, var, num, plus, less, times, solve}

infixl 6 ◌⊕◌
infixl 7 ◌⊗◌
abbrev ◌⊕◌ : Exp → Exp → Exp
a ⊕ b = plus a b

abbrev ◌⊗◌ : Exp → Exp → Exp
a ⊗ b = times a b

abbrev O : Exp
O = num (pos 0)

-- a p + b q + c r + d
abbrev pub affine : ℤ → ℤ → ℤ → ℤ → ℤ → ℤ → ℤ → ℤ
affine a b c d p q r = a *ℤ p +ℤ b *ℤ q +ℤ c *ℤ r +ℤ d

abbrev affine_of : Exp → Exp → Exp → Exp → Exp → Exp → Exp → Exp
affine_of a b c d p q r = a ⊗ p ⊕ b ⊗ q ⊕ c ⊗ r ⊕ d

-- the polynomial with these coefficients
abbrev pub poly : ℤ → ℤ → ℤ → ℤ → ℤ → ℤ → ℤ → ℤ → ℤ → ℤ → ℤ → ℤ → ℤ → ℤ
poly xx yy zz xy xz yz x y z one p q r =
    xx *ℤ (p *ℤ p) +ℤ yy *ℤ (q *ℤ q) +ℤ zz *ℤ (r *ℤ r) +ℤ xy *ℤ (p *ℤ q) +ℤ xz *ℤ (p *ℤ r) +ℤ yz *ℤ (q *ℤ r) +ℤ x *ℤ p +ℤ y *ℤ q +ℤ z *ℤ r +ℤ one

abbrev poly_of : Exp → Exp → Exp → Exp → Exp → Exp → Exp → Exp → Exp → Exp → Exp → Exp → Exp → Exp
poly_of xx yy zz xy xz yz x y z one p q r =
    xx ⊗ (p ⊗ p) ⊕ yy ⊗ (q ⊗ q) ⊕ zz ⊗ (r ⊗ r) ⊕ xy ⊗ (p ⊗ q) ⊕ xz ⊗ (p ⊗ r) ⊕ yz ⊗ (q ⊗ r) ⊕ x ⊗ p ⊕ y ⊗ q ⊕ z ⊗ r ⊕ one

abbrev at : Exp → Exp → Exp → Exp → Exp
at a b c d = affine_of a b c d (var 10) (var 11) (var 12)

-- nested
pub poly_nested : (xx yy zz xy xz yz x y z one p q r : ℤ) →
    affine (affine xx xy xz x p q r) (affine (pos 0) yy yz y p q r) (affine (pos 0) (pos 0) zz z p q r) one p q r ≡ poly xx yy zz xy xz yz x y z one p q r
poly_nested xx yy zz xy xz yz x y z one p q r =
    solve (λ v. get_or (xx ∷ yy ∷ zz ∷ xy ∷ xz ∷ yz ∷ x ∷ y ∷ z ∷ one ∷ p ∷ q ∷ r ∷ []) v (pos 0))
    (at (at (var 0) (var 3) (var 4) (var 6)) (at O (var 1) (var 5) (var 7)) (at O O (var 2) (var 8)) (var 9))
    (poly_of (var 0) (var 1) (var 2) (var 3) (var 4) (var 5) (var 6) (var 7) (var 8) (var 9) (var 10) (var 11) (var 12)) refl

abbrev both : ℕ → Exp
both k = var k ⊕ var (10 + k)

-- the sum of two, coefficient by coefficient
pub poly_plus : (a b c d e f g h i j a' b' c' d' e' f' g' h' i' j' p q r : ℤ) →
    poly (a +ℤ a') (b +ℤ b') (c +ℤ c') (d +ℤ d') (e +ℤ e') (f +ℤ f') (g +ℤ g') (h +ℤ h') (i +ℤ i') (j +ℤ j') p q r ≡ poly a b c d e f g h i j p q r +ℤ poly a' b' c' d' e' f' g' h' i' j' p q r
poly_plus a b c d e f g h i j a' b' c' d' e' f' g' h' i' j' p q r =
    solve (λ v. get_or (a ∷ b ∷ c ∷ d ∷ e ∷ f ∷ g ∷ h ∷ i ∷ j ∷ a' ∷ b' ∷ c' ∷ d' ∷ e' ∷ f' ∷ g' ∷ h' ∷ i' ∷ j' ∷ p ∷ q ∷ r ∷ []) v (pos 0))
    (poly_of (both 0) (both 1) (both 2) (both 3) (both 4) (both 5) (both 6) (both 7) (both 8) (both 9) (var 20) (var 21) (var 22))
    (poly_of (var 0) (var 1) (var 2) (var 3) (var 4) (var 5) (var 6) (var 7) (var 8) (var 9) (var 20) (var 21) (var 22)
    ⊕ poly_of (var 10) (var 11) (var 12) (var 13) (var 14) (var 15) (var 16) (var 17) (var 18) (var 19) (var 20) (var 21) (var 22))
    refl

pub poly_zero : (p q r : ℤ) → poly (pos 0) (pos 0) (pos 0) (pos 0) (pos 0) (pos 0) (pos 0) (pos 0) (pos 0) (pos 0) p q r ≡ pos 0
poly_zero p q r = solve (λ v. get_or (p ∷ q ∷ r ∷ []) v (pos 0)) (poly_of O O O O O O O O O O (var 0) (var 1) (var 2)) O refl

abbrev twice : ℕ → ℕ → Exp
twice i j = num (pos 2) ⊗ (var i ⊗ var j)

abbrev flat : Exp
flat = affine_of (var 0) (var 1) (var 2) (var 3) (var 4) (var 5) (var 6)

-- the square of a p + b q + c r + d
pub poly_square : (a b c d p q r : ℤ) →
    poly (a *ℤ a) (b *ℤ b) (c *ℤ c) (pos 2 *ℤ (a *ℤ b)) (pos 2 *ℤ (a *ℤ c)) (pos 2 *ℤ (b *ℤ c)) (pos 2 *ℤ (a *ℤ d)) (pos 2 *ℤ (b *ℤ d)) (pos 2 *ℤ (c *ℤ d)) (d *ℤ d) p q r
    ≡ affine a b c d p q r *ℤ affine a b c d p q r
poly_square a b c d p q r =
    solve (λ v. get_or (a ∷ b ∷ c ∷ d ∷ p ∷ q ∷ r ∷ []) v (pos 0))
    (poly_of (var 0 ⊗ var 0) (var 1 ⊗ var 1) (var 2 ⊗ var 2) (twice 0 1) (twice 0 2) (twice 1 2) (twice 0 3) (twice 1 3) (twice 2 3) (var 3 ⊗ var 3) (var 4) (var 5) (var 6))
    (flat ⊗ flat) refl

-- n · p - n · a is n · (p - a)
pub dot_minus : (a b c x y z p q r : ℤ) → affine a b c (neg_ℤ (a *ℤ x +ℤ b *ℤ y +ℤ c *ℤ z)) p q r ≡ a *ℤ (p -ℤ x) +ℤ b *ℤ (q -ℤ y) +ℤ c *ℤ (r -ℤ z)
dot_minus a b c x y z p q r =
    solve (λ v. get_or (a ∷ b ∷ c ∷ x ∷ y ∷ z ∷ p ∷ q ∷ r ∷ []) v (pos 0))
    (less (var 0 ⊗ var 6 ⊕ var 1 ⊗ var 7 ⊕ var 2 ⊗ var 8) (var 0 ⊗ var 3 ⊕ var 1 ⊗ var 4 ⊕ var 2 ⊗ var 5))
    (var 0 ⊗ less (var 6) (var 3) ⊕ var 1 ⊗ less (var 7) (var 4) ⊕ var 2 ⊗ less (var 8) (var 5)) refl
