-- The values of quadrics at a point.
use Rattle.std.proofs.Common.{◌≡◌, ℕ, ◌*◌, ℤ, pos, negsuc, ◌+ℤ◌, ◌*ℤ◌, neg_ℤ, nat_abs, sym, refl, ap, ◌∙◌}
use Rattle.surface.specs.Geometry.{Vector, six_volume, normal, dot}
use Rattle.planes.specs.declared.quadric.Quadric.{Quadric}
use Rattle.planes.specs.Quadrics as quadrics
use Rattle.planes.specs.Quadrics.{residue, sum, plus, at_point, square_of, quadric}
use Rattle.planes.proofs.Residues.{Same, same, same_residue, same_sum, same_product, residue_sum}
use Rattle.planes.proofs.Identities.{affine, poly, poly_plus, poly_zero, poly_square, dot_minus}

-- a polynomial is told, modulo 2 ^ 64, from the residues of its coefficients
poly_same : {xx xx' yy yy' zz zz' xy xy' xz xz' yz yz' x x' y y' z z' one one' : ℤ} (p q r : ℤ) →
    Same xx xx' → Same yy yy' → Same zz zz' → Same xy xy' → Same xz xz' → Same yz yz' → Same x x' → Same y y' → Same z z' → Same one one' →
    Same (poly xx yy zz xy xz yz x y z one p q r) (poly xx' yy' zz' xy' xz' yz' x' y' z' one' p q r)
poly_same p q r xx yy zz xy xz yz x y z one =
    same_sum (more r z (more q y (more p x (more (q *ℤ r) yz (more (p *ℤ r) xz (more (p *ℤ q) xy (more (r *ℤ r) zz (more (q *ℤ q) yy (same_product xx (same (p *ℤ p))))))))))) one
  where
    more : {a a' c c' : ℤ} (m : ℤ) → Same c c' → Same a a' → Same (a +ℤ c *ℤ m) (a' +ℤ c' *ℤ m)
    more m i j = same_sum j (same_product i (same m))

-- of a sum
pub at_plus : (q r : Quadric) (p : Vector) → at_point (plus q r) p ≡ sum (at_point q p) (at_point r p)
unfolding at_point plus
at_plus q r p =
    (poly_same p.x p.y p.z (both q.xx r.xx) (both q.yy r.yy) (both q.zz r.zz) (both q.xy r.xy) (both q.xz r.xz) (both q.yz r.yz)
    (both q.x r.x) (both q.y r.y) (both q.z r.z) (both q.one r.one)).is
    ∙ ap residue
    (poly_plus (pos q.xx) (pos q.yy) (pos q.zz) (pos q.xy) (pos q.xz) (pos q.yz) (pos q.x) (pos q.y) (pos q.z) (pos q.one)
    (pos r.xx) (pos r.yy) (pos r.zz) (pos r.xy) (pos r.xz) (pos r.yz) (pos r.x) (pos r.y) (pos r.z) (pos r.one) p.x p.y p.z)
    ∙ sym (residue_sum (exact q) (exact r))
  where
    both : (a b : ℕ) → Same (pos (sum a b)) (pos a +ℤ pos b)
    both a b = same_residue (pos a +ℤ pos b)

    exact : Quadric → ℤ
    exact k = poly (pos k.xx) (pos k.yy) (pos k.zz) (pos k.xy) (pos k.xz) (pos k.yz) (pos k.x) (pos k.y) (pos k.z) (pos k.one) p.x p.y p.z

pub at_zero : (p : Vector) → at_point quadrics.zero p ≡ 0
unfolding at_point
at_zero p = ap residue (poly_zero p.x p.y p.z)

-- of a square
at_square : (a b c d : ℤ) (p : Vector) → at_point (square_of a b c d) p ≡ residue (affine a b c d p.x p.y p.z *ℤ affine a b c d p.x p.y p.z)
unfolding at_point square_of
at_square a b c d p =
    (poly_same p.x p.y p.z (same_residue (a *ℤ a)) (same_residue (b *ℤ b)) (same_residue (c *ℤ c))
    (same_residue (pos 2 *ℤ (a *ℤ b))) (same_residue (pos 2 *ℤ (a *ℤ c))) (same_residue (pos 2 *ℤ (b *ℤ c)))
    (same_residue (pos 2 *ℤ (a *ℤ d))) (same_residue (pos 2 *ℤ (b *ℤ d))) (same_residue (pos 2 *ℤ (c *ℤ d))) (same_residue (d *ℤ d))).is
    ∙ ap residue (poly_square a b c d p.x p.y p.z)

square_whole : (v : ℤ) → v *ℤ v ≡ pos (nat_abs v * nat_abs v)
square_whole (pos n) = refl
square_whole (negsuc n) = refl

-- of a triangle: the square of its six-volume
pub at_quadric : (a b c p : Vector) → at_point (quadric a b c) p ≡ residue (pos (nat_abs (six_volume a b c p) * nat_abs (six_volume a b c p)))
unfolding quadric
at_quadric a b c p =
    let n : Vector = normal a b c in
    at_square n.x n.y n.z (neg_ℤ (dot n a)) p
    ∙ ap (λ (v : ℤ). residue (v *ℤ v)) (dot_minus n.x n.y n.z a.x a.y a.z p.x p.y p.z)
    ∙ ap residue (square_whole (six_volume a b c p))
