-- Quadrics, coefficient by coefficient.
use Rattle.std.proofs.Common.{◌≡◌, ℕ, ℤ, pos, ◌*ℤ◌, neg_ℤ, ap, ◌∙◌, lit<, w64, to_z, of_z}
use lib.IntN.{+ℤ_idr}
use Rattle.surface.specs.Geometry.{Vector, dot, normal}
use Rattle.geometry.specs.Values.{Bounded, vector_of, value_of}
use Rattle.geometry.specs.declared.Normal.{Normal}
use Rattle.geometry.specs.declared.Position.{Position}
use Rattle.geometry.proofs.Bounds.{fits_64, same_64}
use Rattle.planes.specs.Quadrics.{residue, difference, at_point, square_of, quadric}
use Rattle.planes.specs.declared.quadric.Quadric.{Quadric}
use Rattle.planes.proofs.Residues.{Same, same, same_path, same_trans, same_residue, same_bits, negative, same_sum, same_product}
use Rattle.planes.proofs.Identities.{affine, poly_nested}

pub same_quadric : (q r : Quadric) → q.xx ≡ r.xx → q.yy ≡ r.yy → q.zz ≡ r.zz → q.xy ≡ r.xy → q.xz ≡ r.xz → q.yz ≡ r.yz →
    q.x ≡ r.x → q.y ≡ r.y → q.z ≡ r.z → q.one ≡ r.one → q ≡ r
same_quadric q r xx yy zz xy xz yz x y z one = λ i. record { xx = xx i; yy = yy i; zz = zz i; xy = xy i; xz = xz i; yz = yz i; x = x i; y = y i; z = z i; one = one i }

-- a square is told from the residues of what is squared
square_same : {a a' b b' c c' d d' : ℤ} → Same a a' → Same b b' → Same c c' → Same d d' → square_of a b c d ≡ square_of a' b' c' d'
unfolding square_of
square_same {a} {a'} {b} {b'} {c} {c'} {d} {d'} i j k l =
    same_quadric (square_of a b c d) (square_of a' b' c' d') (same_product i i).is (same_product j j).is (same_product k k).is
    (twice i j) (twice i k) (twice j k) (twice i l) (twice j l) (twice k l) (same_product l l).is
  where
    twice : {x x' y y' : ℤ} → Same x x' → Same y y' → residue (pos 2 *ℤ (x *ℤ y)) ≡ residue (pos 2 *ℤ (x' *ℤ y'))
    twice p q = (same_product (same (pos 2)) (same_product p q)).is

affine_same : {a a' b b' c c' d d' : ℤ} (x y z : ℤ) → Same a a' → Same b b' → Same c c' → Same d d' → Same (affine a b c d x y z) (affine a' b' c' d' x y z)
affine_same x y z i j k l = same_sum (same_sum (same_sum (same_product i (same x)) (same_product j (same y))) (same_product k (same z))) l

same_known : {n : ℕ} (z : ℤ) → n ≡ residue z → Same (pos n) z
same_known z e = same_trans (same_path (ap pos e)) (same_residue z)

-- the value of a polynomial, nested
pub at_nested : (q : Quadric) (p : Position) (a b c r : ℕ) →
    a ≡ residue (affine (pos q.xx) (pos q.xy) (pos q.xz) (pos q.x) (pos p.x) (pos p.y) (pos p.z)) →
    b ≡ residue (affine (pos 0) (pos q.yy) (pos q.yz) (pos q.y) (pos p.x) (pos p.y) (pos p.z)) →
    c ≡ residue (affine (pos 0) (pos 0) (pos q.zz) (pos q.z) (pos p.x) (pos p.y) (pos p.z)) →
    r ≡ residue (affine (pos a) (pos b) (pos c) (pos q.one) (pos p.x) (pos p.y) (pos p.z)) →
    r ≡ at_point q (vector_of p)
unfolding at_point
at_nested q p a b c r i j k l =
    let X : ℤ = pos p.x in
    let Y : ℤ = pos p.y in
    let Z : ℤ = pos p.z in
    let A : ℤ = affine (pos q.xx) (pos q.xy) (pos q.xz) (pos q.x) X Y Z in
    let B : ℤ = affine (pos 0) (pos q.yy) (pos q.yz) (pos q.y) X Y Z in
    let C : ℤ = affine (pos 0) (pos 0) (pos q.zz) (pos q.z) X Y Z in
    l
    ∙ (affine_same X Y Z (same_known A i) (same_known B j) (same_known C k) (same (pos q.one))).is
    ∙ ap residue (poly_nested (pos q.xx) (pos q.yy) (pos q.zz) (pos q.xy) (pos q.xz) (pos q.yz) (pos q.x) (pos q.y) (pos q.z) (pos q.one) X Y Z)

-- the quadric of a triangle, from its normal in machine integers
pub quadric_made : (p q r : Position) (n : Normal) (x y z o : ℕ) (k : Quadric) →
    value_of n ≡ normal (vector_of p) (vector_of q) (vector_of r) → Bounded 130050 n.x × Bounded 130050 n.y × Bounded 130050 n.z →
    x ≡ of_z w64 (to_z w64 (of_z w64 n.x)) → y ≡ of_z w64 (to_z w64 (of_z w64 n.y)) → z ≡ of_z w64 (to_z w64 (of_z w64 n.z)) →
    o ≡ residue (affine (pos x) (pos y) (pos z) (pos 0) (pos p.x) (pos p.y) (pos p.z)) →
    k ≡ square_of (pos x) (pos y) (pos z) (pos (difference 0 o)) → k ≡ quadric (vector_of p) (vector_of q) (vector_of r)
unfolding quadric
quadric_made p q r n x y z o k is b i j l m e =
    let N : Vector = normal (vector_of p) (vector_of q) (vector_of r) in
    let A : Vector = vector_of p in
    let sx : Same (pos x) N.x = same_trans (cast x n.x b.0 i) (same_path (ap (λ (v : Vector). v.x) is)) in
    let sy : Same (pos y) N.y = same_trans (cast y n.y b.1 j) (same_path (ap (λ (v : Vector). v.y) is)) in
    let sz : Same (pos z) N.z = same_trans (cast z n.z b.2 l) (same_path (ap (λ (v : Vector). v.z) is)) in
    let so : o ≡ residue (dot N A) = m ∙ (affine_same A.x A.y A.z sx sy sz (same (pos 0))).is ∙ ap residue (+ℤ_idr (dot N A)) in
    let sd : Same (pos (difference 0 o)) (neg_ℤ (dot N A)) = same_known (neg_ℤ (dot N A)) (ap (difference 0) so ∙ negative (dot N A)) in
    e ∙ square_same sx sy sz sd
  where
    cast : (t : ℕ) (v : ℤ) → Bounded 130050 v → t ≡ of_z w64 (to_z w64 (of_z w64 v)) → Same (pos t) v
    cast t v h f = same_trans (same_path (ap pos (f ∙ ap (of_z w64) (same_64 130050 v h (lit< tt))))) (same_bits v (fits_64 130050 v h (lit< tt)))
