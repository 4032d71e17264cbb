-- A quarter of each number below 256, by one computed test.
use Rattle.std.proofs.Common.{◌≡◌, ℕ, zero, suc, ◌*◌, ◌<◌, ◌≤◌, Bool, true, false, ◌&&◌, T, eqb, ℤ, pos, negsuc, sym, refl, ap, subst, inl, inr, eq-or-lt_of_le, arith, eqb→eq}
use lib.Ieee.{Float, nan, inf, fin, binary32, mul, div, of_int, of_bits, to_unsigned, up, down}
use lib.Ieee.Exact.{HasValue}
use Rattle.drawing.specs.Points.{Quarter}

and_left : (a b : Bool) → T (a && b) → T a
and_left true b t = tt
and_left false b t = t

and_right : (a b : Bool) → T (a && b) → T b
and_right true b t = t
and_right false b t = absurd t

below : (ℕ → Bool) → ℕ → Bool
below f zero = true
below f (suc n) = f n && below f n

at_below : (f : ℕ → Bool) (n : ℕ) → T (below f n) → (k : ℕ) → k < n → T (f k)
unfolding below
at_below f zero t k h = absurd (omega arith)
at_below f (suc n) t k h =
    let le : k ≤ n = omega arith in
    elim (eq-or-lt_of_le le) [ inl e ↦ subst (λ (j : ℕ). T (f j)) (sym e) (and_left (f n) (below f n) t) | inr l ↦ at_below f n (and_right (f n) (below f n) t) k l ]

same_z : ℤ → ℤ → Bool
same_z (pos m) (pos n) = eqb m n
same_z (pos m) (negsuc n) = false
same_z (negsuc m) (pos n) = false
same_z (negsuc m) (negsuc n) = eqb m n

same_Z→eq : (a b : ℤ) → T (same_z a b) → a ≡ b
unfolding same_z
same_Z→eq (pos m) (pos n) t = ap pos (eqb→eq m n t)
same_Z→eq (pos m) (negsuc n) t = absurd t
same_Z→eq (negsuc m) (pos n) t = absurd t
same_Z→eq (negsuc m) (negsuc n) t = ap negsuc (eqb→eq m n t)

-- both are finite, not negative and the same
same : Float → Float → Bool
same nan y = false
same (inf s) y = false
same (fin true m e) y = false
same (fin false m e) nan = false
same (fin false m e) (inf t) = false
same (fin false m e) (fin true n d) = false
same (fin false m e) (fin false n d) = eqb m n && same_z e d

same→eq : (x y : Float) → T (same x y) → x ≡ y
unfolding same
same→eq nan y t = absurd t
same→eq (inf s) y t = absurd t
same→eq (fin true m e) y t = absurd t
same→eq (fin false m e) nan t = absurd t
same→eq (fin false m e) (inf s) t = absurd t
same→eq (fin false m e) (fin true n d) t = absurd t
same→eq (fin false m e) (fin false n d) t =
    let p = eqb→eq m n (and_left (eqb m n) (same_z e d) t) in
    let q = same_Z→eq e d (and_right (eqb m n) (same_z e d) t) in
    cc

valued : Float → ℕ → ℕ → Bool
valued nan a c = false
valued (inf s) a c = false
valued (fin true m e) a c = false
valued (fin false m e) a c = eqb (m * up e * c) (a * down e)

valued→has : (x : Float) (a c : ℕ) → T (valued x a c) → HasValue x false a c
unfolding valued
valued→has nan a c t = t
valued→has (inf s) a c t = t
valued→has (fin true m e) a c t = absurd t
valued→has (fin false m e) a c t = (refl, eqb→eq (m * up e * c) (a * down e) t)

abbrev pub quarter_of : ℕ → Float
quarter_of n = div binary32 (of_int binary32 (pos n)) (of_bits binary32 1082130432)

right : ℕ → Bool
right n = valued (quarter_of n) n 4 && same (mul binary32 (quarter_of n) (fin false 1 (pos 2))) (of_int binary32 (pos n))

all : T (below right 256)
unfolding below right valued same same_z div mul of_int of_bits
all = tt

quarter_exact : (n : ℕ) → n < 256 → HasValue (quarter_of n) false n 4
unfolding right
quarter_exact n h = valued→has (quarter_of n) n 4 (and_left (valued (quarter_of n) n 4) (same (mul binary32 (quarter_of n) (fin false 1 (pos 2))) (of_int binary32 (pos n))) (at_below right 256 all n h))

quarter_back : (n : ℕ) → n < 256 → mul binary32 (quarter_of n) (fin false 1 (pos 2)) ≡ of_int binary32 (pos n)
unfolding right
quarter_back n h = same→eq _ _ (and_right (valued (quarter_of n) n 4) (same (mul binary32 (quarter_of n) (fin false 1 (pos 2))) (of_int binary32 (pos n))) (at_below right 256 all n h))

pub quarter_right : (n : ℕ) → n < 256 → Quarter n (quarter_of n)
quarter_right n h = record { low = omega arith; exact = quarter_exact n h; back = quarter_back n h }

-- each number below 256 is read from its float
readable : ℕ → Bool
readable n = eqb (to_unsigned 16 (of_int binary32 (pos n))) n

all_readable : T (below readable 256)
unfolding below readable of_int to_unsigned
all_readable = tt

pub read_back : (n : ℕ) → n < 256 → to_unsigned 16 (of_int binary32 (pos n)) ≡ n
unfolding readable
read_back n h = eqb→eq (to_unsigned 16 (of_int binary32 (pos n))) n (at_below readable 256 all_readable n h)

pub four : of_bits binary32 1082130432 ≡ fin false 1 (pos 2)
unfolding of_bits
four = refl
