-- Integers modulo 2 ^ 64.
use Rattle.std.proofs.Common.{◌≡◌, zero, suc, ◌^◌, ◌<◌, ℤ, pos, negsuc, ◌+ℤ◌, ◌*ℤ◌, neg_ℤ, sym, refl, ap, ◌∙◌, arith, w64, SFits, to_z, of_z}
use lib.IntN.{+ℤ_comm, *ℤ_comm}
use Rattle.std.specs.Int.{int_wrap}
use Rattle.std.proofs.lemmas.Int.{of_z-to_z, int_wrap-add_left, int_wrap-mul_left}
use Rattle.planes.specs.Quadrics.{residue, sum, difference}

-- the same modulo 2 ^ 64
pub record Same (a b : ℤ) : Type 0 where
  pub is : residue a ≡ residue b

pub same : (z : ℤ) → Same z z
same z = record { is = refl }

pub same_path : {a b : ℤ} → a ≡ b → Same a b
same_path e = record { is = ap residue e }

pub same_trans : {a b c : ℤ} → Same a b → Same b c → Same a c
same_trans i j = record { is = i.is ∙ j.is }

residue_below : (z : ℤ) → residue z < 2 ^ 64
residue_below (pos n) = omega arith
residue_below (negsuc n) = omega arith

pub same_residue : (z : ℤ) → Same (pos (residue z)) z
same_residue z = let l = residue_below z in record { is = omega arith }

-- an integer and its bits
pub same_bits : (z : ℤ) → SFits w64 z → Same (pos (of_z w64 z)) z
same_bits (pos n) f = same (pos n)
same_bits (negsuc n) f = let h = f.sfits in record { is = omega arith }

pub negative : (z : ℤ) → difference 0 (residue z) ≡ residue (neg_ℤ z)
negative (pos zero) = refl
negative (pos (suc n)) = omega arith
negative (negsuc n) = omega arith

-- sums and products, by the signed words of 64 bits
from_wrapped : (z : ℤ) → residue z ≡ of_z w64 (int_wrap w64 z)
unfolding int_wrap
from_wrapped z = sym (of_z-to_z w64 (residue z) (residue_below z))

to_wrapped : {a b : ℤ} → Same a b → int_wrap w64 a ≡ int_wrap w64 b
unfolding int_wrap
to_wrapped i = ap (to_z w64) i.is

same_left : {a b : ℤ} (f : ℤ → ℤ) → ((z : ℤ) → int_wrap w64 (f (int_wrap w64 z)) ≡ int_wrap w64 (f z)) → Same a b → Same (f a) (f b)
same_left {a} {b} f absorbs i =
    record { is = from_wrapped (f a) ∙ ap (of_z w64) (sym (absorbs a) ∙ ap (λ (z : ℤ). int_wrap w64 (f z)) (to_wrapped i) ∙ absorbs b) ∙ sym (from_wrapped (f b)) }

pub same_sum : {a a' b b' : ℤ} → Same a a' → Same b b' → Same (a +ℤ b) (a' +ℤ b')
same_sum {a} {a'} {b} {b'} i j =
    same_trans (same_left (λ z. z +ℤ b) (λ z. int_wrap-add_left w64 z b) i)
    (same_trans (same_path (+ℤ_comm a' b)) (same_trans (same_left (λ z. z +ℤ a') (λ z. int_wrap-add_left w64 z a') j) (same_path (+ℤ_comm b' a'))))

pub same_product : {a a' b b' : ℤ} → Same a a' → Same b b' → Same (a *ℤ b) (a' *ℤ b')
same_product {a} {a'} {b} {b'} i j =
    same_trans (same_left (λ z. z *ℤ b) (λ z. int_wrap-mul_left w64 z b) i)
    (same_trans (same_path (*ℤ_comm a' b)) (same_trans (same_left (λ z. z *ℤ a') (λ z. int_wrap-mul_left w64 z a') j) (same_path (*ℤ_comm b' a'))))

pub residue_sum : (a b : ℤ) → sum (residue a) (residue b) ≡ residue (a +ℤ b)
residue_sum a b = (same_sum (same_residue a) (same_residue b)).is
