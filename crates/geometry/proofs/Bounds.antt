-- The size of sums and products of integers.
use Rattle.std.proofs.Common.{◌≡◌, ℕ, zero, suc, ◌+◌, ◌*◌, ◌^◌, ◌<◌, ◌≤◌, ℤ, pos, negsuc, ◌+ℤ◌, ◌-ℤ◌, ◌*ℤ◌, neg_ℤ, nat_abs, sym, refl, subst, mul-le-mul, arith, w64, SFits, to_z, of_z}
use Rattle.std.proofs.lemmas.Int.{to_z-of_z}
use Rattle.geometry.specs.Values.{Bounded}

abs_neg : (z : ℤ) → nat_abs (neg_ℤ z) ≡ nat_abs z
abs_neg (pos zero) = refl
abs_neg (pos (suc n)) = refl
abs_neg (negsuc n) = refl

pub abs_mul : (a b : ℤ) → nat_abs (a *ℤ b) ≡ nat_abs a * nat_abs b
abs_mul (pos a) (pos b) = refl
abs_mul (pos a) (negsuc b) = abs_neg (pos (a * suc b))
abs_mul (negsuc a) (pos b) = abs_neg (pos (suc a * b))
abs_mul (negsuc a) (negsuc b) = refl

pub abs_add : (a b : ℤ) → nat_abs (a +ℤ b) ≤ nat_abs a + nat_abs b
abs_add (pos a) (pos b) = omega arith
abs_add (pos a) (negsuc b) = grind arith
abs_add (negsuc a) (pos b) = grind arith
abs_add (negsuc a) (negsuc b) = omega arith

pub mul_bounded : (m n : ℕ) (a b : ℤ) → Bounded m a → Bounded n b → Bounded (m * n) (a *ℤ b)
mul_bounded m n a b h k = subst (λ (x : ℕ). x ≤ m * n) (sym (abs_mul a b)) (mul-le-mul h k)

pub add_bounded : (m n : ℕ) (a b : ℤ) → Bounded m a → Bounded n b → Bounded (m + n) (a +ℤ b)
add_bounded m n a b h k = omega (arith, abs_add a b)

pub sub_bounded : (m n : ℕ) (a b : ℤ) → Bounded m a → Bounded n b → Bounded (m + n) (a -ℤ b)
sub_bounded m n a b h k = omega (arith, abs_add a (neg_ℤ b), abs_neg b)

pub fits_64 : (n : ℕ) (z : ℤ) → Bounded n z → n < 2 ^ 63 → SFits w64 z
fits_64 n (pos a) h k = record { sfits = omega arith }
fits_64 n (negsuc a) h k = record { sfits = omega arith }

pub same_64 : (n : ℕ) (z : ℤ) → Bounded n z → n < 2 ^ 63 → to_z w64 (of_z w64 z) ≡ z
same_64 n z h k = to_z-of_z w64 z (fits_64 n z h k)
