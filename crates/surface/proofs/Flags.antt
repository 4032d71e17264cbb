-- Flags told by what holds where they are set.
use Rattle.std.proofs.Common.{◌≡◌, Bool, true, false, sym, refl}

pub flag_false : (t : Bool) → (t ≡ true → ⊥) → t ≡ false
flag_false true n = absurd (n refl)
flag_false false n = refl

pub flag_same : (s t : Bool) → (s ≡ true → t ≡ true) → (t ≡ true → s ≡ true) → s ≡ t
flag_same true t p q = sym (p refl)
flag_same false true p q = q refl
flag_same false false p q = refl
