-- Numbers from a first one on and before another.
use Rattle.std.proofs.Common.{◌≡◌, ℕ, ◌+◌, ◌<◌, ◌≤◌, ◌⊎◌, inl, inr, arith}
use Rattle.std.proofs.lemmas.Bool.{cases_eq}

pub none_before : (a k : ℕ) → (a ≤ k) × (k < a) → ⊥
none_before a k (p, q) = omega arith

pub one_further : (a h k : ℕ) → (a ≤ k) × (k < h + 1) → ((a ≤ k) × (k < h)) ⊎ (k ≡ h)
one_further a h k (p, q) = elim (cases_eq k h) [ inl i ↦ inr i | inr n ↦ inl (p, omega arith) ]
