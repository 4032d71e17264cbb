-- Accounts of entries, one for each opened vertex.
use Rattle.std.specs.Prelude.{◌≡◌, ℕ, ◌<◌, ◌≤◌, ◌≢◌, ◌⊎◌, List, slice_index_or, slice_set}

-- the account with op of the entries of u and of w for the entry of w; `blank` is only the default of the reads
abbrev pub changed : {E : Type 0} → (E → E → E) → E → ℕ → ℕ → List E → List E
changed op blank u w xs = slice_set xs w (op (slice_index_or xs u blank) (slice_index_or xs w blank))

-- u and w are two of n vertices
abbrev pub TwoOf : ℕ → ℕ → ℕ → Type 0
TwoOf n u w = (u ≢ w) × (u < n) × (w < n)

-- they are not
abbrev pub NotTwoOf : ℕ → ℕ → ℕ → Type 0
NotTwoOf n u w = (u ≡ w) ⊎ ((n ≤ u) ⊎ (n ≤ w))
