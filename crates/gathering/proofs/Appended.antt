-- One triangle more at the end of the corners.
use Rattle.std.proofs.Common.{◌≡◌, ℕ, zero, suc, ◌+◌, ◌-◌, ◌%◌, ◌<◌, ◌≤◌, ◌≢◌, ◌⊎◌, List, [], ◌∷◌, ◌++◌, length, get_or, refl, inl, inr, append_assoc, arith, length-append}
use Rattle.std.proofs.lemmas.List.{get_or_append_left, get_or-append_right}
use Rattle.std.proofs.lemmas.Bool.{cases_lt}
use Rattle.surface.specs.Surface.{next}
use Rattle.surface.proofs.Tris.{next_cases}
use Rattle.gathering.specs.Limits.{Numbered, Differing}

pub one_by_one : (cs : List ℕ) (a b c : ℕ) → ((cs ++ a ∷ []) ++ b ∷ []) ++ c ∷ [] ≡ cs ++ a ∷ b ∷ c ∷ []
one_by_one cs a b c = simp append_assoc

module _ (cs : List ℕ) (a b c : ℕ) where
  old : (h : ℕ) → h < length cs → get_or (cs ++ a ∷ b ∷ c ∷ []) h 0 ≡ get_or cs h 0
  old h l = get_or_append_left cs (a ∷ b ∷ c ∷ []) 0 h l

  new : (h : ℕ) → length cs ≤ h → get_or (cs ++ a ∷ b ∷ c ∷ []) h 0 ≡ get_or (a ∷ b ∷ c ∷ []) (h - length cs) 0
  new h l = get_or-append_right cs (a ∷ b ∷ c ∷ []) (length cs) h 0 refl l

  pub longer : length (cs ++ a ∷ b ∷ c ∷ []) ≡ length cs + 3
  longer = length-append cs (a ∷ b ∷ c ∷ [])

  pub numbered_more : (n : ℕ) → Numbered cs n → a < n → b < n → c < n → Numbered (cs ++ a ∷ b ∷ c ∷ []) n
  numbered_more n N la lb lc h l = go (cases_lt h (length cs))
    where
      three : (k : ℕ) → k < 3 → get_or (a ∷ b ∷ c ∷ []) k 0 < n
      three zero q = la
      three (suc zero) q = lb
      three (suc (suc zero)) q = lc
      three (suc (suc (suc k))) q = absurd (omega arith)

      go : (h < length cs) ⊎ (length cs ≤ h) → get_or (cs ++ a ∷ b ∷ c ∷ []) h 0 < n
      go (inl p) = rw (old h p) (N h p)
      go (inr p) = rw (new h p) (three (h - length cs) (omega (arith, longer)))

  pub differing_more : length cs % 3 ≡ 0 → Differing cs → a ≢ b → b ≢ c → c ≢ a → Differing (cs ++ a ∷ b ∷ c ∷ [])
  differing_more m D ab bc ca h l = go (cases_lt h (length cs))
    where
      at : (k : ℕ) → k < 3 → h ≡ length cs + k → get_or (a ∷ b ∷ c ∷ []) k 0 ≢ get_or (cs ++ a ∷ b ∷ c ∷ []) (next h) 0
      at zero q e =
          let n : next h ≡ length cs + 1 = omega (arith, next_cases h) in
          let s : next h - length cs ≡ 1 = omega arith in
          rw (new (next h) (omega arith)) (rw s ab)
      at (suc zero) q e =
          let n : next h ≡ length cs + 2 = omega (arith, next_cases h) in
          let s : next h - length cs ≡ 2 = omega arith in
          rw (new (next h) (omega arith)) (rw s bc)
      at (suc (suc zero)) q e =
          let n : next h ≡ length cs = omega (arith, next_cases h) in
          let s : next h - length cs ≡ 0 = omega arith in
          rw (new (next h) (omega arith)) (rw s ca)
      at (suc (suc (suc k))) q e = absurd (omega arith)

      go : (h < length cs) ⊎ (length cs ≤ h) → get_or (cs ++ a ∷ b ∷ c ∷ []) h 0 ≢ get_or (cs ++ a ∷ b ∷ c ∷ []) (next h) 0
      go (inl p) = let n : next h < length cs = omega (arith, next_cases h) in rw (old h p) (rw (old (next h) n) (D h p))
      go (inr p) = rw (new h p) (at (h - length cs) (omega (arith, longer)) (omega arith))
