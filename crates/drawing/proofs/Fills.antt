-- Entries written one after the other, each live one at its place.
use Rattle.std.proofs.Common.{◌≡◌, ℕ, ◌+◌, ◌<◌, ◌≤◌, Bool, true, false, ◌≢◌, List, length, get_or, set, sym, refl, ◌∙◌, subst, inl, inr, eq-or-lt_of_le, arith, get_or-set_other, get_or-set_same}
use Rattle.std.proofs.lemmas.Bool.{both_ways}
use Rattle.surface.specs.Euler.{count}
use Rattle.drawing.specs.Drawn.{Filled}
use Rattle.drawing.proofs.Counts.{count_on, count_off, count_before}

module _ (X : Type 0) (f : ℕ → Bool) (R : ℕ → X → Type 0) (old : List X) where
  pub filled_none : Filled X f R 0 old old
  filled_none = record { entered = λ i x l p. absurd (omega arith); beyond = λ k x l. refl }

  pub filled_off : (n : ℕ) (new : List X) → f n ≡ false → Filled X f R n old new → Filled X f R (n + 1) old new
  filled_off n new q F =
      record {
        entered = λ i x l p.
            let le : i ≤ n = omega arith in
            elim (eq-or-lt_of_le le) [ inl e ↦ absurd (both_ways (f n) q (subst (λ (j : ℕ). f j ≡ true) e p)) | inr k ↦ F.entered i x k p ];
        beyond = λ k x l. F.beyond k x (omega (arith, count_off f n q));
      }

  pub filled_on : (n : ℕ) (new : List X) (y : X) (k : ℕ) → k ≡ count f n → f n ≡ true → count f n < length new → R n y → Filled X f R n old new →
      Filled X f R (n + 1) old (set new k y)
  filled_on n new y k is q room right F = rw is (record { entered = entered; beyond = beyond })
    where
      entered : (i : ℕ) (x : X) → i < n + 1 → f i ≡ true → R i (get_or (set new (count f n) y) (count f i) x)
      entered i x l p =
          let le : i ≤ n = omega arith in
          elim (eq-or-lt_of_le le) [
            | inl e ↦ subst (λ (j : ℕ). R j (get_or (set new (count f n) y) (count f j) x)) (sym e) (subst (R n) (sym (get_or-set_same new (count f n) y x room)) right)
            | inr m ↦
                let lt : count f i < count f n = count_before f i n m p in
                let ne : count f i ≢ count f n = omega arith in
                subst (R i) (sym (get_or-set_other new (count f n) (count f i) y x ne)) (F.entered i x m p)
          ]

      beyond : (j : ℕ) (x : X) → count f (n + 1) ≤ j → get_or (set new (count f n) y) j x ≡ get_or old j x
      beyond j x l =
          let one = count_on f n q in
          let ne : j ≢ count f n = omega arith in
          get_or-set_other new (count f n) j y x ne ∙ F.beyond j x (omega arith)

  -- one turn of a loop that counts what it writes
  pub turn_on : (n : ℕ) (new new' : List X) (y : X) (k k' : ℕ) → k ≡ count f n → k' ≡ k + 1 → new' ≡ set new k y → f n ≡ true → k < length new → R n y → Filled X f R n old new →
      (k' ≡ count f (n + 1)) × Filled X f R (n + 1) old new'
  turn_on n new new' y k k' is more written q room right F = (omega (arith, count_on f n q), rw written (filled_on n new y k is q (omega arith) right F))

  pub turn_off : (n : ℕ) (new new' : List X) (k k' : ℕ) → k ≡ count f n → k' ≡ k → new' ≡ new → f n ≡ false → Filled X f R n old new →
      (k' ≡ count f (n + 1)) × Filled X f R (n + 1) old new'
  turn_off n new new' k k' is same kept q F = (omega (arith, count_off f n q), rw kept (filled_off n new q F))

-- the place of a live number is below the number of live ones
pub place_room : (f : ℕ → Bool) (n N k r : ℕ) → k ≡ count f n → n < N → f n ≡ true → count f N ≤ r → k < r
place_room f n N k r is l p q = omega (arith, count_before f n N l p)
