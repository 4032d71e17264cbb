-- Seats that are ranked, and what a change of one seat leaves, for any relation that is transitive at what is there.
use Rattle.std.proofs.Common.{◌≡◌, ℕ, zero, suc, ◌+◌, ◌<◌, ◌≤◌, sym, refl, ap, ◌∙◌, subst₂, ⊎_elim, arith}
use Rattle.std.proofs.lemmas.Bool.{cases_eq, cases_lt}
use Rattle.queue.specs.Sound.{above, Exchanged, Ranked, RankedBut, RankedButUp}

module _ {X : Type 0} (R : X → X → Type 0) (There : X → Type 0) (trans : (x y z : X) → There y → R x y → R y z → R x z) where
  carry : {a b c d : X} → c ≡ a → d ≡ b → R a b → R c d
  carry p q h = subst₂ R (sym p) (sym q) h

  -- the first seat leads all others
  pub first : ((x : X) → R x x) → (on : ℕ → X) (n : ℕ) → ((i : ℕ) → i < n → There (on i)) → Ranked R on n → (i : ℕ) → i < n → R (on 0) (on i)
  first same on n there h i lt = go (i + 1) i (omega arith) lt
    where
      go : (f j : ℕ) → j < f → j < n → R (on 0) (on j)
      go zero j l k = absurd (omega arith)
      go (suc f) j l k =
          ⊎_elim
          (λ pos. trans (on 0) (on (above j)) (on j) (there (above j) (omega arith)) (go f (above j) (omega arith) (omega arith)) (h j pos k))
          (λ none. carry refl (ap on (omega arith)) (same (on 0)))
          (cases_lt 0 j)

  module _ (on off : ℕ → X) (n s : ℕ) (there : (i : ℕ) → i < n → There (on i)) where
    pub rises : RankedButUp R on n s → 0 < s → s < n → R (on s) (on (above s)) → Exchanged on off s (above s) → RankedButUp R off n (above s)
    rises h pos lt r x = ((rest, over), under)
      where
        below : (i : ℕ) → 0 < i → i < n → above i ≡ above s → (i ≡ s → ⊥) → R (on (above s)) (on i)
        below i q l e ne = carry (ap on (sym e)) refl (h.0.0 i q l ne (omega arith))

        rest : (i : ℕ) → 0 < i → i < n → (i ≡ above s → ⊥) → (above i ≡ above s → ⊥) → R (off (above i)) (off i)
        rest i q l ni na =
            let ns : i ≡ s → ⊥ = λ e. na (ap above e) in
            ⊎_elim
            (λ e. carry (ap off e ∙ x.0) (x.2 i ns ni) (h.0.1 i q l e pos))
            (λ ne. carry (x.2 (above i) ne na) (x.2 i ns ni) (h.0.0 i q l ns ne))
            (cases_eq (above i) s)

        over : (i : ℕ) → 0 < i → i < n → above i ≡ above s → 0 < above s → R (off (above (above s))) (off i)
        over i q l e up =
            let base : R (on (above (above s))) (on (above s)) = h.0.0 (above s) up (omega arith) (omega arith) (omega arith) in
            let top : off (above (above s)) ≡ on (above (above s)) = x.2 (above (above s)) (omega arith) (omega arith) in
            ⊎_elim
            (λ same. carry top (ap off same ∙ x.0) base)
            (λ ne. carry top (x.2 i ne (omega arith)) (trans (on (above (above s))) (on (above s)) (on i) (there (above s) (omega arith)) base (below i q l e ne)))
            (cases_eq i s)

        under : (i : ℕ) → 0 < i → i < n → above i ≡ above s → R (off (above s)) (off i)
        under i q l e =
            ⊎_elim
            (λ same. carry x.1 (ap off same ∙ x.0) r)
            (λ ne. carry x.1 (x.2 i ne (omega arith)) (trans (on s) (on (above s)) (on i) (there (above s) (omega arith)) r (below i q l e ne)))
            (cases_eq i s)

    -- only what is on the seat s has changed
    pub changed : Ranked R on n → s < n → ((i : ℕ) → i < n → (i ≡ s → ⊥) → off i ≡ on i) → RankedBut R off n s
    changed h lt same = (
      λ i p l ne ne'. carry (same (above i) (omega arith) ne') (same i l ne) (h i p l),
      λ i p l e pos. carry (same (above s) (omega arith) (omega arith)) (same i l (omega arith)) (trans (on (above s)) (on s) (on i) (there s lt) (h s pos lt) (carry (ap on (sym e)) refl (h i p l))),
    )

  -- fewer seats
  pub fewer : (on off : ℕ → X) (n m : ℕ) → m ≤ n → Ranked R on n → ((i : ℕ) → i < m → off i ≡ on i) → Ranked R off m
  fewer on off n m le h same i p l = carry (same (above i) (omega arith)) (same i l) (h i p (omega arith))

  -- one seat more, at the end
  pub added : (on off : ℕ → X) (n : ℕ) → Ranked R on n → ((i : ℕ) → i < n → off i ≡ on i) → RankedBut R off (n + 1) n
  added on off n h same = (λ i p l ne ne'. carry (same (above i) (omega arith)) (same i (omega arith)) (h i p (omega arith)), λ i p l e pos. absurd (omega arith))
