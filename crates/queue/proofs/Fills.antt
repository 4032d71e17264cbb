-- Which seats are filled, after an exchange and after a new key.
use Rattle.std.proofs.Common.{◌≡◌, ℕ, ◌<◌, ltb, List, length, get_or, set, replicate, is_some, None, Option, sym, ap, ◌∙◌, ⊎_elim, arith, get_or-set_other, get_or-set_same}
use Rattle.std.proofs.lemmas.List.Edits.{Swapped}
use Rattle.std.proofs.lemmas.List.{get_or_past, get_or-replicate, length-replicate}
use Rattle.std.proofs.lemmas.Bool.{cases_eq, cases_lt, le-ltb}
use Rattle.queue.specs.Filled.{Filled}
use Rattle.queue.specs.Seating.{Inverse}
use Rattle.queue.specs.Sound.{Exchanged}

-- no number sits on two seats
pub injective : (xs ys : List ℕ) (i j : ℕ) → Inverse xs ys → i < length xs → j < length xs → get_or xs i 0 ≡ get_or xs j 0 → i ≡ j
injective xs ys i j inv li lj e = sym (inv i li).1 ∙ ap (λ n. get_or ys n 0) e ∙ (inv j lj).1

module _ {X : Type 0} (xs zs : List ℕ) (ks : List (Option X)) (a b : ℕ) (swap : Swapped (λ i. get_or xs i 0) (λ i. get_or zs i 0) a b) where
  pub keys_exchanged : Exchanged (λ i. get_or ks (get_or xs i 0) None) (λ i. get_or ks (get_or zs i 0) None) a b
  keys_exchanged = (
    ap (λ n. get_or ks n None) swap.0,
    ap (λ n. get_or ks n None) swap.1,
    λ i na nb. ap (λ n. get_or ks n None) (swap.2 i na nb),
  )

  pub filled_exchanged : (count : ℕ) → length zs ≡ length xs → a < length xs → b < length xs → ltb a count ≡ ltb b count → Filled count xs ks → Filled count zs ks
  filled_exchanged count long la lb same h i lt =
      ⊎_elim
      (λ e. ap (λ k. is_some (get_or ks (get_or zs k 0) None)) e ∙ ap is_some keys_exchanged.0 ∙ h b lb ∙ sym same ∙ ap (λ k. ltb k count) (sym e))
      (λ na. ⊎_elim
      (λ e. ap (λ k. is_some (get_or ks (get_or zs k 0) None)) e ∙ ap is_some keys_exchanged.1 ∙ h a la ∙ same ∙ ap (λ k. ltb k count) (sym e))
      (λ nb. ap is_some (keys_exchanged.2 i na nb) ∙ h i (omega arith))
      (cases_eq i b))
      (cases_eq i a)

module _ {X : Type 0} (xs ys : List ℕ) (ks : List (Option X)) (s n : ℕ) (v : Option X) (inv : Inverse xs ys) (ls : s < length xs) (at : get_or xs s 0 ≡ n) where
  -- the other seats have the keys that they had
  pub others : (i : ℕ) → i < length xs → (i ≡ s → ⊥) → get_or (set ks n v) (get_or xs i 0) None ≡ get_or ks (get_or xs i 0) None
  others i li ne = get_or-set_other ks n (get_or xs i 0) v None (λ e. ne (injective xs ys i s inv li ls (e ∙ sym at)))

  pub filled_set : (count after : ℕ) → n < length ks → is_some v ≡ ltb s after → ((i : ℕ) → (i ≡ s → ⊥) → ltb i count ≡ ltb i after) → Filled count xs ks → Filled after xs (set ks n v)
  filled_set count after ln here there h i li =
      ⊎_elim
      (λ e. ap is_some (ap (λ k. get_or (set ks n v) (get_or xs k 0) None) e ∙ ap (λ m. get_or (set ks n v) m None) at ∙ get_or-set_same ks n v None ln) ∙ here ∙ ap (λ k. ltb k after) (sym e))
      (λ ne. ap is_some (others i li ne) ∙ h i li ∙ there i ne)
      (cases_eq i s)

-- at first no seat is filled
pub none_filled : {X : Type 0} (xs : List ℕ) (ks : List (Option X)) (n : ℕ) → ks ≡ replicate n None → Filled 0 xs ks
none_filled {X = X} xs ks n e i lt =
    let m = get_or xs i 0 in
    let empty : List (Option X) = replicate n None in
    let long : length empty ≡ n = length-replicate n None in
    let none : get_or ks m None ≡ None = ap (λ l. get_or l m None) e ∙ ⊎_elim (λ below. get_or-replicate n m None None below) (λ past. get_or_past empty m None (omega (arith, long))) (cases_lt m n) in
    ap is_some none ∙ sym (le-ltb i 0 (omega arith))
