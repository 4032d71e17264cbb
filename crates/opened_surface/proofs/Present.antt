-- How many candidates have a key.
use Rattle.std.proofs.Common.{◌≡◌, ℕ, zero, suc, ◌<◌, false, ◌≢◌, List, [], ◌∷◌, length, get_or, set, is_some, None, Option, sym, refl, ap, arith, length-set, get_or-set_other, get_or-set_same}
use Rattle.std.proofs.lemmas.Bool.{both_ways}
use Rattle.surface.specs.Euler.{count}
use Rattle.surface.proofs.Counting.{count_less}
use Rattle.order.specs.declared.Ordered.{Ghosts as Order}
use Rattle.queue.specs.Meaning.{keys_of, Held}
use Rattle.queue.specs.declared.Queue.{Queue}
use Rattle.queue.specs.declared.keys.Key.{Key}

abbrev pub present : {C : Type 0} → List (Option (Key C)) → ℕ
present l = count (λ i. is_some (get_or l i None)) (length l)

-- beyond its places a list of keys has none
pub held_within : {C : Type 0} (keys : List (Option (Key C))) (n : ℕ) (k : Key C) → Held keys n k → n < length keys
held_within [] n k h = absurd (both_ways false refl (ap is_some h))
held_within (x ∷ xs) zero k h = omega arith
held_within (x ∷ xs) (suc n) k h = let p = held_within xs n k h in omega arith

pub few_held : {C : Type 0} {o : Order C} (q : Queue C o) (n : ℕ) (k : Key C) → Held (keys_of q) n k → n < 6144
few_held q n k h =
    let p = held_within (keys_of q) n k h in
    let a = q.heap.even in
    let b = q.heap.seating.limited in
    let c = q.heap.keys.ok.0 in
    omega arith

module _ {C : Type 0} (keys : List (Option (Key C))) (n : ℕ) (k : Key C) (h : Held keys n k) where
  pub taken_at : get_or (set keys n None) n None ≡ None
  taken_at = get_or-set_same keys n None None (held_within keys n k h)

  pub taken_else : (i : ℕ) → i ≢ n → get_or (set keys n None) i None ≡ get_or keys i None
  taken_else i d = get_or-set_other keys n i None None d

  -- one fewer, once a key is taken away
  pub taken_fewer : (after : List (Option (Key C))) → after ≡ set keys n None → present after < present keys
  taken_fewer after w =
      let c = count_less (λ i. is_some (get_or keys i None)) (λ i. is_some (get_or (set keys n None) i None)) n (length keys) (ap is_some h) (ap is_some taken_at) (λ t d. sym (ap is_some (taken_else t d))) (held_within keys n k h) in
      let l = length-set keys n None in
      rw (w, l) (omega (arith, c))
