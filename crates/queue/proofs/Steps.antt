-- What a new key, another key and a key taken away make of which seats are filled and of how they are ranked.
use Rattle.std.proofs.Common.{◌≡◌, ℕ, ◌+◌, ◌<◌, ◌≤◌, ltb, ◌⊎◌, List, length, get_or, set, is_some, Some, None, vec_items, vec_len, Option, sym, refl, ap, ◌∙◌, subst₂, ⊎_elim, arith}
use Rattle.std.proofs.lemmas.List.Edits.{Swapped, swapped_from_swap}
use Rattle.std.proofs.lemmas.List.{get_or_past}
use Rattle.std.proofs.lemmas.Bool.{cases_lt, lt-ltb, le-ltb, ltb-true, ltb-false}
use Rattle.std.specs.List.{swap as exchanged}
use Rattle.order.specs.declared.Ordered.{Ghosts}
use Rattle.queue.specs.Filled.{Filled}
use Rattle.queue.specs.Keys.{NotAfter}
use Rattle.queue.specs.Meaning.{Held, NoKeys}
use Rattle.queue.specs.Sound.{Leads, Ranked, RankedBut, Sound, key_on}
use Rattle.queue.specs.declared.heap.Heap.{Heap}
use Rattle.queue.specs.declared.keys.Key.{Key}
use Rattle.queue.specs.declared.seating.Seating.{Seating}
use Rattle.queue.proofs.Fills.{filled_exchanged, filled_set, keys_exchanged, others}
use Rattle.queue.proofs.Orders.{There, leads_same, leads_trans}
use Rattle.queue.proofs.Queues.{seats, there}
use Rattle.queue.proofs.Ranks as ranks

abbrev pub keys_in : {C : Type 0} → Heap C → List (Option (Key C))
keys_in q = vec_items q.keys

held_within : {C : Type 0} (ks : List (Option (Key C))) (n : ℕ) (k : Key C) → Held ks n k → n < length ks
held_within ks n k h =
    ⊎_elim (λ lt. lt) (λ past. let none = get_or_past ks n None past in let z : ◌≡◌ {A = ℕ} 0 1 = cc in absurd (omega arith)) (cases_lt n (length ks))

-- each candidate with a key has a seat below the count
seat_held : {C : Type 0} (q : Heap C) (n : ℕ) (k : Key C) → Held (keys_in q) n k → (s : ℕ) × (s < q.count) × (key_on q s ≡ Some k)
seat_held q n k h =
    let ks = keys_in q in
    let s = get_or (vec_items q.seating.seat) n 0 in
    let in' : n < length (vec_items q.seating.seat) = omega (arith, held_within ks n k h, q.keys.ok.0, q.even, q.seating.even, q.seating.seat.ok.0) in
    let back = q.seating.numbered n in' in
    let on : key_on q s ≡ Some k = ap (λ m. get_or ks m None) back.1 ∙ h in
    (s, ltb-true s q.count (sym (q.filled s back.0) ∙ ap is_some on), on)

pub none_held : {C : Type 0} (q : Heap C) → q.count ≡ 0 → NoKeys (keys_in q)
none_held q e n k h = let (s, lt, on) = seat_held q n k h in omega arith

ltb_more : (i n : ℕ) → (i ≡ n → ⊥) → ltb i n ≡ ltb i (n + 1)
ltb_more i n ne = ⊎_elim (λ lt. lt-ltb i n lt ∙ sym (lt-ltb i (n + 1) (omega arith))) (λ le. le-ltb i n le ∙ sym (le-ltb i (n + 1) (omega arith))) (cases_lt i n)

-- the number n was found on the seat a
abbrev pub Found : {C : Type 0} → Heap C → ℕ → ℕ → Type 0
Found q n a = record { there : get_or (vec_items q.seating.number) a 0 ≡ n; bound : a < vec_len q.seating.number }

-- the numbers on the seats a and b have changed places
abbrev pub Moved : Seating → Seating → ℕ → ℕ → Type 0
Moved s t a b = record { items : vec_items t.number ≡ exchanged (vec_items s.number) a b; len : vec_len t.number ≡ vec_len s.number }

module _ {C : Type 0} (q : Heap C) (n a : ℕ) (found : Found q n a) where
  xs : List ℕ
  xs = vec_items q.seating.number

  within : a < length xs
  unfolding xs
  within = omega (arith, found.bound, q.seating.number.ok.0)

  told : is_some (get_or (keys_in q) n None) ≡ ltb a q.count
  unfolding xs
  told = ap (λ m. is_some (get_or (keys_in q) m None)) (sym found.there) ∙ q.filled a within

  pub seat_present : There (get_or (keys_in q) n None) → a < q.count
  seat_present h = ltb-true a q.count (sym told ∙ h)

  pub seat_absent : get_or (keys_in q) n None ≡ None → q.count ≤ a
  seat_absent h = ltb-false a q.count (sym told ∙ ap is_some h)

  pub change_filled : (v : Key C) → n < length (keys_in q) → There (get_or (keys_in q) n None) → Filled q.count (vec_items q.seating.number) (set (keys_in q) n (Some v))
  unfolding xs
  change_filled v ln h =
      filled_set xs (vec_items q.seating.seat) (keys_in q) a n (Some v) q.seating.seated within found.there q.count q.count ln (sym (lt-ltb a q.count (seat_present h))) (λ i ne. refl) q.filled

  module _ (b : ℕ) (t : Seating) (moved : Moved q.seating t a b) (v : Option (Key C)) (lb : b < vec_len q.seating.number) where
    zs : List ℕ
    zs = vec_items t.number

    long : length zs ≡ length xs
    unfolding xs zs
    long = omega (arith, q.seating.number.ok.0, t.number.ok.0, moved.len)

    in_xs : b < length xs
    unfolding xs
    in_xs = omega (arith, lb, q.seating.number.ok.0)

    in_zs : b < length zs
    in_zs = omega (arith, in_xs, long)

    swap : Swapped (λ i. get_or xs i 0) (λ i. get_or zs i 0) a b
    unfolding xs zs
    swap = swapped_from_swap xs zs a b 0 within in_xs moved.items

    now_there : get_or zs b 0 ≡ n
    unfolding xs
    now_there = swap.1 ∙ found.there

    moved_filled : (after : ℕ) → n < length (keys_in q) → ltb a q.count ≡ ltb b q.count → is_some v ≡ ltb b after → ((i : ℕ) → (i ≡ b → ⊥) → ltb i q.count ≡ ltb i after) → Filled after (vec_items t.number) (set (keys_in q) n v)
    unfolding xs zs
    moved_filled after ln same here rest =
        filled_set zs (vec_items t.seat) (keys_in q) b n v t.seated in_zs now_there q.count after ln here rest
        (filled_exchanged xs zs (keys_in q) a b swap q.count long within in_xs same q.filled)

    -- the other seats have the keys that they had
    moved_others : (i : ℕ) → i < q.count → (i ≡ a → ⊥) → (i ≡ b → ⊥) → get_or (set (keys_in q) n v) (get_or (vec_items t.number) i 0) None ≡ key_on q i
    unfolding xs zs
    moved_others i li na nb =
        others zs (vec_items t.seat) (keys_in q) b n v t.seated in_zs now_there i (omega (arith, long, seats q, q.counted)) nb
        ∙ (keys_exchanged xs zs (keys_in q) a b swap).2 i na nb

  pub insert_filled : (t : Seating) → Moved q.seating t a q.count → (v : Key C) → n < length (keys_in q) → q.count ≤ a → Filled (q.count + 1) (vec_items t.number) (set (keys_in q) n (Some v))
  insert_filled t moved v ln le =
      let c = q.count in
      moved_filled c t moved (Some v) (omega (arith, found.bound)) (c + 1) ln (le-ltb a c le ∙ sym (le-ltb c c (omega arith))) (sym (lt-ltb c (c + 1) (omega arith))) (λ i ne. ltb_more i c ne)

  pub remove_filled : (last : ℕ) → q.count ≡ last + 1 → (t : Seating) → Moved q.seating t a last → n < length (keys_in q) → a < q.count → Filled last (vec_items t.number) (set (keys_in q) n None)
  remove_filled last e t moved ln lt =
      moved_filled last t moved None (omega (arith, q.counted, q.even)) last ln (lt-ltb a q.count lt ∙ sym (lt-ltb last q.count (omega arith))) (sym (le-ltb last last (omega arith))) (λ i ne. ap (ltb i) e ∙ sym (ltb_more i last ne))

module _ {C : Type 0} (o : Ghosts C) (total : (x y : C) → o.atmost x y ⊎ o.atmost y x) (transitive : (x y z : C) → o.atmost x y → o.atmost y z → o.atmost x z) (q : Heap C) where
  trans : (x y z : Option (Key C)) → There y → Leads o x y → Leads o y z → Leads o x z
  trans = leads_trans o total transitive

  pub first_leads : (k : Key C) → key_on q 0 ≡ Some k → Sound o q → (n : ℕ) (l : Key C) → Held (keys_in q) n l → NotAfter o k l
  first_leads k on h n l held =
      let (s, lt, at) = seat_held q n l held in
      let led : Leads o (key_on q 0) (key_on q s) = ranks.first (Leads o) There trans (leads_same o total transitive) (key_on q) q.count (there q) h.ranked s lt in
      subst₂ (Leads o) on at led

  module _ (n a : ℕ) (found : Found q n a) (h : Sound o q) where
    pub change_ranked : (v : Option (Key C)) → a < q.count → RankedBut (Leads o) (λ i. get_or (set (keys_in q) n v) (get_or (vec_items q.seating.number) i 0) None) q.count a
    change_ranked v lt =
        ranks.changed (Leads o) There trans (key_on q) (λ i. get_or (set (keys_in q) n v) (get_or (vec_items q.seating.number) i 0) None) q.count a (there q) h.ranked lt
        (λ i li ne. others (vec_items q.seating.number) (vec_items q.seating.seat) (keys_in q) a n v q.seating.seated (omega (arith, seats q, q.counted)) found.there i (omega (arith, seats q, q.counted)) ne)

    pub insert_ranked : (t : Seating) → Moved q.seating t a q.count → (v : Option (Key C)) → q.count ≤ a → RankedBut (Leads o) (λ i. get_or (set (keys_in q) n v) (get_or (vec_items t.number) i 0) None) (q.count + 1) q.count
    insert_ranked t moved v le =
        ranks.added (Leads o) There trans (key_on q) (λ i. get_or (set (keys_in q) n v) (get_or (vec_items t.number) i 0) None) q.count h.ranked
        (λ i li. moved_others q n a found q.count t moved v (omega (arith, found.bound)) i li (omega arith) (omega arith))

    module _ (last : ℕ) (e : q.count ≡ last + 1) (t : Seating) (moved : Moved q.seating t a last) where
      off : ℕ → Option (Key C)
      off i = get_or (set (keys_in q) n None) (get_or (vec_items t.number) i 0) None

      kept : (i : ℕ) → i < last → (i ≡ a → ⊥) → off i ≡ key_on q i
      unfolding off
      kept i li ne = moved_others q n a found last t moved None (omega (arith, q.counted, q.even)) i (omega arith) ne (omega arith)

      pub remove_ranked : a < last → RankedBut (Leads o) (λ i. get_or (set (keys_in q) n None) (get_or (vec_items t.number) i 0) None) last a
      unfolding off
      remove_ranked lt =
          ranks.changed (Leads o) There trans (key_on q) off last a (λ i li. there q i (omega arith)) (ranks.fewer (Leads o) There trans (key_on q) (key_on q) q.count last (omega arith) h.ranked (λ i li. refl)) lt kept

      pub remove_last_ranked : last ≤ a → Ranked (Leads o) (λ i. get_or (set (keys_in q) n None) (get_or (vec_items t.number) i 0) None) last
      unfolding off
      remove_last_ranked le = ranks.fewer (Leads o) There trans (key_on q) off q.count last (omega arith) h.ranked (λ i li. kept i li (omega arith))
