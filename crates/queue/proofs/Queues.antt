-- What an exchange of two seats makes of a queue.
use Rattle.std.proofs.Common.{◌≡◌, ℕ, ◌<◌, ◌⊎◌, length, vec_items, vec_len, Option, sym, ◌∙◌, subst, subst₂, arith}
use Rattle.std.proofs.lemmas.Bool.{lt-ltb}
use Rattle.order.specs.declared.Ordered.{Ghosts}
use Rattle.queue.specs.Sound.{Exchanged, Leads, RankedButUp, SeatLeads, SoundButUp, above, key_on}
use Rattle.queue.specs.declared.heap.Heap.{Heap}
use Rattle.queue.specs.declared.keys.Key.{Key}
use Rattle.queue.proofs.Orders.{There, leads_trans}
use Rattle.queue.proofs.Ranks as ranks

pub seats : {C : Type 0} (q : Heap C) → length (vec_items q.seating.number) ≡ vec_len q.keys
seats q = omega (arith, q.seating.number.ok.0, q.even)

-- each seat below the count has a key
pub there : {C : Type 0} (q : Heap C) (i : ℕ) → i < q.count → There (key_on q i)
there q i lt = q.filled i (omega (arith, seats q, q.counted)) ∙ lt-ltb i q.count lt

module _ {C : Type 0} (o : Ghosts C) (total : (x y : C) → o.atmost x y ⊎ o.atmost y x) (transitive : (x y z : C) → o.atmost x y → o.atmost y z → o.atmost x z) (q : Heap C) where
  trans : (x y z : Option (Key C)) → There y → Leads o x y → Leads o y z → Leads o x z
  trans = leads_trans o total transitive

  pub rises : (p : Heap C) (s up : ℕ) → up ≡ above s → 0 < s → s < q.count → SeatLeads o q s up → Exchanged (key_on q) (key_on p) s up → p.count ≡ q.count → SoundButUp o q s → SoundButUp o p up
  rises p s up e pos lt r x same h =
      subst₂ (RankedButUp (Leads o) (key_on p)) (sym same) (sym e)
      (ranks.rises (Leads o) There trans (key_on q) (key_on p) q.count s (there q) h pos lt (subst (SeatLeads o q s) e r) (subst (Exchanged (key_on q) (key_on p) s) e x))
