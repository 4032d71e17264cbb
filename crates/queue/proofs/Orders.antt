-- The order of keys, from the laws of the order of costs.
use Rattle.std.proofs.Common.{◌≡◌, true, false, ◌⊎◌, is_some, Some, None, Option, refl, inl, inr, ⊎_elim, arith}
use Rattle.std.proofs.lemmas.Bool.{both_ways, cases_eq, cases_lt}
use Rattle.std.proofs.lemmas.Grind.{not_there}
use Rattle.order.specs.declared.Ordered.{Ghosts}
use Rattle.queue.specs.Keys.{NotAfter, TieNotAfter}
use Rattle.queue.specs.Sound.{Leads, Sound, above, key_on}
use Rattle.queue.specs.declared.heap.Heap.{Heap}
use Rattle.queue.specs.declared.keys.Key.{Key}

tie_trans : {C : Type 0} (a b c : Key C) → TieNotAfter a b → TieNotAfter b c → TieNotAfter a c
tie_trans a b c (inl h) (inl k) = inl (omega arith)
tie_trans a b c (inl h) (inr k) = inl (omega arith)
tie_trans a b c (inr h) (inl k) = inl (omega arith)
tie_trans a b c (inr h) (inr k) = inr (omega arith)

tie_told : {C : Type 0} (a b : Key C) → TieNotAfter a b ⊎ (TieNotAfter a b → ⊥)
tie_told a b =
    elim (cases_lt a.u b.u) [
      | inl l ↦ inl (inl l)
      | inr le ↦ elim (cases_eq a.u b.u) [
        | inr ne ↦ inr (λ t. elim t [ inl l ↦ omega arith | inr e ↦ ne e.0 ])
        | inl e ↦ elim (cases_lt b.w a.w) [ inl l ↦ inr (λ t. elim t [ inl k ↦ omega arith | inr k ↦ omega arith ]) | inr k ↦ inl (inr (e, k)) ]
      ]
    ]

-- there is something on the seat
abbrev pub There : {X : Type 0} → Option X → Type 0
There x = is_some x ≡ true

module _ {C : Type 0} (o : Ghosts C) (total : (x y : C) → o.atmost x y ⊎ o.atmost y x) (transitive : (x y z : C) → o.atmost x y → o.atmost y z → o.atmost x z) where
  key_same : (a : Key C) → NotAfter o a a
  key_same a = record { cost = ⊎_elim (λ h. h) (λ h. h) (total a.cost a.cost); tie = λ _. inr (omega arith) }

  key_trans : (a b c : Key C) → NotAfter o a b → NotAfter o b c → NotAfter o a c
  key_trans a b c h k =
      record { cost = transitive a.cost b.cost c.cost h.cost k.cost; tie = λ back. tie_trans a b c (h.tie (transitive b.cost c.cost a.cost k.cost back)) (k.tie (transitive c.cost a.cost b.cost back h.cost)) }

  pub leads_same : (x : Option (Key C)) → Leads o x x
  leads_same (Some a) = key_same a
  leads_same None = tt

  pub leads_trans : (x y z : Option (Key C)) → There y → Leads o x y → Leads o y z → Leads o x z
  leads_trans (Some a) (Some b) (Some c) t h k = key_trans a b c h k
  leads_trans (Some a) (Some b) None t h k = tt
  leads_trans (Some a) None (Some c) t h k = absurd (both_ways false refl t)
  leads_trans (Some a) None None t h k = tt
  leads_trans None y z t h k = tt

  module _ (told : (x y : C) → o.atmost x y ⊎ (o.atmost x y → ⊥)) where
    key_told : (a b : Key C) → NotAfter o a b ⊎ (NotAfter o a b → ⊥)
    key_told a b =
        elim (told a.cost b.cost) [
          | inr n ↦ inr (λ h. n h.cost)
          | inl c ↦ elim (told b.cost a.cost) [
            | inr n ↦ inl (record { cost = c; tie = λ back. absurd (n back) })
            | inl d ↦ elim (tie_told a b) [ inl t ↦ inl (record { cost = c; tie = λ _. t }) | inr n ↦ inr (λ h. n (h.tie d)) ]
          ]
        ]

    leads_told : (x y : Option (Key C)) → Leads o x y ⊎ (Leads o x y → ⊥)
    leads_told (Some a) (Some b) = key_told a b
    leads_told (Some a) None = inl tt
    leads_told None y = inl tt

    -- since the order is told, what is merely known of each seat holds of it
    pub sound_is : (h : Heap C) → ∥ Sound o h ∥₁ → Sound o h
    sound_is h t =
        record { ranked = λ i pos lt. elim (leads_told (key_on h (above i)) (key_on h i)) [ inl l ↦ l | inr n ↦ absurd (not_there t (λ s. n (s.ranked i pos lt))) ] }
