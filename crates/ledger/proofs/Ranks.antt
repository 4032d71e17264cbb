-- The order by cost, u and w, from the laws of the order of costs.
use Rattle.std.proofs.Common.{◌≡◌, ℕ, ◌<◌, ◌≤◌, ◌⊎◌, sym, refl, inl, inr, ⊎_elim, arith}
use Rattle.std.proofs.lemmas.Bool.{cases_order, cases_lt}
use Rattle.order.specs.declared.Ordered.{Ghosts as Order}
use Rattle.ledger.specs.Choice.{CostsMore, NotBehind}

behind_chain : (u w x y p q : ℕ) → NotBehind u w x y → NotBehind x y p q → NotBehind u w p q
behind_chain u w x y p q (inl h) (inl k) = inl (omega arith)
behind_chain u w x y p q (inl h) (inr k) = inl (omega arith)
behind_chain u w x y p q (inr h) (inl k) = inl (omega arith)
behind_chain u w x y p q (inr h) (inr k) = inr (omega arith, omega arith)

behind_either : (u w x y : ℕ) → NotBehind u w x y ⊎ NotBehind x y u w
behind_either u w x y = go (cases_order u x) (cases_lt w y)
  where
    go : (u ≡ x) ⊎ ((u < x) ⊎ (x < u)) → (w < y) ⊎ (y ≤ w) → NotBehind u w x y ⊎ NotBehind x y u w
    go (inr (inl l)) d = inl (inl l)
    go (inr (inr l)) d = inr (inl l)
    go (inl i) (inl l) = inl (inr (i, omega arith))
    go (inl i) (inr l) = inr (inr (sym i, l))

-- a, u and w come at or before c, x and y
pub record NotAfter {C : Type 0} (o : Order C) (a : C) (u w : ℕ) (c : C) (x y : ℕ) : Type 0 where
  pub cost : o.atmost a c
  pub tie : o.atmost c a → NotBehind u w x y

module _ {C : Type 0} (o : Order C) (total : (x y : C) → o.atmost x y ⊎ o.atmost y x) (transitive : (x y z : C) → o.atmost x y → o.atmost y z → o.atmost x z) where
  pub at_most_self : (a : C) → o.atmost a a
  at_most_self a = ⊎_elim (λ h. h) (λ h. h) (total a a)

  pub rank_self : (a : C) (u w : ℕ) → NotAfter o a u w a u w
  rank_self a u w = record { cost = at_most_self a; tie = λ _. inr (refl, omega arith) }

  pub rank_chain : (a : C) (u w : ℕ) (c : C) (x y : ℕ) (e : C) (p q : ℕ) → NotAfter o a u w c x y → NotAfter o c x y e p q → NotAfter o a u w e p q
  rank_chain a u w c x y e p q h k =
      record {
        cost = transitive a c e h.cost k.cost;
        tie = λ back. behind_chain u w x y p q (h.tie (transitive c e a k.cost back)) (k.tie (transitive e a c back h.cost));
      }

  -- more is told by the two costs being compared both ways
  pub rank_either : (a : C) (u w : ℕ) (c : C) (x y : ℕ) → o.atmost a c ⊎ CostsMore o a c → o.atmost c a ⊎ CostsMore o c a → NotAfter o a u w c x y ⊎ NotAfter o c x y a u w
  rank_either a u w c x y (inl h) (inr k) = inl (record { cost = h; tie = λ l. absurd (k l) })
  rank_either a u w c x y (inr h) (inl k) = inr (record { cost = k; tie = λ l. absurd (h l) })
  rank_either a u w c x y (inr h) (inr k) = absurd (⊎_elim h k (total a c))
  rank_either a u w c x y (inl h) (inl k) =
      ⊎_elim (λ t. inl (record { cost = h; tie = λ _. t })) (λ t. inr (record { cost = k; tie = λ _. t })) (behind_either u w x y)
