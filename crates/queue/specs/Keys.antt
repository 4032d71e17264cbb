-- Which of two keys comes first, for every order of costs.
use Rattle.std.specs.Prelude.{◌≡◌, ◌<◌, ◌≤◌, ◌⊎◌}
use Rattle.order.specs.declared.Ordered.{Ghosts}
use Rattle.queue.specs.declared.keys.Key.{Key}

-- a's u is the smaller, or the two have one u and a's w is not the larger
abbrev pub TieNotAfter : {C : Type 0} → Key C → Key C → Type 0
TieNotAfter a b = (a.u < b.u) ⊎ ((a.u ≡ b.u) × (a.w ≤ b.w))

-- a's cost is at most b's, and where the two costs rank equal u and w decide
pub record NotAfter {C : Type 0} (o : Ghosts C) (a b : Key C) : Type 0 where
  pub cost : o.atmost a.cost b.cost
  pub tie : o.atmost b.cost a.cost → TieNotAfter a b

abbrev pub Before : {C : Type 0} → Ghosts C → Key C → Key C → Type 0
Before o a b = NotAfter o a b × (NotAfter o b a → ⊥)
