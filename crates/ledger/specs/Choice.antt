-- Which collapse a step takes: a permitted one that costs at most as much as any other permitted one and, where another ranks
-- equal, has the smaller u, or the same u and the smaller w. Two costs rank equal where each is at most the other.
use Rattle.std.specs.Prelude.{◌≡◌, ℕ, ◌<◌, ◌≤◌, ◌⊎◌}
use Rattle.order.specs.declared.Ordered.{Ghosts as Order}
use Rattle.gauge.specs.declared.Gauge.{Ghosts}
use Rattle.ledger.specs.Book.{Book, PermittedNow, cost_now}

-- x costs more than y
abbrev pub CostsMore : {C : Type 0} → Order C → C → C → Type 0
CostsMore o x y = o.atmost x y → ⊥

abbrev pub RankEqual : {C : Type 0} → Order C → C → C → Type 0
RankEqual o x y = o.atmost x y × o.atmost y x

-- of any two costs it can be told whether the first is at most the second
abbrev pub Told : {C : Type 0} → Order C → Type 0
Told {C} o = (x y : C) → o.atmost x y ⊎ CostsMore o x y

-- (u, w) stands before (x, y), or is the same pair
abbrev pub NotBehind : ℕ → ℕ → ℕ → ℕ → Type 0
NotBehind u w x y = (u < x) ⊎ ((u ≡ x) × (w ≤ y))

-- the collapse of u to w is the one that a step takes
pub record First {G C E S : Type 0} (m : Ghosts G C E S) (o : Order C) (s : S) (b : Book) (u w : ℕ) : Type 0 where
  pub permitted : PermittedNow b u w
  pub cheapest : (x y : ℕ) → PermittedNow b x y → o.atmost (cost_now m s b u w) (cost_now m s b x y)
  pub foremost : (x y : ℕ) → PermittedNow b x y → o.atmost (cost_now m s b x y) (cost_now m s b u w) → NotBehind u w x y

-- the same in other words: every other permitted collapse costs more, or ranks equal and has a greater u, or ranks equal with
-- the same u and a greater w
pub record InWords {G C E S : Type 0} (m : Ghosts G C E S) (o : Order C) (s : S) (b : Book) (u w : ℕ) : Type 0 where
  pub permitted : PermittedNow b u w
  pub others : (x y : ℕ) → PermittedNow b x y → ((x ≡ u) × (y ≡ w)) ⊎ (CostsMore o (cost_now m s b x y) (cost_now m s b u w) ⊎ (RankEqual o (cost_now m s b x y) (cost_now m s b u w) × ((u < x) ⊎ ((x ≡ u) × (w < y)))))

-- no collapse is permitted
abbrev pub NonePermittedNow : Book → Type 0
NonePermittedNow b = (u w : ℕ) → PermittedNow b u w → ⊥
