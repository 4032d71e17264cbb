-- What a queue means: for each candidate number the key that it has, if it has one.
use Rattle.std.specs.Prelude.{◌≡◌, ℕ, ◌<◌, ◌≤◌, List, Some, None, vec_items, Option, slice_index_or}
use Rattle.order.specs.declared.Ordered.{Ghosts}
use Rattle.queue.specs.Keys.{NotAfter}
use Rattle.queue.specs.declared.Queue.{Queue}
use Rattle.queue.specs.declared.Refusal.{Refusal}
use Rattle.queue.specs.declared.Refusal.TheVariants.{TooMany, NoMemory}
use Rattle.queue.specs.declared.keys.Key.{Key}

abbrev pub keys_of : {C : Type 0} {o : Ghosts C} → Queue C o → List (Option (Key C))
keys_of q = vec_items q.heap.keys

-- the candidate n has the key k
abbrev pub Held : {C : Type 0} → List (Option (Key C)) → ℕ → Key C → Type 0
Held keys n k = slice_index_or keys n None ≡ Some k

-- no candidate has a key
abbrev pub NoKeys : {C : Type 0} → List (Option (Key C)) → Type 0
NoKeys {C} keys = (n : ℕ) (k : Key C) → Held keys n k → ⊥

-- k is after no candidate's key
pub record Least {C : Type 0} (o : Ghosts C) (q : Queue C o) (k : Key C) : Type 0 where
  pub not_after : (n : ℕ) (l : Key C) → Held (keys_of q) n l → NotAfter o k l

-- why no queue of that many candidates was made
abbrev pub Why : ℕ → Refusal → Type 0
Why limit TooMany = 6144 < limit
Why limit NoMemory = limit ≤ 6144
