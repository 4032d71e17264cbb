-- How a heap finds its least key: each seat but the first has a seat above it, whose key is not after its own.
use Rattle.std.specs.Prelude.{◌≡◌, ℕ, ◌-◌, ◌/◌, ◌<◌, Some, None, vec_items, Option, ◌≢◌, slice_index, slice_index_or}
use Rattle.order.specs.declared.Ordered.{Ghosts}
use Rattle.queue.specs.Keys.{NotAfter}
use Rattle.queue.specs.declared.heap.Heap.{Heap}
use Rattle.queue.specs.declared.keys.Key.{Key}

-- the seat above
abbrev pub above : ℕ → ℕ
above i = (i - 1) / 2

-- the key on a seat
abbrev pub key_on : {C : Type 0} → Heap C → ℕ → Option (Key C)
key_on q i = slice_index_or (vec_items q.keys) (slice_index (vec_items q.seating.number) i) None

-- of two keys that are there, the first is not after the second
abbrev pub Leads : {C : Type 0} → Ghosts C → Option (Key C) → Option (Key C) → Type 0
Leads o (Some a) (Some b) = NotAfter o a b
Leads o (Some a) None = Unit {0}
Leads o None b = Unit {0}

-- each of the first n seats is led by the one above it
abbrev pub Ranked : {X : Type 0} → (X → X → Type 0) → (ℕ → X) → ℕ → Type 0
Ranked R on n = (i : ℕ) → 0 < i → i < n → R (on (above i)) (on i)

-- ranked but for the seat s and those below it, which are led by the seat above s
abbrev pub RankedBut : {X : Type 0} → (X → X → Type 0) → (ℕ → X) → ℕ → ℕ → Type 0
RankedBut R on n s = ((i : ℕ) → 0 < i → i < n → (i ≢ s) → (above i ≢ s) → R (on (above i)) (on i)) × ((i : ℕ) → 0 < i → i < n → above i ≡ s → 0 < s → R (on (above s)) (on i))

-- so, and s leads those below it: it can only be too low
abbrev pub RankedButUp : {X : Type 0} → (X → X → Type 0) → (ℕ → X) → ℕ → ℕ → Type 0
RankedButUp R on n s = RankedBut R on n s × ((i : ℕ) → 0 < i → i < n → above i ≡ s → R (on s) (on i))

-- so, and s is led by the seat above it: it can only be too high
abbrev pub RankedButDown : {X : Type 0} → (X → X → Type 0) → (ℕ → X) → ℕ → ℕ → Type 0
RankedButDown R on n s = RankedBut R on n s × (0 < s → R (on (above s)) (on s))

-- what is on the seats a and b has changed places
abbrev pub Exchanged : {X : Type 0} → (ℕ → X) → (ℕ → X) → ℕ → ℕ → Type 0
Exchanged on off a b = (off a ≡ on b) × (off b ≡ on a) × ((i : ℕ) → (i ≢ a) → (i ≢ b) → off i ≡ on i)

-- the same of a heap's keys
pub record Sound {C : Type 0} (o : Ghosts C) (q : Heap C) : Type 0 where
  pub ranked : Ranked (Leads o) (key_on q) q.count

abbrev pub SoundBut : {C : Type 0} → Ghosts C → Heap C → ℕ → Type 0
SoundBut o q s = RankedBut (Leads o) (key_on q) q.count s

abbrev pub SoundButUp : {C : Type 0} → Ghosts C → Heap C → ℕ → Type 0
SoundButUp o q s = RankedButUp (Leads o) (key_on q) q.count s

abbrev pub SoundButDown : {C : Type 0} → Ghosts C → Heap C → ℕ → Type 0
SoundButDown o q s = RankedButDown (Leads o) (key_on q) q.count s

-- the key on the seat a is not after the one on the seat b
abbrev pub SeatLeads : {C : Type 0} → Ghosts C → Heap C → ℕ → ℕ → Type 0
SeatLeads o q a b = Leads o (key_on q a) (key_on q b)

-- i is a seat right below s and has a key
abbrev pub Under : {C : Type 0} → Heap C → ℕ → ℕ → Type 0
Under q s i = (0 < i) × (i < q.count) × (above i ≡ s)

-- the key on the seat a is after none right below s
abbrev pub LeadsUnder : {C : Type 0} → Ghosts C → Heap C → ℕ → ℕ → Type 0
LeadsUnder o q a s = (i : ℕ) → Under q s i → SeatLeads o q a i
