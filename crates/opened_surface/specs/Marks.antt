-- Sets of vertices. A set is a queue in which the members have keys.
use Rattle.std.specs.Prelude.{◌≡◌, ℕ, ◌/◌, true, ◌⊎◌, List, length, is_some, None, Option, slice_index_or}
use Rattle.surface.specs.Surface.{Surface, next}
use Rattle.queue.specs.declared.keys.Key.{Key}

abbrev pub Marks : Type 0
Marks = List (Option (Key ℕ))

-- x is a member
abbrev pub Marked : Marks → ℕ → Type 0
Marked l x = is_some (slice_index_or l x None) ≡ true

-- the members stay, there may be more, and there are as many places
pub record Wider (before after : Marks) : Type 0 where
  pub kept : (x : ℕ) → Marked before x → Marked after x
  pub long : length after ≡ length before

-- h is a half-edge of a live triangle that begins or ends at a member
abbrev pub NearMark : Surface → Marks → ℕ → Type 0
NearMark S l h = (S.alive (h / 3) ≡ true) × (Marked l (S.corner h) ⊎ Marked l (S.corner (next h)))
