-- The words of the examples.
use Rattle.std.specs.Prelude.{◌≡◌, ℕ, ◌+◌, ◌*◌, true, List, ℤ, pos}
use Rattle.surface.specs.Surface.{Surface}
use Rattle.surface.specs.Geometry.{dot, normal_at, six_volume}
use Rattle.surface.specs.Collapse.{collapse}
use Rattle.ledger.specs.Book.{Book, surface_now, cost_now}
use Rattle.ledger.specs.Ledger.{Entry, Kept}
use Rattle.ledger.specs.Numbers.{number}
use Rattle.ledger.specs.declared.call.Call.{Call}
use Rattle.ledger.specs.declared.call.Answer.{Answer}
use Rattle.ledger.specs.declared.call.Answer.TheVariants.{Refused}
use Rattle.ledger.specs.declared.call.Refusal.{Refusal}
use Rattle.planes.specs.Meaning.{by_planes, whole_order}
use Rattle.sweep.specs.Meaning.{by_sweep}

-- what the collapse of u to w costs by planes
abbrev pub planes_cost : Book → ℕ → ℕ → ℕ
planes_cost b u w = cost_now by_planes tt b u w

-- it costs so much by sweep
abbrev pub SweepCost : Book → ℕ → ℕ → ℕ → ℕ → Type 0
SweepCost b u w amount divisor = (by_sweep.amount (cost_now by_sweep tt b u w) ≡ amount) × (by_sweep.divisor (cost_now by_sweep tt b u w) ≡ divisor)

-- by planes, the call on the book before is answered so and leaves the book after; and the same over a list of calls
abbrev pub Answered : Book → Call → Answer ℕ → Book → Type 0
Answered b c r d = Entry by_planes whole_order tt b c r d

abbrev pub AllAnswered : Book → List Call → List (Answer ℕ) → Book → Type 0
AllAnswered b cs rs d = Kept by_planes whole_order tt b cs rs d

-- the call is refused by number n, and changes nothing
abbrev pub RefusedBy : Book → Call → ℕ → Type 0
RefusedBy b c n = (e : Refusal) × (number e ≡ n) × Answered b c (Refused e) b

-- the scalar product of the normals of triangle t before and after the collapse of u to w
abbrev pub turned : Book → ℕ → ℕ → ℕ → ℤ
turned b u w t = dot (normal_at (surface_now b) b.points t) (normal_at (collapse (surface_now b) u w) b.points t)

-- the six-volume of every live triangle at the point of every live vertex is zero
abbrev pub LiesFlat : Book → Type 0
LiesFlat b =
    let S : Surface = surface_now b in
    (t v : ℕ) → S.alive t ≡ true → S.present v ≡ true →
    six_volume (b.points (S.corner (3 * t))) (b.points (S.corner (3 * t + 1))) (b.points (S.corner (3 * t + 2))) (b.points v) ≡ pos 0
