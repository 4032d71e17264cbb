-- The fraction that a collapse costs.
use Rattle.std.proofs.Common.{◌≡◌, ℕ, ◌<◌, ◌≤◌, List, Some, None, Option, refl, ◌∙◌, MatchOption}
use native.Mathlib.Bridge.{le_prop}
use native.Mathlib.Decide.{dec_le}
use Rattle.surface.specs.Surface.{next, Tri, Side}
use Rattle.geometry.specs.declared.Position.{Position}
use Rattle.gathering.specs.Model.{point_of}
use Rattle.mesh.specs.Model.{held, surface, points}
use Rattle.mesh.specs.declared.halfedges.HalfEdges.{HalfEdges}
use Rattle.gauge.specs.Near.{near}
use Rattle.fraction.specs.Fractions.{Divides}
use Rattle.fraction.specs.declared.Fraction.{Fraction}
use Rattle.sweep.specs.Exact.{ExactFraction}
use Rattle.sweep.specs.Sweeps.{volume_swept, number_moved}
use Rattle.sweep.specs.Prices.{chosen, over, price}
use Rattle.sweep.proofs.Moved.{number_some, number_most}

chosen_is : (f : Fraction) (p : Dec (1 ≤ f.divisor)) (q : Dec (f.divisor ≤ 2048)) → f ≡ chosen f.amount f.divisor p q
chosen_is f (yes p) (yes q) = λ i. record { amount = f.amount; divisor = f.divisor; divides = (le_prop f.divides.0 p i, le_prop f.divides.1 q i) }
chosen_is f (yes p) (no n) = absurd (n f.divides.1)
chosen_is f (no n) q = absurd (n f.divides.0)

over_is : (f : Fraction) {a m : ℕ} → f.amount ≡ a → f.divisor ≡ m → f ≡ over a m
unfolding over
over_is f i j = chosen_is f (dec_le 1 f.divisor) (dec_le f.divisor 2048) ∙ (λ n. over (i n) (j n))

-- r is the price of the collapse of u to w, n being the number of entries
abbrev pub Priced : HalfEdges → List Position → ℕ → ℕ → ℕ → Option Fraction → Type 0
Priced e ps n u w r =
    MatchOption r (Side (held e) u w → u < n → w < n → ⊥) (λ f. Side (held e) u w × (u < n) × (w < n) × (f ≡ price u w (point_of ps w) (near (held e) (point_of ps) u w)))

-- where h leads from u to w, the fraction is made and is the price
pub priced : (e : HalfEdges) (ps : List Position) {h u w c : ℕ} → Tri (held e) h u w c → {n : ℕ} → u < n → w < n → (x m : ℕ) →
    x ≡ volume_swept ((held e).corner h) ((held e).corner (next h)) (point_of ps ((held e).corner (next h))) (near (held e) (point_of ps) ((held e).corner h) ((held e).corner (next h))) →
    m ≡ number_moved ((held e).corner h) ((held e).corner (next h)) (near (held e) (point_of ps) ((held e).corner h) ((held e).corner (next h))) →
    (r : Option Fraction) → MatchOption r (Divides m → ⊥) (λ f. (f.amount ≡ x) × (f.divisor ≡ m)) → Priced e ps n u w r
priced e ps {h} {u} {w} {c} t {n} i j x m p q r k = go r k
  where
    volume : x ≡ volume_swept u w (point_of ps w) (near (held e) (point_of ps) u w)
    volume = p ∙ (λ i. volume_swept (t.from i) (t.to i) (point_of ps (t.to i)) (near (held e) (point_of ps) (t.from i) (t.to i)))

    number : m ≡ number_moved u w (near (held e) (point_of ps) u w)
    number = q ∙ (λ i. number_moved (t.from i) (t.to i) (near (held e) (point_of ps) (t.from i) (t.to i)))

    divides : Divides m
    divides = rw number (number_some e (point_of ps) t, number_most e (point_of ps) t)

    go : (r : Option Fraction) → MatchOption r (Divides m → ⊥) (λ f. (f.amount ≡ x) × (f.divisor ≡ m)) → Priced e ps n u w r
    go None k = absurd (k divides)
    go (Some f) k = ((h, c, t), i, j, over_is f (k.0 ∙ volume) (k.1 ∙ number))

-- a over m where m is from 1 to 2,048
chosen_parts : (a m : ℕ) (p : Dec (1 ≤ m)) (q : Dec (m ≤ 2048)) → 1 ≤ m → m ≤ 2048 → ((chosen a m p q).amount ≡ a) × ((chosen a m p q).divisor ≡ m)
chosen_parts a m (yes p) (yes q) i j = (refl, refl)
chosen_parts a m (yes p) (no n) i j = absurd (n j)
chosen_parts a m (no n) q i j = absurd (n i)

over_parts : (a m : ℕ) → 1 ≤ m → m ≤ 2048 → ((over a m).amount ≡ a) × ((over a m).divisor ≡ m)
unfolding over
over_parts a m i j = chosen_parts a m (dec_le 1 m) (dec_le m 2048) i j

pub exact_fraction : ExactFraction
exact_fraction m u w (h, c, t) =
    let P = points m in
    let some = number_some m.edges P t in
    let most = number_most m.edges P t in
    let (x, y) = over_parts (volume_swept u w (P w) (near (surface m) P u w)) (number_moved u w (near (surface m) P u w)) some most in
    (some, most, x, y)
