-- What is live in the surface of all corners, and its triangles by their corners.
use Rattle.std.proofs.Common.{◌≡◌, ℕ, ◌/◌, ◌%◌, ◌<◌, ◌≤◌, true, false, ◌⊎◌, List, length, get_or, replicate, Some, None, Option, MatchOption, sym, refl, ◌∙◌, inl, inr, arith}
use Rattle.std.proofs.lemmas.List.{length-replicate, get_or-replicate, get_or_past}
use Rattle.std.proofs.lemmas.Bool.{cases_lt, both_ways}
use Rattle.surface.specs.Surface.{Surface, Tri, next, prev}
use Rattle.surface.specs.Ring.{Ringed}
use Rattle.surface.specs.Read.{read, whole}
use Rattle.judging.specs.Rings.{FirstUnringed}

flag_set : (n k : ℕ) → k < n → get_or (replicate n true) k false ≡ true
flag_set n k l = get_or-replicate n k true false l

flag_below : (n k : ℕ) → get_or (replicate n true) k false ≡ true → k < n
flag_below n k e = go (cases_lt k n)
  where
    go : (k < n) ⊎ (n ≤ k) → k < n
    go (inl l) = l
    go (inr l) = absurd (both_ways _ (get_or_past (replicate n true) k false (omega (arith, length-replicate n true))) e)

module _ (cs : List ℕ) (n : ℕ) where
  pub whole_present : (v : ℕ) → v < n → (whole cs n).present v ≡ true
  unfolding read
  whole_present v l = flag_set n v l

  pub present_below : (v : ℕ) → (whole cs n).present v ≡ true → v < n
  unfolding read
  present_below v e = flag_below n v e

  pub whole_alive : (t : ℕ) → t < length cs / 3 → (whole cs n).alive t ≡ true
  unfolding read
  whole_alive t l = flag_set (length cs / 3) t l

  pub alive_below : (t : ℕ) → (whole cs n).alive t ≡ true → t < length cs / 3
  unfolding read
  alive_below t e = flag_below (length cs / 3) t e

  pub whole_corner : (h : ℕ) → (whole cs n).corner h ≡ get_or cs h 0
  unfolding read
  whole_corner h = refl

pub whole_tri : (cs : List ℕ) (n h : ℕ) → length cs % 3 ≡ 0 → h < length cs → Tri (whole cs n) h (get_or cs h 0) (get_or cs (next h) 0) (get_or cs (prev h) 0)
whole_tri cs n h m l =
    record {
      lives = whole_alive cs n (h / 3) (omega arith);
      from = whole_corner cs n h;
      to = whole_corner cs n (next h);
      third = whole_corner cs n (prev h);
    }

pub tri_below : {h a b c : ℕ} (cs : List ℕ) (n : ℕ) → length cs % 3 ≡ 0 → Tri (whole cs n) h a b c →
    (h < length cs) × (get_or cs h 0 ≡ a) × (get_or cs (next h) 0 ≡ b) × (get_or cs (prev h) 0 ≡ c)
tri_below {h} cs n m t =
    let l : h / 3 < length cs / 3 = alive_below cs n (h / 3) t.lives in
    (omega arith, sym (whole_corner cs n h) ∙ t.from, sym (whole_corner cs n (next h)) ∙ t.to, sym (whole_corner cs n (prev h)) ∙ t.third)

-- what a search of the first m vertices for one without a ring tells
abbrev pub Searched : Surface → ℕ → Option ℕ → Type 0
Searched S m r = MatchOption r ((k : ℕ) → 0 ≤ k → k < m → Ringed S k) (λ i. (0 ≤ i) × (i < m) × (Ringed S i → ⊥) × ((k : ℕ) → 0 ≤ k → k < i → Ringed S k))

pub unringed_told : (cs : List ℕ) (n m : ℕ) → m ≡ n → (r : Option ℕ) → Searched (whole cs n) m r → FirstUnringed (whole cs n) r
unringed_told cs n m e None all = λ v p. all v (omega arith) (omega (arith, present_below cs n v p))
unringed_told cs n m e (Some v) (_, l, not, all) = record { here = (whole_present cs n v (omega arith), not); below = λ u k (_, n). n (all u (omega arith) k) }
