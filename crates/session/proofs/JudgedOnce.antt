-- There is one verdict on a gathering.
use Rattle.std.proofs.Common.{◌≡◌, ℕ, ◌/◌, ◌<◌, ◌≤◌, true, false, ◌⊎◌, List, length, get_or, replicate, sym, refl, ap, ◌∙◌, inl, inr, arith, Ok, Err, Result}
use Rattle.std.proofs.lemmas.List.{get_or_past, length-replicate}
use Rattle.std.proofs.lemmas.Bool.{cases_lt}
use Rattle.surface.specs.Surface.{Surface}
use Rattle.surface.specs.Closed.{Closed, Single, Matched, AllRinged}
use Rattle.surface.specs.Geometry.{Vector}
use Rattle.surface.specs.Read.{read}
use Rattle.surface.proofs.PiecesUnique.{pieces_unique}
use Rattle.judging.specs.Flaws.{Lowest, Doubled, Unmet, Unringed, Flat}
use Rattle.gathering.specs.Model.{point_of, surface_of, triangle_count}
use Rattle.judging.specs.Verdict.{Counted, NoneFlat, JudgedSurface, Judged}
use Rattle.geometry.specs.declared.Position.{Position}
use Rattle.judging.specs.declared.verdict.Flaw.{Flaw}
use Rattle.judging.specs.declared.verdict.Flaw.TheVariants.{NoTriangle, SideTwice, SideUnmet, NoRing, ZeroNormal}
use Rattle.judging.specs.declared.verdict.Counts.{Counts}

lowest_once : (Q : ℕ → Type 0) (m n : ℕ) → Lowest Q m → Lowest Q n → m ≡ n
lowest_once Q m n a b = go (cases_lt m n) (cases_lt n m)
  where
    go : (m < n) ⊎ (n ≤ m) → (n < m) ⊎ (m ≤ n) → m ≡ n
    go (inl l) p = absurd (b.below m l a.here)
    go (inr l) (inl p) = absurd (a.below n p b.here)
    go (inr l) (inr p) = omega arith

same_counts : (n m : Counts) → n.vertices ≡ m.vertices → n.triangles ≡ m.triangles → n.euler ≡ m.euler → n.pieces ≡ m.pieces → n ≡ m
same_counts n m v t e p = λ i. record { vertices = v i; triangles = t i; euler = e i; pieces = p i }

pub counted_once : (S : Surface) (T V : ℕ) (n m : Counts) → Counted S T V n → Counted S T V m → n ≡ m
counted_once S T V n m a b =
    same_counts n m (a.vertices_are ∙ sym b.vertices_are) (a.triangles_are ∙ sym b.triangles_are) (a.euler_is ∙ sym b.euler_is) (pieces_unique S n.pieces m.pieces a.pieces_are b.pieces_are)

-- a live triangle is one of those gathered
some_triangle : (ps : List Position) (cs : List ℕ) → Closed (surface_of ps cs) → 0 < triangle_count cs
unfolding read
some_triangle ps cs c = go (cases_lt (h / 3) k)
  where
    k : ℕ
    k = length cs / 3

    h : ℕ
    h = c.some.0

    go : (h / 3 < k) ⊎ (k ≤ h / 3) → 0 < k
    go (inl l) = omega arith
    go (inr l) =
        let past : get_or (replicate k true) (h / 3) false ≡ false = get_or_past (replicate k true) (h / 3) false (rw (length-replicate k true) l) in
        let lives : get_or (replicate k true) (h / 3) false ≡ true = c.some.4.lives in
        let z : ◌≡◌ {A = ℕ} 0 1 = cc in
        omega arith

module _ (S : Surface) (P : ℕ → Vector) (T V : ℕ) (some : Closed S → 0 < T) where
  none : 0 < T → T ≡ 0 → ⊥
  none l e = omega arith

  twice : (t : ℕ) → Single S → Lowest (Doubled S) t → ⊥
  twice t s l = let d = l.here in d.7 (s d.0 d.1 d.2 d.3 d.4 d.5 d.8 d.9)

  unmet : (t : ℕ) → Matched S → Lowest (Unmet S) t → ⊥
  unmet t m l = let d = l.here in d.6 (m d.0 d.1 d.2 d.3 d.5)

  ringless : (v : ℕ) → AllRinged S → Lowest (Unringed S) v → ⊥
  ringless v r l = l.here.1 (r v l.here.0)

  flat : (t : ℕ) → NoneFlat S P → Lowest (Flat S P) t → ⊥
  flat t f l = f t l.here

  once : (v w : Result Counts Flaw) → JudgedSurface S P T V v → JudgedSurface S P T V w → v ≡ w
  once (Ok n) (Ok m) a b = ap Ok (counted_once S T V n m a.2 b.2)
  once (Ok n) (Err NoTriangle) a b = absurd (none (some a.0) b)
  once (Ok n) (Err (SideTwice t)) a b = absurd (twice t a.0.single b.1)
  once (Ok n) (Err (SideUnmet t)) a b = absurd (unmet t a.0.matched b.2)
  once (Ok n) (Err (NoRing v)) a b = absurd (ringless v a.0.ring b.3)
  once (Ok n) (Err (ZeroNormal t)) a b = absurd (flat t a.1 b.4)
  once (Err NoTriangle) (Ok m) a b = absurd (none (some b.0) a)
  once (Err NoTriangle) (Err NoTriangle) a b = refl
  once (Err NoTriangle) (Err (SideTwice t)) a b = absurd (none b.0 a)
  once (Err NoTriangle) (Err (SideUnmet t)) a b = absurd (none b.0 a)
  once (Err NoTriangle) (Err (NoRing v)) a b = absurd (none b.0 a)
  once (Err NoTriangle) (Err (ZeroNormal t)) a b = absurd (none b.0 a)
  once (Err (SideTwice u)) (Ok m) a b = absurd (twice u b.0.single a.1)
  once (Err (SideTwice u)) (Err NoTriangle) a b = absurd (none a.0 b)
  once (Err (SideTwice u)) (Err (SideTwice t)) a b = ap (λ (n : ℕ). Err (SideTwice n)) (lowest_once (Doubled S) u t a.1 b.1)
  once (Err (SideTwice u)) (Err (SideUnmet t)) a b = absurd (twice u b.1 a.1)
  once (Err (SideTwice u)) (Err (NoRing v)) a b = absurd (twice u b.1 a.1)
  once (Err (SideTwice u)) (Err (ZeroNormal t)) a b = absurd (twice u b.1 a.1)
  once (Err (SideUnmet u)) (Ok m) a b = absurd (unmet u b.0.matched a.2)
  once (Err (SideUnmet u)) (Err NoTriangle) a b = absurd (none a.0 b)
  once (Err (SideUnmet u)) (Err (SideTwice t)) a b = absurd (twice t a.1 b.1)
  once (Err (SideUnmet u)) (Err (SideUnmet t)) a b = ap (λ (n : ℕ). Err (SideUnmet n)) (lowest_once (Unmet S) u t a.2 b.2)
  once (Err (SideUnmet u)) (Err (NoRing v)) a b = absurd (unmet u b.2 a.2)
  once (Err (SideUnmet u)) (Err (ZeroNormal t)) a b = absurd (unmet u b.2 a.2)
  once (Err (NoRing u)) (Ok m) a b = absurd (ringless u b.0.ring a.3)
  once (Err (NoRing u)) (Err NoTriangle) a b = absurd (none a.0 b)
  once (Err (NoRing u)) (Err (SideTwice t)) a b = absurd (twice t a.1 b.1)
  once (Err (NoRing u)) (Err (SideUnmet t)) a b = absurd (unmet t a.2 b.2)
  once (Err (NoRing u)) (Err (NoRing v)) a b = ap (λ (n : ℕ). Err (NoRing n)) (lowest_once (Unringed S) u v a.3 b.3)
  once (Err (NoRing u)) (Err (ZeroNormal t)) a b = absurd (ringless u b.3 a.3)
  once (Err (ZeroNormal u)) (Ok m) a b = absurd (flat u b.1 a.4)
  once (Err (ZeroNormal u)) (Err NoTriangle) a b = absurd (none a.0 b)
  once (Err (ZeroNormal u)) (Err (SideTwice t)) a b = absurd (twice t a.1 b.1)
  once (Err (ZeroNormal u)) (Err (SideUnmet t)) a b = absurd (unmet t a.2 b.2)
  once (Err (ZeroNormal u)) (Err (NoRing v)) a b = absurd (ringless v a.3 b.3)
  once (Err (ZeroNormal u)) (Err (ZeroNormal t)) a b = ap (λ (n : ℕ). Err (ZeroNormal n)) (lowest_once (Flat S P) u t a.4 b.4)

pub judged_once : (ps : List Position) (cs : List ℕ) (v w : Result Counts Flaw) → Judged ps cs v → Judged ps cs w → v ≡ w
judged_once ps cs v w a b = once (surface_of ps cs) (point_of ps) (triangle_count cs) (length ps) (some_triangle ps cs) v w a b
