-- From the tests to the verdict.
use Rattle.std.proofs.Common.{◌≡◌, ℕ, ◌*◌, ◌/◌, ◌%◌, ◌<◌, Bool, true, false, eqb, List, length, get_or, pos, ◌+ℤ◌, ◌-ℤ◌, Some, None, Err, sym, ap, ◌∙◌, subst, arith}
use Rattle.std.proofs.lemmas.Bool.{eqb-false}
use Rattle.surface.specs.Surface.{Surface, next, prev, Within}
use Rattle.surface.specs.Closed.{Closed}
use Rattle.surface.specs.Euler.{vertices, triangles, edges, euler}
use Rattle.surface.specs.Geometry.{Vector}
use Rattle.surface.specs.Pieces.{Pieces}
use Rattle.surface.specs.Read.{whole}
use Rattle.surface.proofs.Counting.{count_same, count_all}
use Rattle.surface.proofs.Sides.{sides_counted}
use Rattle.gathering.specs.Limits.{Numbered, Differing}
use Rattle.judging.specs.Verdict.{Counted, FirstFlaw, JudgedSurface}
use Rattle.judging.specs.declared.verdict.Flaw.{Flaw}
use Rattle.judging.specs.declared.verdict.Flaw.TheVariants.{NoTriangle, SideTwice, SideUnmet, NoRing, ZeroNormal}
use Rattle.judging.specs.declared.verdict.Counts.{Counts}
use Rattle.judging.proofs.Whole.{whole_tri, tri_below, whole_present, present_below, whole_alive, alive_below}

pub refused : (S : Surface) (P : ℕ → Vector) (T V : ℕ) (f : Flaw) → 0 < T → FirstFlaw S P (Some f) → JudgedSurface S P T V (Err f)
refused S P T V NoTriangle l r = absurd r
refused S P T V (SideTwice t) l r = (l, r)
refused S P T V (SideUnmet t) l (a, b) = (l, a, b)
refused S P T V (NoRing v) l (a, b, r) = (l, a, b, r)
refused S P T V (ZeroNormal t) l (a, b, r, d) = (l, a, b, r, d)

-- a list that is not empty has an entry
pub some_entry : (cs : List ℕ) (b : Bool) → b ≡ eqb (length cs) 0 → b ≡ false → 0 < length cs
some_entry cs b e f = let d = eqb-false (length cs) 0 (sym e ∙ f) in omega arith

module _ (cs : List ℕ) (n : ℕ) (N : Numbered cs n) (D : Differing cs) (threes : length cs % 3 ≡ 0) (some : 0 < length cs) where
  pub closed : (P : ℕ → Vector) → FirstFlaw (whole cs n) P None → Closed (whole cs n)
  closed P (single, matched, ring, flat) =
      record {
        some = (0, get_or cs 0 0, get_or cs (next 0) 0, get_or cs (prev 0) 0, whole_tri cs n 0 threes some);
        proper = λ h a b c t e. let (i, f, s, _) = tri_below cs n threes t in D h i (f ∙ e ∙ sym s);
        single = single;
        matched = matched;
        ring = ring;
        known = λ h a b c t. let (i, f, s, _) = tri_below cs n threes t in whole_present cs n a (subst (λ (x : ℕ). x < n) f (N h i));
      }

  all_vertices : vertices (whole cs n) n ≡ n
  all_vertices = count_same (whole cs n).present (λ _. true) n (λ v l. whole_present cs n v l) ∙ count_all n

  all_triangles : triangles (whole cs n) (length cs / 3) ≡ length cs / 3
  all_triangles = count_same (whole cs n).alive (λ _. true) (length cs / 3) (λ t l. whole_alive cs n t l) ∙ count_all (length cs / 3)

  within : Within (whole cs n) (length cs / 3) n
  within = record { triangles = λ t l. alive_below cs n t l; vertices = λ v l. present_below cs n v l }

  pub counted : Closed (whole cs n) → (r : Counts) → r.vertices ≡ n → r.triangles ≡ length cs / 3 →
      r.euler ≡ (pos n -ℤ pos (3 * (length cs / 3) / 2)) +ℤ pos (length cs / 3) → Pieces (whole cs n) r.pieces → Counted (whole cs n) (length cs / 3) n r
  unfolding euler
  counted K r a b e p =
      let T = length cs / 3 in
      let two : 2 * edges (whole cs n) T n ≡ 3 * triangles (whole cs n) T = sides_counted (whole cs n) K T n within in
      let half : 3 * T / 2 ≡ edges (whole cs n) T n = omega (arith, all_triangles) in
      record {
        vertices_are = a ∙ sym all_vertices;
        triangles_are = b ∙ sym all_triangles;
        euler_is =
            e ∙ ap (λ (x : ℕ). (pos n -ℤ pos x) +ℤ pos T) half ∙ ap (λ (x : ℕ). (pos x -ℤ pos (edges (whole cs n) T n)) +ℤ pos T) (sym all_vertices)
            ∙ ap (λ (x : ℕ). (pos (vertices (whole cs n) n) -ℤ pos (edges (whole cs n) T n)) +ℤ pos x) (sym all_triangles);
        pieces_are = p;
      }
