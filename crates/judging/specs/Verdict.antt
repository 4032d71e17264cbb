-- What the verdict on a gathering says.
use Rattle.std.specs.Prelude.{◌≡◌, ℕ, ◌<◌, List, length, Some, None, Ok, Err, Option, Result}
use Rattle.surface.specs.Surface.{Surface}
use Rattle.surface.specs.Closed.{Closed, Single, Matched, AllRinged}
use Rattle.surface.specs.Euler.{triangles, vertices, euler}
use Rattle.surface.specs.Pieces.{Pieces}
use Rattle.surface.specs.Geometry.{Vector}
use Rattle.judging.specs.Flaws.{Lowest, Doubled, Unmet, Unringed, Flat}
use Rattle.gathering.specs.Model.{point_of, surface_of, triangle_count}
use Rattle.geometry.specs.declared.Position.{Position}
use Rattle.judging.specs.declared.verdict.Flaw.{Flaw}
use Rattle.judging.specs.declared.verdict.Flaw.TheVariants.{NoTriangle, SideTwice, SideUnmet, NoRing, ZeroNormal}
use Rattle.judging.specs.declared.verdict.Counts.{Counts}
use Rattle.judging.specs.declared.verdict.Unjudged.{Unjudged}
use Rattle.judging.specs.declared.verdict.Unjudged.TheVariants.{Flawed, NoMemory}

-- the counts of a surface of T triangles and V vertices
pub record Counted (S : Surface) (T V : ℕ) (n : Counts) : Type 0 where
  pub vertices_are : n.vertices ≡ vertices S V
  pub triangles_are : n.triangles ≡ triangles S T
  pub euler_is : n.euler ≡ euler S T V
  pub pieces_are : Pieces S n.pieces

-- no live triangle has a zero normal
abbrev pub NoneFlat : Surface → (ℕ → Vector) → Type 0
NoneFlat S P = (t : ℕ) → Flat S P t → ⊥

-- the first rule that a surface with some triangle breaks, if it breaks any
abbrev pub FirstFlaw : Surface → (ℕ → Vector) → Option Flaw → Type 0
FirstFlaw S P None = Single S × Matched S × AllRinged S × NoneFlat S P
FirstFlaw S P (Some NoTriangle) = ⊥
FirstFlaw S P (Some (SideTwice t)) = Lowest (Doubled S) t
FirstFlaw S P (Some (SideUnmet t)) = Single S × Lowest (Unmet S) t
FirstFlaw S P (Some (NoRing v)) = Single S × Matched S × Lowest (Unringed S) v
FirstFlaw S P (Some (ZeroNormal t)) = Single S × Matched S × AllRinged S × Lowest (Flat S P) t

-- the counts of the surface S of T triangles and V vertices, or the first rule that it breaks, and the lowest place
abbrev pub JudgedSurface : Surface → (ℕ → Vector) → ℕ → ℕ → Result Counts Flaw → Type 0
JudgedSurface S P T V (Ok n) = Closed S × NoneFlat S P × Counted S T V n
JudgedSurface S P T V (Err NoTriangle) = T ≡ 0
JudgedSurface S P T V (Err (SideTwice t)) = (0 < T) × Lowest (Doubled S) t
JudgedSurface S P T V (Err (SideUnmet t)) = (0 < T) × Single S × Lowest (Unmet S) t
JudgedSurface S P T V (Err (NoRing v)) = (0 < T) × Single S × Matched S × Lowest (Unringed S) v
JudgedSurface S P T V (Err (ZeroNormal t)) = (0 < T) × Single S × Matched S × AllRinged S × Lowest (Flat S P) t

abbrev pub Judged : List Position → List ℕ → Result Counts Flaw → Type 0
Judged ps cs r = JudgedSurface (surface_of ps cs) (point_of ps) (triangle_count cs) (length ps) r

-- why no counts are answered: the first rule that the surface breaks, and nothing is said where memory runs out
abbrev pub WhyNot : List Position → List ℕ → Unjudged → Type 0
WhyNot ps cs (Flawed f) = Judged ps cs (Err f)
WhyNot ps cs NoMemory = Unit {0}
