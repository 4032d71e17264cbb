-- Gatherings of three vertices that are judged flawed.
use Rattle.std.specs.Prelude.{◌≡◌, ℕ, List, [], ◌∷◌, Err}
use Rattle.geometry.specs.declared.Position.{Position}
use Rattle.judging.specs.Numbers.{flaw_number, flaw_place}
use Rattle.judging.specs.Verdict.{Judged}
use Rattle.judging.specs.declared.verdict.Flaw.{Flaw}
use Rattle.examples.specs.Octahedron.{at}

-- the vertices
unfoldable pub three : List Position
three = at 0 0 0 ∷ at 4 0 0 ∷ at 0 4 0 ∷ []

-- one triangle
unfoldable pub alone : List ℕ
alone = 0 ∷ 1 ∷ 2 ∷ []

-- that triangle and the same turned over
unfoldable pub sheet : List ℕ
sheet = 0 ∷ 1 ∷ 2 ∷ 0 ∷ 2 ∷ 1 ∷ []

-- that triangle twice
unfoldable pub double : List ℕ
double = 0 ∷ 1 ∷ 2 ∷ 0 ∷ 1 ∷ 2 ∷ []

-- these triangles on the three vertices are refused by number n, at the triangle or vertex `place`
abbrev pub Flawed : List ℕ → ℕ → ℕ → Type 0
Flawed cs n place = (f : Flaw) × (flaw_number f ≡ n) × (flaw_place f ≡ place) × Judged three cs (Err f)
