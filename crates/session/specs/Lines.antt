-- The lines of an answer, and the bytes of each.
use Rattle.std.specs.Prelude.{ℕ, zero, suc, ◌+◌, ◌*◌, cond, List, [], ◌∷◌, ◌++◌, codes, decimal}
use Rattle.std.specs.Fmt.{signed_decimal}
use Rattle.surface.specs.Surface.{Surface}
use Rattle.judging.specs.declared.verdict.Counts.{Counts}

pub data Line : Type 0 where
  named : List ℕ → Line  -- the bytes of a name that was taken
  opened : Counts → Line
  collapsed : (u w amount divisor : ℕ) → Line
  stepped : (u w amount divisor : ℕ) → Line
  split : (position : ℕ) → Line
  redone : (position : ℕ) → Line
  went : (position : ℕ) → Line
  triangle : (t a b c : ℕ) → Line  -- number and corners
  ended : Counts → Line
  refused : (number offset : ℕ) → Line

-- a space and a number
abbrev pub after : ℕ → List ℕ
after n = codes " " ++ decimal n

-- the end of a line
abbrev pub newline : List ℕ
newline = 10 ∷ []

-- vertices, triangles, Euler number and pieces, to the end of the line
abbrev pub four : Counts → List ℕ
four n = after n.vertices ++ (after n.triangles ++ ((codes " " ++ signed_decimal n.euler) ++ (after n.pieces ++ newline)))

-- four numbers, to the end of the line
abbrev pub numbers : ℕ → ℕ → ℕ → ℕ → List ℕ
numbers a b c d = after a ++ (after b ++ (after c ++ (after d ++ newline)))

abbrev pub text : Line → List ℕ
text (named bytes) = codes "name " ++ (bytes ++ newline)
text (opened n) = codes "open" ++ four n
text (collapsed u w amount divisor) = codes "collapse" ++ numbers u w amount divisor
text (stepped u w amount divisor) = codes "step" ++ numbers u w amount divisor
text (split position) = codes "split" ++ (after position ++ newline)
text (redone position) = codes "redo" ++ (after position ++ newline)
text (went position) = codes "go" ++ (after position ++ newline)
text (triangle t a b c) = codes "tri" ++ numbers t a b c
text (ended n) = codes "end" ++ four n
text (refused number offset) = codes "refused" ++ (after number ++ (after offset ++ newline))

abbrev pub texts : List Line → List ℕ
texts [] = []
texts (l ∷ ls) = text l ++ texts ls

-- the line of triangle t
abbrev pub triangle_line : Surface → ℕ → Line
triangle_line S t = triangle t (S.corner (3 * t)) (S.corner (3 * t + 1)) (S.corner (3 * t + 2))

-- the lines of the live ones of the first n triangles, by rising number
abbrev pub triangle_lines : Surface → ℕ → List Line
triangle_lines S zero = []
triangle_lines S (suc n) = triangle_lines S n ++ cond (S.alive n) (triangle_line S n ∷ []) []
