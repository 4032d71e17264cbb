-- What stands in the answer after the last part of a line.
use Rattle.std.proofs.Common.{◌≡◌, ℕ, ◌+◌, ◌*◌, true, false, cond, List, [], ◌∷◌, ◌++◌, slice_index, is_ok, IfOk, Ok, Err, Result, sym, refl, ap, ◌∙◌, append_assoc, append-nil, add-one}
use Rattle.surface.specs.Surface.{Surface, next, prev}
use Rattle.surface.proofs.Tris.{second_is, third_is}
use Rattle.session.specs.Lines.{Line, triangle, text, texts, triangle_line, triangle_lines}
use Rattle.session.specs.Still.{gathered_lines}

pub last_part : {T E : Type 0} (r : Result T E) (was end more whole : List ℕ) → end ≡ cond (is_ok r) (was ++ more) was → was ++ more ≡ whole → IfOk r (λ _. end ≡ whole)
last_part (Ok x) was end more whole e w = e ∙ w
last_part (Err x) was end more whole e w = tt

pub three_parts : (start a b c second third : List ℕ) → second ≡ start ++ a → third ≡ second ++ b → third ++ c ≡ start ++ (a ++ (b ++ c))
three_parts start a b c second third e f = rw (f, e) (simp append_assoc)

pub texts_append : (a b : List Line) → texts (a ++ b) ≡ texts a ++ texts b
texts_append [] b = refl
texts_append (l ∷ a) b = ap (λ (t : List ℕ). text l ++ t) (texts_append a b) ∙ sym (append_assoc (text l) (texts a) (texts b))

-- more lines after those that stand
pub more_lines : (start was end : List ℕ) (ls more : List Line) → was ≡ start ++ texts ls → end ≡ was ++ texts more → end ≡ start ++ texts (ls ++ more)
more_lines start was end ls more e f =
    f ∙ ap (λ (t : List ℕ). t ++ texts more) e ∙ append_assoc start (texts ls) (texts more) ∙ ap (λ (t : List ℕ). start ++ t) (sym (texts_append ls more))

pub one_line : (l : Line) → text l ≡ texts (l ∷ [])
one_line l = sym (append-nil (text l))

-- the line of a triangle, from the corners as its first half-edge tells them
pub same_line : (S : Surface) (t a b c : ℕ) → a ≡ S.corner (3 * t) → b ≡ S.corner (next (3 * t)) → c ≡ S.corner (prev (3 * t)) → text (triangle t a b c) ≡ text (triangle_line S t)
same_line S t a b c p q r = rw (p, q ∙ ap S.corner (second_is t), r ∙ ap S.corner (third_is t)) refl

-- the line of triangle t, if it is live, after those of the triangles before it
module _ (S : Surface) (start was : List ℕ) (t : ℕ) (e : was ≡ start ++ texts (triangle_lines S t)) where
  pub one_triangle : (end : List ℕ) → S.alive t ≡ true → end ≡ was ++ text (triangle_line S t) → end ≡ start ++ texts (triangle_lines S (t + 1))
  one_triangle end live f =
      more_lines start was end (triangle_lines S t) (triangle_line S t ∷ []) e (f ∙ ap (λ (b : List ℕ). was ++ b) (one_line (triangle_line S t)))
      ∙ rw (add-one t, live) refl

  pub no_triangle : S.alive t ≡ false → was ≡ start ++ texts (triangle_lines S (t + 1))
  no_triangle dead = e ∙ rw (add-one t, dead, append-nil) refl

-- the line of the gathered triangle t after those of the triangles before it
pub more_gathered : (start was end cs : List ℕ) (t : ℕ) → was ≡ start ++ texts (gathered_lines cs t) → end ≡ was ++ text (triangle t (slice_index cs (3 * t)) (slice_index cs (3 * t + 1)) (slice_index cs (3 * t + 2))) → end ≡ start ++ texts (gathered_lines cs (t + 1))
more_gathered start was end cs t e f =
    let l = triangle t (slice_index cs (3 * t)) (slice_index cs (3 * t + 1)) (slice_index cs (3 * t + 2)) in
    more_lines start was end (gathered_lines cs t) (l ∷ []) e (f ∙ ap (λ (b : List ℕ). was ++ b) (one_line l))
    ∙ ap (λ (n : ℕ). start ++ texts (gathered_lines cs n)) (sym (add-one t))
