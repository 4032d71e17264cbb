-- A test that a collapse folds no triangle over.
use Rattle.std.proofs.Common.{◌≡◌, ℕ, ◌+◌, ◌*◌, Bool, true, false, not, ◌&&◌, ◌||◌, T as Is, eqb, ◌⊎◌, pos, refl, inl, inr}
use lib.Signed.{lt_z, lt_z_yes}
use Rattle.std.proofs.lemmas.Bool.{cases_Bool, and_from, eqb-true, eq-eqb, or_cases, or_left, or_right, not_from_false, both_ways}
use Rattle.surface.specs.Surface.{Surface, Within}
use Rattle.surface.specs.Geometry.{Vector, dot, normal_at}
use Rattle.surface.specs.Collapse.{collapse, Holds}
use Rattle.surface.specs.Permitted.{Upright}
use Rattle.gauge.specs.Near.{has}
use Rattle.examples.proofs.Every.{every, every_at, if_so}

-- triangle t is moved
unfoldable pub moves : Surface → ℕ → ℕ → ℕ → Bool
moves S u w t = S.alive t && (has S t u && not (has S t w))

-- each moved triangle of the first T keeps to its side
unfoldable pub keeps : Surface → ℕ → (ℕ → Vector) → ℕ → ℕ → Bool
keeps S T P u w = every (λ t. not (moves S u w t) || lt_z (pos 0) (dot (normal_at S P t) (normal_at (collapse S u w) P t))) T

pub holds_has : (S : Surface) (t v : ℕ) → Holds S t v → has S t v ≡ true
unfolding has
holds_has S t v (inl i) = or_left _ _ (eq-eqb _ _ i)
holds_has S t v (inr (inl i)) = or_right (eqb (S.corner (3 * t)) v) _ (or_left _ _ (eq-eqb _ _ i))
holds_has S t v (inr (inr i)) = or_right (eqb (S.corner (3 * t)) v) _ (or_right (eqb (S.corner (3 * t + 1)) v) _ (eq-eqb _ _ i))

pub has_holds : (S : Surface) (t v : ℕ) → has S t v ≡ true → Holds S t v
unfolding has
has_holds S t v p = go (or_cases _ _ p)
  where
    go : (eqb (S.corner (3 * t)) v ≡ true) ⊎ ((eqb (S.corner (3 * t + 1)) v || eqb (S.corner (3 * t + 2)) v) ≡ true) → Holds S t v
    go (inl i) = inl (eqb-true _ _ i)
    go (inr i) = inr (elim (or_cases _ _ i) [ inl j ↦ inl (eqb-true _ _ j) | inr j ↦ inr (eqb-true _ _ j) ])

is_so : (x : Bool) → x ≡ true → Is x
is_so true p = tt
is_so false p = absurd (both_ways false refl p)

pub upright_told : (S : Surface) (T V : ℕ) → Within S T V → (P : ℕ → Vector) (u w : ℕ) → keeps S T P u w ≡ true → Upright S P u w
unfolding keeps moves
upright_told S T V W P u w p t m =
    lt_z_yes (is_so _ (if_so (moves S u w t) _ (every_at (λ t. not (moves S u w t) || lt_z (pos 0) (dot (normal_at S P t) (normal_at (collapse S u w) P t))) T p t (W.triangles t m.lives))
    (and_from _ _ m.lives (and_from _ _ (holds_has S t u m.held) (not_from_false _ (free (cases_Bool (has S t w))))))))
  where
    free : (has S t w ≡ true) ⊎ (has S t w ≡ false) → has S t w ≡ false
    free (inl i) = absurd (m.free (has_holds S t w i))
    free (inr i) = i
