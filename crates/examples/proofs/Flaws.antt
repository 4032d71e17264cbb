-- The flawed gatherings.
use Rattle.std.proofs.Common.{◌≡◌, ℕ, Bool, true, not, ◌&&◌, ◌||◌, eqb, List, sym, refl, ◌∙◌, arith, lit<}
use Rattle.std.proofs.lemmas.Bool.{eqb-true, eq-eqb, and_from}
use Rattle.surface.specs.Surface.{Surface, next, Within}
use Rattle.surface.specs.Closed.{Single, Matched}
use Rattle.gathering.specs.Model.{surface_of}
use Rattle.mesh.proofs.Along.{whole_within}
use Rattle.judging.specs.Flaws.{Lowest}
use Rattle.judging.specs.declared.verdict.Flaw.TheVariants.{SideTwice, SideUnmet, NoRing}
use Rattle.examples.specs.Flawed.{three, alone, sheet, double, Flawed}
use Rattle.examples.proofs.Every.{if_so}
use Rattle.examples.proofs.Sided.{sided, along, along_at, told_side, no_side_told}
use Rattle.examples.proofs.Ringless.{ringless}
use Rattle.examples.proofs.Computing.{tests}

-- no side of the first T triangles stands twice
unfoldable singles : Surface → ℕ → Bool
singles S T = along S T (λ h. along S T (λ g. not (eqb (S.corner h) (S.corner g) && eqb (S.corner (next h)) (S.corner (next g))) || eqb h g))

-- each is met
unfoldable meets : Surface → ℕ → Bool
meets S T = along S T (λ h. sided S T (S.corner (next h)) (S.corner h))

module _ (S : Surface) (T V : ℕ) (W : Within S T V) where
  single : singles S T ≡ true → Single S
  unfolding singles
  single p h g a b c d t s =
      eqb-true h g (if_so _ _ (along_at S T V W _ (along_at S T V W _ p t) s) (and_from _ _ (eq-eqb _ _ (t.from ∙ sym s.from)) (eq-eqb _ _ (t.to ∙ sym s.to))))

  matched : meets S T ≡ true → Matched S
  unfolding meets
  matched p h a b c t = rw (← t.from, ← t.to) (told_side S T _ _ (along_at S T V W _ p t))

-- at 0 nothing is lower
lowest : (P : ℕ → Type 0) → P 0 → Lowest P 0
lowest P p = record { here = p; below = λ m l. absurd (omega arith) }

abbrev of : List ℕ → Surface
of cs = surface_of three cs

pub no_ring : Flawed sheet 9 0
unfolding tests singles meets
no_ring = (NoRing 0, refl, refl, (lit< tt, single (of sheet) 2 3 within refl, matched (of sheet) 2 3 within refl, lowest _ (refl, ringless (of sheet) 2 3 within 0 (lit< tt))))
  where
    within : Within (of sheet) 2 3
    within = whole_within sheet 3

pub unmet : Flawed alone 8 0
unfolding tests singles
unmet = (SideUnmet 0, refl, refl, (lit< tt, single (of alone) 1 3 within refl, lowest _ (0, 0, 1, 2, refl, record { lives = refl; from = refl; to = refl; third = refl }, no_side_told (of alone) 1 3 within 1 0 refl)))
  where
    within : Within (of alone) 1 3
    within = whole_within alone 3

pub side_twice : Flawed double 7 0
unfolding tests
side_twice = (
  SideTwice 0,
  refl,
  refl,
  (lit< tt, lowest _ (0, 3, 0, 1, 2, 2, refl, (λ e. omega arith), record { lives = refl; from = refl; to = refl; third = refl }, record { lives = refl; from = refl; to = refl; third = refl })),
)
