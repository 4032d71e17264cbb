-- The sides of a surface within bounds, told by tests of its half-edges.
use Rattle.std.proofs.Common.{◌≡◌, ℕ, ◌*◌, ◌/◌, ◌<◌, Bool, true, false, not, ◌||◌, arith}
use Rattle.std.proofs.lemmas.Bool.{both_ways}
use Rattle.surface.specs.Surface.{Surface, prev, Tri, Side, Within}
use Rattle.surface.specs.Euler.{any, leads}
use Rattle.surface.proofs.Counting.{any_at, any_from}
use Rattle.surface.proofs.Sides.{leads_tri, tri_leads}
use Rattle.examples.proofs.Every.{every, every_at, if_so}

-- (a, b) is a side of one of the first T triangles
unfoldable pub sided : Surface → ℕ → ℕ → ℕ → Bool
sided S T a b = any (leads S a b) (3 * T)

-- the live half-edges of the first T triangles pass the test f
unfoldable pub along : Surface → ℕ → (ℕ → Bool) → Bool
along S T f = every (λ h. not (S.alive (h / 3)) || f h) (3 * T)

module _ (S : Surface) (T V : ℕ) (W : Within S T V) where
  pub low : {h a b c : ℕ} → Tri S h a b c → h < 3 * T
  low {h} t = let p : h / 3 < T = W.triangles (h / 3) t.lives in omega arith

  pub along_at : (f : ℕ → Bool) → along S T f ≡ true → {h a b c : ℕ} → Tri S h a b c → f h ≡ true
  unfolding along
  along_at f p {h} t = if_so (S.alive (h / 3)) (f h) (every_at (λ h. not (S.alive (h / 3)) || f h) (3 * T) p h (low t)) t.lives

  pub side_told : (a b : ℕ) → Side S a b → sided S T a b ≡ true
  unfolding sided
  side_told a b (h, c, t) = any_from (leads S a b) h (3 * T) (low t) (tri_leads S t)

  pub no_side_told : (a b : ℕ) → sided S T a b ≡ false → Side S a b → ⊥
  no_side_told a b p e = both_ways (sided S T a b) p (side_told a b e)

pub told_side : (S : Surface) (T a b : ℕ) → sided S T a b ≡ true → Side S a b
unfolding sided
told_side S T a b p = let (h, l, q) = any_at (leads S a b) (3 * T) p in (h, S.corner (prev h), leads_tri S a b h q)
