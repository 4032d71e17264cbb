-- Tests of the surface of a sensible book as it stands.
use Rattle.std.proofs.Common.{◌≡◌, ℕ, ◌/◌, Bool, true, ◌&&◌, subst}
use Rattle.std.proofs.lemmas.Bool.{and_parts}
use Rattle.surface.specs.Surface.{Surface, next, prev, Side, Within}
use Rattle.surface.specs.Closed.{Closed}
use Rattle.surface.specs.Collapse.{collapse}
use Rattle.surface.specs.Euler.{any}
use Rattle.surface.proofs.Counting.{any_at}
use Rattle.surface.proofs.Tris.{tri_at}
use Rattle.ledger.specs.Book.{Book, Sensible, surface_now, PermittedNow}
use Rattle.ledger.proofs.Preserves.{standing, within_at}
use Rattle.examples.proofs.Sided.{along, along_at}
use Rattle.examples.proofs.Linking.{shares, shared, threes, both_three}
use Rattle.examples.proofs.Permitting.{across, met, met_tri, allows, allowed}

-- the two ends of h have a common neighbour beside the third corners at their side
unfoldable pub clashes : Surface → ℕ → ℕ → ℕ → Bool
clashes S T V h = met S T h && any (shares S T (S.corner h) (S.corner (next h)) (S.corner (prev h)) (S.corner (prev (across S T h)))) V

-- they have three neighbours each: one another and the third corners
unfoldable pub tight : Surface → ℕ → ℕ → ℕ → Bool
tight S T V h =
    met S T h
    && (threes S T V (S.corner h) (S.corner (next h)) (S.corner (prev h)) (S.corner (prev (across S T h)))
    && threes S T V (S.corner (next h)) (S.corner h) (S.corner (prev h)) (S.corner (prev (across S T h))))

module _ (b : Book) (K : Sensible b) where
  abbrev S : Surface
  S = surface_now b

  abbrev T : ℕ
  T = b.triangles

  abbrev V : ℕ
  V = b.vertices

  C : Closed S
  C = (standing b K).closed

  W : Within S T V
  W = within_at b K b.position

  pub permitted_at : (h : ℕ) → S.alive (h / 3) ≡ true → allows S T V b.points h ≡ true → PermittedNow b (S.corner h) (S.corner (next h))
  permitted_at h l p = allowed S C T V W h l b.points p

  -- from what holds of the ends of half-edges to what holds of sides
  pub of_sides : (Q : ℕ → ℕ → Type 0) (f : ℕ → Bool) → along S T f ≡ true → ((h : ℕ) → S.alive (h / 3) ≡ true → f h ≡ true → Q (S.corner h) (S.corner (next h))) → (u w : ℕ) → Side S u w → Q u w
  of_sides Q f p q u w (h, c, t) = subst (λ (y : ℕ). Q u y) t.to (subst (λ (x : ℕ). Q x (S.corner (next h))) t.from (q h t.lives (along_at S T V W f p t)))

  pub clashing : (h : ℕ) → S.alive (h / 3) ≡ true → clashes S T V h ≡ true → Closed (collapse S (S.corner h) (S.corner (next h))) → ⊥
  unfolding clashes
  clashing h l p =
      let (m, q) = and_parts _ _ p in
      let (c, k, r) = any_at _ V q in
      shared S C T V W (tri_at S h l) (met_tri S T h m) c r

  pub tightly : (h : ℕ) → S.alive (h / 3) ≡ true → tight S T V h ≡ true → Closed (collapse S (S.corner h) (S.corner (next h))) → ⊥
  unfolding tight
  tightly h l p =
      let (m, q) = and_parts _ _ p in
      let (i, j) = and_parts _ _ q in
      both_three S C T V W (tri_at S h l) (met_tri S T h m) i j
