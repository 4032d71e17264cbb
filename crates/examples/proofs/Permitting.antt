-- A test that the side of a half-edge may be collapsed.
use Rattle.std.proofs.Common.{◌≡◌, ℕ, zero, suc, ◌*◌, ◌/◌, Bool, true, cond, ◌&&◌}
use Rattle.std.proofs.lemmas.Bool.{and_parts}
use Rattle.surface.specs.Surface.{Surface, next, prev, Tri, Within}
use Rattle.surface.specs.Closed.{Closed}
use Rattle.surface.specs.Collapse.{collapse}
use Rattle.surface.specs.Euler.{leads}
use Rattle.surface.specs.Geometry.{Vector}
use Rattle.surface.specs.Permitted.{Permitted}
use Rattle.surface.proofs.Sides.{leads_tri}
use Rattle.surface.proofs.Tris.{tri_at}
use Rattle.examples.proofs.Linking.{links, closes}
use Rattle.examples.proofs.Turning.{keeps, upright_told}

-- the last number below n that passes the test f
unfoldable pub last : (ℕ → Bool) → ℕ → ℕ
last f zero = 0
last f (suc n) = cond (f n) n (last f n)

-- the half-edge across from h
unfoldable pub across : Surface → ℕ → ℕ → ℕ
across S T h = last (leads S (S.corner (next h)) (S.corner h)) (3 * T)

-- it is one
unfoldable pub met : Surface → ℕ → ℕ → Bool
met S T h = leads S (S.corner (next h)) (S.corner h) (across S T h)

-- the outcome is closed
unfoldable pub seamless : Surface → ℕ → ℕ → ℕ → Bool
seamless S T V h = met S T h && links S T V (S.corner h) (S.corner (next h)) (S.corner (prev h)) (S.corner (prev (across S T h)))

unfoldable pub allows : Surface → ℕ → ℕ → (ℕ → Vector) → ℕ → Bool
allows S T V P h = seamless S T V h && keeps S T P (S.corner h) (S.corner (next h))

pub met_tri : (S : Surface) (T h : ℕ) → met S T h ≡ true → Tri S (across S T h) (S.corner (next h)) (S.corner h) (S.corner (prev (across S T h)))
unfolding met
met_tri S T h p = leads_tri S _ _ _ p

module _ (S : Surface) (C : Closed S) (T V : ℕ) (W : Within S T V) (h : ℕ) (l : S.alive (h / 3) ≡ true) where
  pub seamless_told : seamless S T V h ≡ true → Closed (collapse S (S.corner h) (S.corner (next h)))
  unfolding seamless
  seamless_told p = let (m, q) = and_parts _ _ p in closes S C T V W (tri_at S h l) (met_tri S T h m) q

  pub allowed : (P : ℕ → Vector) → allows S T V P h ≡ true → Permitted S P (S.corner h) (S.corner (next h))
  unfolding allows
  allowed P p =
      let (q, k) = and_parts _ _ p in
      record {
        side = (h, S.corner (prev h), tri_at S h l);
        closed = seamless_told q;
        upright = upright_told S T V W P (S.corner h) (S.corner (next h)) k;
      }
