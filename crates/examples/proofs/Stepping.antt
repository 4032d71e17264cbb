-- A test for the collapse that a step by planes takes.
use Rattle.std.proofs.Common.{◌≡◌, ℕ, ◌/◌, ◌≤◌, Bool, true, not, ◌&&◌, ◌||◌, eqb, ltb, leb, ◌⊎◌, List, get_or, sym, subst, inl, inr}
use Rattle.std.proofs.lemmas.Bool.{and_parts, or_cases, leb-true, ltb-true, eqb-true, le-leb}
use Rattle.surface.specs.Surface.{Surface, next}
use Rattle.surface.specs.Geometry.{Vector}
use Rattle.ledger.specs.Book.{Book, Sensible, surface_now, PermittedNow, account_now, cost_now}
use Rattle.ledger.specs.Choice.{NotBehind, First}
use Rattle.ledger.specs.Ledger.{noted, Entry, steps}
use Rattle.ledger.specs.declared.call.Call.TheVariants.{Step}
use Rattle.ledger.specs.declared.call.Answer.TheVariants.{Stepped}
use Rattle.planes.specs.declared.quadric.Quadric.{Quadric}
use Rattle.planes.specs.Quadrics.{zero}
use Rattle.planes.specs.Accounts.{price}
use Rattle.planes.specs.Meaning.{by_planes, whole_order}
use Rattle.examples.proofs.Every.{if_so}
use Rattle.examples.proofs.Sided.{along}
use Rattle.examples.proofs.Standing.{clashes, clashing, of_sides}

-- (u, w) stands before (x, y), or is the same pair
unfoldable pub ahead : ℕ → ℕ → ℕ → ℕ → Bool
ahead u w x y = ltb u x || (eqb u x && leb w y)

not_behind : (u w x y : ℕ) → ahead u w x y ≡ true → NotBehind u w x y
unfolding ahead
not_behind u w x y p = go (or_cases _ _ p)
  where
    go : (ltb u x ≡ true) ⊎ ((eqb u x && leb w y) ≡ true) → NotBehind u w x y
    go (inl i) = inl (ltb-true u x i)
    go (inr i) = let (j, k) = and_parts _ _ i in inr (eqb-true u x j, leb-true w y k)

-- what the collapse of x to y costs by this account
abbrev pub asked : List Quadric → (ℕ → Vector) → ℕ → ℕ → ℕ
asked L P x y = price (get_or L x zero) (get_or L y zero) (P y)

-- a step that takes (u, w) at k passes over the side of h rightly: that may not be collapsed, or costs k or more and, where it
-- costs k, does not stand before (u, w)
unfoldable pub passes : Surface → ℕ → ℕ → (ℕ → Vector) → List Quadric → ℕ → ℕ → ℕ → ℕ → Bool
passes S T V P L u w k h =
    let c : ℕ = asked L P (S.corner h) (S.corner (next h)) in clashes S T V h || (leb k c && (not (leb c k) || ahead u w (S.corner h) (S.corner (next h))))

-- all of them
unfoldable pub foremost : Surface → ℕ → ℕ → (ℕ → Vector) → List Quadric → ℕ → ℕ → ℕ → Bool
foremost S T V P L u w k = along S T (passes S T V P L u w k)

module _ (b : Book) (K : Sensible b) (L : List Quadric) (a : account_now by_planes tt b ≡ L) (u w k : ℕ) (p : PermittedNow b u w)
    (i : asked L b.points u w ≡ k) (ok : foremost (surface_now b) b.triangles b.vertices b.points L u w k ≡ true) where
  abbrev S : Surface
  S = surface_now b

  abbrev cost : ℕ → ℕ → ℕ
  cost x y = asked L b.points x y

  record Beaten (x y : ℕ) : Type 0 where
    dear : k ≤ cost x y
    tie : cost x y ≤ k → NotBehind u w x y

  beaten : (x y : ℕ) → PermittedNow b x y → Beaten x y
  unfolding foremost passes
  beaten x y q = of_sides b K (λ x y. PermittedNow b x y → Beaten x y) (passes S b.triangles b.vertices b.points L u w k) ok at x y q.side q
    where
      at : (h : ℕ) → S.alive (h / 3) ≡ true → passes S b.triangles b.vertices b.points L u w k h ≡ true → PermittedNow b (S.corner h) (S.corner (next h)) → Beaten (S.corner h) (S.corner (next h))
      at h l r q = go (or_cases _ _ r)
        where
          c : ℕ
          c = cost (S.corner h) (S.corner (next h))

          go : (clashes S b.triangles b.vertices h ≡ true) ⊎ ((leb k c && (not (leb c k) || ahead u w (S.corner h) (S.corner (next h)))) ≡ true) → Beaten (S.corner h) (S.corner (next h))
          go (inl e) = absurd (clashing b K h l e q.closed)
          go (inr e) = let (d, t) = and_parts _ _ e in record { dear = leb-true k c d; tie = λ m. not_behind u w _ _ (if_so (leb c k) _ t (le-leb c k m)) }

  pub cost_is : cost_now by_planes tt b u w ≡ k
  cost_is = subst (λ (M : List Quadric). asked M b.points u w ≡ k) (sym a) i

  pub first : First by_planes whole_order tt b u w
  first =
      record {
        permitted = p;
        cheapest = λ x y q. subst (λ (M : List Quadric). asked M b.points u w ≤ asked M b.points x y) (sym a) (subst (λ (c : ℕ). c ≤ cost x y) (sym i) (beaten x y q).dear);
        foremost = λ x y q m. (beaten x y q).tie (subst (λ (c : ℕ). cost x y ≤ c) i (subst (λ (M : List Quadric). asked M b.points x y ≤ asked M b.points u w) a m));
      }

  pub stepped : Entry by_planes whole_order tt b Step (Stepped u w k) (noted b u w)
  stepped = subst (λ (c : ℕ). Entry by_planes whole_order tt b Step (Stepped u w c) (noted b u w)) cost_is (steps first)
