-- From the bare fact that a surface is closed, or a collapse permitted, to all that it says: each part is a proposition, or is found by a search.
use Rattle.std.proofs.Common.{◌≡◌, ℕ, zero, suc, ◌/◌, true, ◌&&◌, eqb, ℤ, ◌<ℤ◌, sym, refl}
use mathlib.Core.Bool.{Bool-set}
use mathlib.Core.Logic.{∥∥₁_elim, ∥∥₁_map}
use mathlib.Core.HLevel.{⊥_prop}
use native.Mathlib.Nat.{ℕ_set}
use lib.Dec.{T_prop}
use Rattle.std.proofs.lemmas.Bool.{and_parts, and_from, eqb-true, eq-eqb}
use Rattle.surface.specs.Surface.{Surface, next, prev, Tri, Side}
use Rattle.surface.specs.Closed.{Single, Matched, Closed}
use Rattle.surface.specs.Euler.{leads}
use Rattle.surface.specs.Geometry.{Vector}
use Rattle.surface.specs.Permitted.{Permitted}
use Rattle.surface.proofs.Tris.{spin2, moved, same_third, renumber, tri_at}
use Rattle.surface.proofs.Sides.{leads_tri, tri_leads}
use Rattle.surface.proofs.Sealed.{Round, here, turn, Sealed}
use Rattle.surface.proofs.FromRings.{sealed}
use Rattle.surface.proofs.ToRings.{closed}
use Rattle.surface.proofs.Least.{least_witness}

pub side_found : (S : Surface) (a b : ℕ) → ∥ Side S a b ∥₁ → Side S a b
side_found S a b s = let (h, p) = least_witness (leads S a b) (∥∥₁_map s (λ (h, c, t). (h, tri_leads S t))) in (h, S.corner (prev h), leads_tri S a b h p)

-- a live triangle
tri_found : (S : Surface) → ∥ ((h : ℕ) × (a : ℕ) × (b : ℕ) × (c : ℕ) × Tri S h a b c) ∥₁ → (h : ℕ) × (a : ℕ) × (b : ℕ) × (c : ℕ) × Tri S h a b c
tri_found S s =
    let (h, p) = least_witness (λ h. S.alive (h / 3)) (∥∥₁_map s (λ (h, a, b, c, t). (h, t.lives))) in
    (h, S.corner h, S.corner (next h), S.corner (prev h), tri_at S h p)

-- a side that begins at v
side_from_found : (S : Surface) (v : ℕ) → ∥ ((a : ℕ) × Side S v a) ∥₁ → (a : ℕ) × Side S v a
side_from_found S v s =
    let (h, p) = least_witness (λ h. S.alive (h / 3) && eqb (S.corner h) v) (∥∥₁_map s (λ (a, e). (e.0, and_from _ _ e.2.lives (eq-eqb _ _ e.2.from)))) in
    let (l, i) = and_parts (S.alive (h / 3)) (eqb (S.corner h) v) p in
    (S.corner (next h), (h, S.corner (prev h), moved (eqb-true _ _ i) refl refl (tri_at S h l)))

-- a half-edge of a live triangle that begins at v
abbrev At : Surface → ℕ → Type 0
At S v = (h : ℕ) × (a : ℕ) × (b : ℕ) × Tri S h v a b

-- one turn round v, and n turns
abbrev step : (S : Surface) → Matched S → (v : ℕ) → At S v → At S v
step S m v (h, a, b, t) = let (g, c, s) = m (prev h) b v a (spin2 t) in (g, b, c, s)

steps : (S : Surface) → Matched S → (v : ℕ) → ℕ → At S v → At S v
steps S m v zero x = x
steps S m v (suc n) x = steps S m v n (step S m v x)

module _ (S : Surface) (m : Matched S) (v : ℕ) where
  -- n turns are a way round, and a way round is a number of turns
  steps_round : (n : ℕ) (x : At S v) → Round S v x.0 (steps S m v n x).0
  unfolding steps
  steps_round zero x = here
  steps_round (suc n) x = turn x.3 (step S m v x).3 (steps_round n (step S m v x))

  round_steps : Single S → {h k : ℕ} → Round S v h k → (x : At S v) → x.0 ≡ h → (n : ℕ) × ((steps S m v n x).0 ≡ k)
  unfolding steps
  round_steps one here x i = (zero, i)
  round_steps one (turn {g = g} {b = b} {c = c} s t r) x i =
      let y : At S v = step S m v x in
      let e : x.2 ≡ b = same_third (renumber i x.3) s in
      let (n, j) = round_steps one r y (one _ _ _ _ _ _ y.3 (moved refl (sym e) refl t)) in
      (suc n, j)

  round_found : Single S → {h g a b : ℕ} → Tri S h v a b → ∥ Round S v h g ∥₁ → Round S v h g
  round_found one {h} {g} {a} {b} t r =
      let x : At S v = (h, a, b, t) in
      let (n, p) = least_witness (λ n. eqb (steps S m v n x).0 g) (∥∥₁_map r (λ r. let (n, i) = round_steps one r x refl in (n, eq-eqb _ _ i))) in
      rw (← eqb-true _ _ p) (steps_round n x)

pub closed_found : (S : Surface) → ∥ Closed S ∥₁ → Closed S
closed_found S s = closed all (tri_found S (∥∥₁_map s (λ C. C.some)))
  where
    one : Single S
    one h g a b c d t r = ∥∥₁_elim s (ℕ_set h g) (λ C. C.single h g a b c d t r)

    pair : Matched S
    pair h a b c t = side_found S b a (∥∥₁_map s (λ C. C.matched h a b c t))

    all : Sealed S
    all =
        record {
          proper = λ {h} {a} {b} {c} t i. ∥∥₁_elim s ⊥_prop (λ C. C.proper h a b c t i);
          single = λ {h} {g} {a} {b} {c} {d} t r. one h g a b c d t r;
          matched = λ {h} {a} {b} {c} t. pair h a b c t;
          apart = λ {h} {g} {a} {b} {c} {d} t r i. ∥∥₁_elim s ⊥_prop (λ C. (sealed C).apart t r i);
          ring = λ {h} {g} {v} {a} {b} {c} {d} t r. round_found S pair v one t (∥∥₁_map s (λ C. (sealed C).ring t r));
          used = λ {v} p. side_from_found S v (∥∥₁_map s (λ C. (sealed C).used p));
          known = λ {h} {a} {b} {c} t. ∥∥₁_elim s (Bool-set (S.present a) true) (λ C. C.known h a b c t);
        }

below_prop : (a b : ℤ) → IsProp (a <ℤ b)
below_prop a b x y = λ i. record { lt = T_prop _ x.lt y.lt i }

pub permitted_found : (S : Surface) → Closed S → (P : ℕ → Vector) (u w : ℕ) → ∥ Permitted S P u w ∥₁ → Permitted S P u w
permitted_found S _ P u w s =
    record {
      side = side_found S u w (∥∥₁_map s (λ M. M.side));
      closed = closed_found _ (∥∥₁_map s (λ M. M.closed));
      upright = λ t m. ∥∥₁_elim s (below_prop _ _) (λ M. M.upright t m);
    }
