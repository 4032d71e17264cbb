-- A test that a surface within bounds is one piece.
use Rattle.std.proofs.Common.{◌≡◌, ℕ, zero, suc, ◌*◌, ◌/◌, ◌<◌, Bool, true, not, ◌&&◌, ◌||◌, eqb, ◌⊎◌, [], ◌∷◌, refl, subst, inl, inr, arith}
use Rattle.std.proofs.lemmas.Bool.{eqb-true, or_cases, and_parts}
use Rattle.surface.specs.Surface.{Surface, next, prev, Tri, Within}
use Rattle.surface.specs.Euler.{any}
use Rattle.surface.specs.Pieces.{Chain, end, along, Pieces}
use Rattle.surface.proofs.Counting.{any_at}
use Rattle.examples.proofs.Every.{every, every_at, if_so}

-- a chain of n sides or fewer leads from v to r
unfoldable pub reaches : Surface → ℕ → ℕ → ℕ → ℕ → Bool
reaches S T r zero v = eqb v r
reaches S T r (suc n) v = eqb v r || any (λ h. (S.alive (h / 3) && eqb (S.corner h) v) && reaches S T r n (S.corner (next h))) (3 * T)

module _ (S : Surface) (T r : ℕ) where
  chain : (n v : ℕ) → reaches S T r n v ≡ true → Chain S v r
  unfolding reaches
  chain zero v p = subst (λ (x : ℕ). Chain S v x) (eqb-true v r p) end
  chain (suc n) v p = go (or_cases _ _ p) (λ x q. chain n x q)
    where
      go : (eqb v r ≡ true) ⊎ (any (λ h. (S.alive (h / 3) && eqb (S.corner h) v) && reaches S T r n (S.corner (next h))) (3 * T) ≡ true) → ((x : ℕ) → reaches S T r n x ≡ true → Chain S x r) → Chain S v r
      go (inl i) f = subst (λ (x : ℕ). Chain S v x) (eqb-true v r i) end
      go (inr i) f =
          let (h, l, q) = any_at _ (3 * T) i in
          let (a, c) = and_parts _ _ q in
          let (l, e) = and_parts _ _ a in
          let t : Tri S h v (S.corner (next h)) (S.corner (prev h)) = record { lives = l; from = eqb-true _ _ e; to = refl; third = refl } in
          along t (f (S.corner (next h)) c)

  pub one_piece : (n V : ℕ) → Within S T V → S.present r ≡ true → every (λ v. not (S.present v) || reaches S T r n v) V ≡ true → Pieces S 1
  one_piece n V W l ok =
      record {
        roots = r ∷ [];
        many = refl;
        live = first l;
        apart = λ i j p q c. omega arith;
        reached = λ v p. (0, omega arith, chain n v (if_so (S.present v) _ (every_at (λ v. not (S.present v) || reaches S T r n v) V ok v (W.vertices v p)) p));
      }
    where
      first : S.present r ≡ true → (i : ℕ) → i < 1 → S.present (lib.ListN.get_or (r ∷ []) i 0) ≡ true
      first p zero k = p
      first p (suc i) k = absurd (omega arith)
