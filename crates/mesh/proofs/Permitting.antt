-- The answer to the question whether a collapse is permitted, by what the tests say of the half-edge.
use Rattle.std.proofs.Common.{◌≡◌, ℕ, Bool, true, false, List, Ok, subst}
use Rattle.surface.specs.Surface.{Surface, next, Tri}
use Rattle.surface.specs.Closed.{Closed}
use Rattle.surface.specs.Collapse.{collapse}
use Rattle.surface.specs.Permitted.{Upright}
use Rattle.geometry.specs.declared.Position.{Position}
use Rattle.gathering.specs.Model.{point_of}
use Rattle.mesh.specs.Reads.{Exactly}
use Rattle.mesh.specs.Refusals.{Refused, Permit}
use Rattle.mesh.specs.declared.mesh.permits.CollapseRefusal.TheVariants.{NotClosed, Folds}
use Rattle.mesh.proofs.LinkTest.{exactly_yes, exactly_no}

module _ {S : Surface} {e u w c : ℕ} (t : Tri S e u w c) where
  -- what is said of where e begins and ends, said of u and w
  at_ends : (F : ℕ → ℕ → Type 0) → F (S.corner e) (S.corner (next e)) → F u w
  at_ends F x = subst (λ n. F u n) t.to (subst (λ n. F n (S.corner (next e))) t.from x)

  module _ (r : Bool) (closes : Exactly r (Closed (collapse S (S.corner e) (S.corner (next e))))) where
    told : Exactly r (Closed (collapse S u w))
    told = at_ends (λ n m. Exactly r (Closed (collapse S n m))) closes

    pub refused_open : (qs : List Position) → r ≡ false → Refused S (point_of qs) u w NotClosed
    refused_open qs i = ((e, c, t), exactly_no r i told)

    module _ (i : r ≡ true) (ps qs : List Position) (same : ps ≡ qs) (s : Bool) (upright : Exactly s (Upright S (point_of ps) (S.corner e) (S.corner (next e)))) where
      stands : Exactly s (Upright S (point_of qs) u w)
      stands = subst (λ l. Exactly s (Upright S (point_of l) u w)) same (at_ends (λ n m. Exactly s (Upright S (point_of ps) n m)) upright)

      pub refused_folds : s ≡ false → Refused S (point_of qs) u w Folds
      refused_folds j = ((e, c, t), exactly_yes r i told, exactly_no s j stands)

      pub permit : s ≡ true → Permit S (point_of qs) u w (Ok e)
      permit j = (record { side = (e, c, t); closed = exactly_yes r i told; upright = exactly_yes s j stands }, (c, t))
