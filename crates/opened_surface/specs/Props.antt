-- A fact that ties gauge and queue to a mesh has at most one proof.
use Rattle.std.specs.Prelude.{◌≡◌, ℕ, List, Some, None, vec_len, Option, slice_index_or}
use Rattle.std.specs.Coded.{Coded-set, coded_ℕ, coded_bool, ×_prop, Π_prop}
use mathlib.Core.HLevel.{⊥_prop}
use Rattle.surface.specs.Surface.{Surface}
use Rattle.surface.specs.Geometry.{Vector}
use Rattle.order.specs.declared.Ordered.{Ghosts as Order}
use Rattle.mesh.specs.Model.{surface, points}
use Rattle.queue.specs.Meaning.{keys_of}
use Rattle.queue.specs.declared.keys.Key.{Key}
use Rattle.gauge.specs.declared.Gauge.{Ghosts}
use Rattle.opened_surface.specs.Keys.{KeyFor, KeyIs}
use Rattle.opened_surface.specs.Marks.{Marks}
use Rattle.opened_surface.specs.Stale.{KeyedBut, repriced, reopened}
use Rattle.opened_surface.specs.Tied.{Tied}
use Rattle.opened_surface.specs.declared.thinning.Thinning.{Thinning}

module _ {G C E Z : Type 0} (costs : (x y : C) → IsProp (x ≡ y)) (m : Ghosts G C E Z) where
  key_for : (S : Surface) (P : ℕ → Vector) (z : Z) (account : List E) (u w : ℕ) (k : Key C) → IsProp (KeyFor m S P z account u w k)
  key_for S P z account u w k x y =
      λ i. record { from = Coded-set coded_ℕ _ _ x.from y.from i; to = Coded-set coded_ℕ _ _ x.to y.to i; price = costs _ _ x.price y.price i }

  key_is : (S : Surface) (P : ℕ → Vector) (z : Z) (account : List E) (h : ℕ) (k : Option (Key C)) → IsProp (KeyIs m S P z account h k)
  key_is S P z account h None = Π_prop (λ _. Π_prop (λ _. ⊥_prop))
  key_is S P z account h (Some k) = ×_prop (Coded-set coded_bool _ _) (key_for S P z account _ _ k)

  keyed_but : (S : Surface) (P : ℕ → Vector) (z : Z) (account : List E) (strong weak : Marks) (T : ℕ) (keys : List (Option (Key C))) → IsProp (KeyedBut m S P z account strong weak T keys)
  keyed_but S P z account strong weak T keys f g = λ i h l a b. key_is S P z account h (slice_index_or keys h None) (f h l a b) (g h l a b) i

  pub tied_prop : (entries : (x y : List E) → IsProp (x ≡ y)) (o : Order C) (x : Thinning G C E Z o) → IsProp (Tied m o x)
  tied_prop entries o x K L =
      λ i. record {
        account = entries _ _ K.account L.account i;
        long = Coded-set coded_ℕ _ _ K.long L.long i;
        keyed = keyed_but (surface x.mesh) (points x.mesh) (m.setting x.gauge) (m.account x.gauge) (repriced x.stale) (reopened x.stale) (vec_len x.mesh.edges.triangles) (keys_of x.queue) K.keyed L.keyed i;
        sized = ×_prop (Coded-set coded_ℕ _ _) (Coded-set coded_ℕ _ _) K.sized L.sized i;
      }
