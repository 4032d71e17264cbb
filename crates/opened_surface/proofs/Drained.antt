-- Keys mended near the members of a set, member by member.
use Rattle.std.proofs.Common.{◌≡◌, ℕ, true, false, ◌⊎◌, List, length, get_or, set, is_some, Some, None, Option, sym, refl, ap, ◌∙◌, subst, inl, inr, length-set, Bool}
use Rattle.std.proofs.lemmas.Bool.{both_ways, cases_eq}
use Rattle.mesh.specs.Model.{surface}
use Rattle.mesh.specs.declared.mesh.Mesh.{Mesh}
use Rattle.queue.specs.Meaning.{Held, NoKeys}
use Rattle.queue.specs.declared.keys.Key.{Key}
use Rattle.gauge.specs.declared.Gauge.{Ghosts}
use Rattle.opened_surface.specs.Marks.{Marks, Marked, NearMark}
use Rattle.opened_surface.specs.Mending.{Accounted, Fit, Touches}
use Rattle.opened_surface.proofs.Present.{taken_at, taken_else}
use Rattle.opened_surface.proofs.Walked.{Step, none, both, weaker, fit_now}

-- a set that has no keys has no members
pub no_members : (l : Marks) → NoKeys l → (x : ℕ) → Marked l x → ⊥
no_members l N x s = go (get_or l x None) refl s
  where
    go : (r : Option (Key ℕ)) → get_or l x None ≡ r → is_some r ≡ true → ⊥
    go None i t = both_ways false refl t
    go (Some k) i t = N x k i

module _ {G C E Z : Type 0} (m : Ghosts G C E Z) (mesh : Mesh) (gauge : G) (how : Bool) (first : Marks) (keys : List (Option (Key C))) where
  abbrev pub A : Type 0
  A = Accounted m mesh gauge × Fit m mesh gauge how keys

  -- h begins or ends at a member of the first set that is no longer one
  abbrev Past : Marks → ℕ → Type 0
  Past l h = (x : ℕ) × Marked first x × (Marked l x → ⊥) × Touches (surface mesh) x h

  pub record Draining (l : Marks) (now : List (Option (Key C))) : Type 0 where
    pub mended : Step m mesh gauge A (Past l) keys now
    pub fewer : (x : ℕ) → Marked l x → Marked first x
    pub long : length l ≡ length first

  pub begins : Draining first keys
  begins = record { mended = weaker m mesh gauge A (λ h (x, s, n, t). n s) (none m mesh gauge A keys); fewer = λ x s. s; long = refl }

  module _ (l : Marks) (now : List (Option (Key C))) (D : Draining l now) where
    pub fit : A → Fit m mesh gauge how now
    fit a = fit_now m mesh gauge keys now how (D.mended a) a.1

    module _ (x : ℕ) (k : Key ℕ) (held : Held l x k) (after : List (Option (Key C)))
        (M : Accounted m mesh gauge × Fit m mesh gauge how now → Step m mesh gauge (Unit {0}) (Touches (surface mesh) x) now after) (l' : Marks) (w : l' ≡ set l x None) where
      gone : (y : ℕ) → Marked l' y → (y ≡ x → ⊥)
      gone y s i = both_ways _ (ap is_some (ap (λ z. get_or z y None) w ∙ ap (λ j. get_or (set l x None) j None) i ∙ taken_at l x k held)) s

      stays : (y : ℕ) → (y ≡ x → ⊥) → get_or l' y None ≡ get_or l y None
      stays y n = ap (λ z. get_or z y None) w ∙ taken_else l x k held y n

      was : (h : ℕ) → Past l' h → Past l h ⊎ Touches (surface mesh) x h
      was h (y, s, n, t) = go (cases_eq y x)
        where
          go : (y ≡ x) ⊎ (y ≡ x → ⊥) → Past l h ⊎ Touches (surface mesh) x h
          go (inl i) = inr (subst (λ z. Touches (surface mesh) z h) i t)
          go (inr d) = inl (y, s, (λ p. n (ap is_some (stays y d) ∙ p)), t)

      pub drains : Draining l' after
      drains =
          record {
            mended = weaker m mesh gauge A was (both m mesh gauge A D.mended (λ a. M (a.0, fit a) tt));
            fewer = λ y s. D.fewer y (sym (ap is_some (stays y (gone y s))) ∙ s);
            long = ap length w ∙ length-set l x None ∙ D.long;
          }

    pub drained : NoKeys l → Step m mesh gauge A (NearMark (surface mesh) first) keys now
    drained N = weaker m mesh gauge A near D.mended
      where
        near : (h : ℕ) → NearMark (surface mesh) first h → Past l h
        near h (v, inl s) = ((surface mesh).corner h, s, no_members l N _, (v, inl refl))
        near h (v, inr s) = (_, s, no_members l N _, (v, inr refl))
