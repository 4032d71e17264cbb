-- Mending step by step.
use Rattle.std.proofs.Common.{◌≡◌, ℕ, zero, suc, ◌<◌, ◌≤◌, ◌⊎◌, List, [], ◌∷◌, length, get_or, set, None, Option, sym, refl, ap, ◌∙◌, subst, inl, inr, arith, length-set, get_or-set_other, get_or-set_same}
use Rattle.std.proofs.lemmas.List.{set_past}
use Rattle.std.proofs.lemmas.Bool.{cases_eq, cases_lt}
use Rattle.surface.specs.Surface.{Surface}
use Rattle.surface.specs.Geometry.{Vector}
use Rattle.queue.specs.declared.keys.Key.{Key}
use Rattle.gauge.specs.declared.Gauge.{Ghosts}
use Rattle.opened_surface.specs.Keys.{KeyIs, Mended}

module _ {G C E Z : Type 0} (m : Ghosts G C E Z) (S : Surface) (P : ℕ → Vector) (z : Z) (acc : List E) where
  abbrev Keys : Type 0
  Keys = List (Option (Key C))

  abbrev pub Right : Keys → ℕ → Type 0
  Right keys h = KeyIs m S P z acc h (get_or keys h None)

  abbrev pub Step : (ℕ → Type 0) → Keys → Keys → Type 0
  Step Q before after = Mended m S P z acc Q before after

  pub nothing_yet : (keys : Keys) → Step (λ _. ⊥) keys keys
  nothing_yet keys = record { long = refl; either = λ h. inr refl; right = λ h l q. absurd q }

  -- what is right stays right
  pub stays : {Q : ℕ → Type 0} {before after : Keys} → Step Q before after → (h : ℕ) → Right before h → Right after h
  stays M h r = elim (M.either h) [ inl k ↦ k | inr e ↦ subst (KeyIs m S P z acc h) (sym e) r ]

  pub weaker : {Q R : ℕ → Type 0} {before after : Keys} → ((h : ℕ) → R h → Q h) → Step Q before after → Step R before after
  weaker f M = record { long = M.long; either = M.either; right = λ h l r. M.right h l (f h r) }

  pub both : {Q R : ℕ → Type 0} {one two three : Keys} → Step Q one two → Step R two three → Step (λ h. Q h ⊎ R h) one three
  both {Q} {R} {one} {two} {three} M N =
      record {
        long = N.long ∙ M.long;
        either = λ h. elim (N.either h) [
          | inl k ↦ inl k
          | inr e ↦ elim (M.either h) [ inl k ↦ inl (subst (KeyIs m S P z acc h) (sym e) k) | inr d ↦ inr (e ∙ d) ]
        ];
        right = λ h l. elim [ inl q ↦ stays N h (M.right h (let n = N.long in omega arith) q) | inr r ↦ N.right h l r ];
      }

  -- one key is written
  pub written : (h : ℕ) (k : Option (Key C)) (before after : Keys) → after ≡ set before h k → KeyIs m S P z acc h k → Step (λ g. g ≡ h) before after
  written h k before after w r =
      record {
        long = ap length w ∙ length-set before h k;
        either = λ g. either g (cases_eq g h) (cases_lt g (length before));
        right = λ g l i. rw (i, w, get_or-set_same before h k None (let n : length after ≡ length before = ap length w ∙ length-set before h k in omega arith)) r;
      }
    where
      either : (g : ℕ) → (g ≡ h) ⊎ (g ≡ h → ⊥) → (g < length before) ⊎ (length before ≤ g) → Right after g ⊎ (get_or after g None ≡ get_or before g None)
      either g (inl i) (inl l) = inl (rw (i, w, get_or-set_same before h k None (omega arith)) r)
      either g (inl i) (inr l) = inr (ap (λ x. get_or x g None) (w ∙ set_past before h k (omega arith)))
      either g (inr n) l = inr (ap (λ x. get_or x g None) w ∙ get_or-set_other before h g k None n)

-- what is written again is the same
pub set_back : {A : Type 0} (xs : List A) (i : ℕ) (d : A) → set xs i (get_or xs i d) ≡ xs
set_back [] i d = refl
set_back (x ∷ xs) zero d = refl
set_back (x ∷ xs) (suc i) d = ap (λ ys. x ∷ ys) (set_back xs i d)
