-- Marking the ends of the half-edges that begin at one vertex.
use Rattle.std.proofs.Common.{◌≡◌, ℕ, suc, ◌%◌, ◌<◌, ◌≤◌, ◌≢◌, ◌⊎◌, List, length, get_or, set, Some, None, Option, sym, ◌∙◌, subst, inl, inr, arith}
use native.Mathlib.Decide.{ℕ_discrete}
use Rattle.std.proofs.lemmas.List.{get_or-set_same, get_or-set_other, get_or_past}
use Rattle.std.proofs.lemmas.Bool.{cases_order, cases_lt}
use Rattle.surface.specs.Surface.{next}
use Rattle.surface.proofs.Tris.{next_cases}
use Rattle.gathering.specs.Limits.{Numbered}
use Rattle.judging.specs.Chains.{Chained, Waiting, Standing}
use Rattle.judging.specs.Sides.{Marks, MarkedSide, MarkedAt, Marking}
use Rattle.judging.proofs.Chains.{wait_start, wait_step, stand_start, stand_step}

pub next_inside : (n h : ℕ) → n % 3 ≡ 0 → h < n → next h < n
next_inside n h t l = omega (arith, next_cases h)

pub marks_none : (cs : List ℕ) (marks : List (Option ℕ)) → ((v : ℕ) → v < length marks → get_or marks v None ≡ None) → Marks cs 0 marks
marks_none cs marks none = record { real = λ x g e. absurd (go x g e (cases_lt x (length marks))) }
  where
    go : (x g : ℕ) → get_or marks x None ≡ Some g → (x < length marks) ⊎ (length marks ≤ x) → ⊥
    go x g e (inl l) = let p = none x l in let z : ◌≡◌ {A = ℕ} 0 1 = cc in omega arith
    go x g e (inr l) = let p = get_or_past marks x None l in let z : ◌≡◌ {A = ℕ} 0 1 = cc in omega arith

-- where the walk stands, the next half-edge of the triangle is inside
module _ (cs : List ℕ) (u : ℕ) {at : Option ℕ} {h : ℕ} (s : Standing cs u at) (e : at ≡ Some h) where
  pub standing_at : Standing cs u (Some h)
  standing_at = subst (Standing cs u) e s

  pub inside_next : (r : ℕ) → length cs % 3 ≡ 0 → r ≡ next h → r < length cs
  inside_next r t p = let q = next_inside (length cs) h t standing_at.0 in omega arith

module _ {cs : List ℕ} {n : ℕ} {last link : List (Option ℕ)} (C : Chained cs n last link) (u : ℕ) (marks : List (Option ℕ)) where
  pub marking_start : u < n → Marks cs u marks → Marking cs u (get_or last u None) marks
  marking_start l M =
      record {
        stands = stand_start C u l;
        marks_real = record { real = λ x g e. let (a, b, f) = M.real x g e in (a, omega arith, f) };
        passed = λ h k e. inl (wait_start C u h l k e);
      }

  module _ (N : Numbered cs n) (room : length marks ≡ n) (threes : length cs % 3 ≡ 0) (h : ℕ) (I : Marking cs u (Some h) marks) where
    end : ℕ
    end = get_or cs (next h) 0

    inside : end < length marks
    unfolding end
    inside = let p = N (next h) (next_inside (length cs) h threes I.stands.0) in omega arith

    same : get_or (set marks end (Some h)) end None ≡ Some h
    same = get_or-set_same marks end (Some h) None inside

    other : (x : ℕ) → x ≢ end → get_or (set marks end (Some h)) x None ≡ get_or marks x None
    other x d = get_or-set_other marks end x (Some h) None d

    real : (x g : ℕ) → get_or (set marks end (Some h)) x None ≡ Some g → Dec (x ≡ end) → (g < length cs) × (get_or cs g 0 < suc u) × (get_or cs (next g) 0 ≡ x)
    unfolding end
    real x g e (yes p) =
        let q : h ≡ g = cc (same, p) in
        let s = I.stands in
        subst (λ (k : ℕ). (k < length cs) × (get_or cs k 0 < suc u) × (get_or cs (next k) 0 ≡ x)) q (s.0, omega (arith, s.1), sym p)
    real x g e (no p) = I.marks_real.real x g (sym (other x p) ∙ e)

    at : (k : ℕ) → MarkedSide cs u marks k → h < k → Dec (get_or cs (next k) 0 ≡ end) → MarkedSide cs u (set marks end (Some h)) k
    at k (g, p, q, r) l (yes e) = (h, subst (λ (x : ℕ). get_or (set marks end (Some h)) x None ≡ Some h) (sym e) same, I.stands.1, omega arith)
    at k (g, p, q, r) l (no e) = (g, other (get_or cs (next k) 0) e ∙ p, q, r)

    passed : (k : ℕ) → k < length cs → get_or cs k 0 ≡ u → (k ≡ h) ⊎ ((k < h) ⊎ (h < k)) → Waiting (get_or link h None) k ⊎ MarkedSide cs u (set marks end (Some h)) k
    unfolding end
    passed k l e (inl p) = inr (subst (λ (x : ℕ). MarkedSide cs u (set marks end (Some h)) x) (sym p) (h, same, I.stands.1, omega arith))
    passed k l e (inr (inl p)) = inl (wait_step C u h I.stands.0 I.stands.1 k e p)
    passed k l e (inr (inr p)) = elim (I.passed k l e) [ inl w ↦ absurd (omega arith) | inr m ↦ inr (at k m p (ℕ_discrete (get_or cs (next k) 0) end)) ]

    pub marking_more : Marking cs u (get_or link h None) (set marks (get_or cs (next h) 0) (Some h))
    unfolding end
    marking_more =
        record {
          stands = stand_step C u h I.stands.0 I.stands.1;
          marks_real = record { real = λ x g e. real x g e (ℕ_discrete x end) };
          passed = λ k l e. passed k l e (cases_order k h);
        }

pub marking_end : (cs : List ℕ) (u : ℕ) (marks : List (Option ℕ)) → Marking cs u None marks → MarkedAt cs u marks
marking_end cs u marks M = record { marks_real = M.marks_real; all = λ h l e. elim (M.passed h l e) [ inl w ↦ absurd w | inr m ↦ m ] }
