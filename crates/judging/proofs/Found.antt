-- Pairing the half-edges of one vertex after the other.
use Rattle.std.proofs.Common.{◌≡◌, ℕ, ◌+◌, ◌%◌, ◌<◌, ◌⊎◌, List, length, get_or, set, Some, None, Option, sym, ap, ◌∙◌, subst, inl, inr, arith, length-set}
use native.Mathlib.Decide.{ℕ_discrete}
use Rattle.std.proofs.lemmas.List.{get_or-set_same, get_or-set_other}
use Rattle.std.proofs.lemmas.Bool.{cases_order}
use Rattle.surface.specs.Surface.{next, prev}
use Rattle.surface.proofs.Tris.{next_third}
use Rattle.gathering.specs.Limits.{Numbered}
use Rattle.judging.specs.Chains.{Chained, Waiting, Standing}
use Rattle.judging.specs.Sides.{LowestSide, Passed, BeginsBelow, Found, Paired}
use Rattle.judging.proofs.Chains.{wait_start, wait_step}
use Rattle.judging.proofs.Marks.{next_inside}

found_fewer : {cs : List ℕ} {D E : ℕ → Type 0} {first twin : List (Option ℕ)} → Found cs D first twin → ((h : ℕ) → h < length cs → E h → D h) → Found cs E first twin
found_fewer F f =
    record {
      long_first = F.long_first;
      long_twin = F.long_twin;
      firsts = λ h l e. F.firsts h l (f h l e);
      twins = λ h l e. F.twins h l (f h l e);
    }

pub found_none : (cs : List ℕ) (first twin : List (Option ℕ)) → length first ≡ length cs → length twin ≡ length cs → Found cs (BeginsBelow cs 0) first twin
found_none cs first twin e f = record { long_first = e; long_twin = f; firsts = λ h l p. absurd (omega arith); twins = λ h l p. absurd (omega arith) }

-- the half-edges below the number of vertices are all
pub found_all : {cs : List ℕ} {n : ℕ} {first twin : List (Option ℕ)} → Numbered cs n → length cs % 3 ≡ 0 → Found cs (BeginsBelow cs n) first twin → Paired cs first twin
found_all {cs} {n} {first} {twin} N t F =
    record {
      long_first = F.long_first;
      long_twin = F.long_twin;
      firsts = λ h l. F.firsts h l (N h l);
      twins = λ h l.
          let i = next_inside (length cs) h t l in
          subst (λ (x : ℕ). LowestSide cs (get_or cs (next h) 0) (get_or cs x 0) (get_or twin x None)) (next_third h) (F.twins (next h) i (N (next h) i));
    }

-- one entry more, at the slot s k of k, s giving each half-edge a slot of its own
module _ (cs : List ℕ) (s : ℕ → ℕ) (own : (h k : ℕ) → s h ≡ s k → h ≡ k) (P : ℕ → Option ℕ → Type 0) (D : ℕ → Type 0) (table : List (Option ℕ)) where
  entry_more : (k : ℕ) (r : Option ℕ) → s k < length table → P k r → ((h : ℕ) → h < length cs → D h → P h (get_or table (s h) None)) →
      (h : ℕ) → h < length cs → (h ≡ k) ⊎ D h → P h (get_or (set table (s k) r) (s h) None)
  entry_more k r l p F h i d = go (ℕ_discrete h k) d
    where
      go : Dec (h ≡ k) → (h ≡ k) ⊎ D h → P h (get_or (set table (s k) r) (s h) None)
      go (yes e) _ = subst (λ (x : ℕ). P x (get_or (set table (s k) r) (s x) None)) (sym e) (subst (P k) (sym (get_or-set_same table (s k) r None l)) p)
      go (no e) (inl f) = absurd (e f)
      go (no e) (inr f) = subst (P h) (sym (get_or-set_other table (s k) (s h) r None (λ q. e (own h k q)))) (F h i f)

prev_own : (h k : ℕ) → prev h ≡ prev k → h ≡ k
prev_own h k e = sym (next_third h) ∙ ap next e ∙ next_third k

module _ {cs : List ℕ} {n : ℕ} {last link : List (Option ℕ)} (C : Chained cs n last link) (u : ℕ) {first twin : List (Option ℕ)} where
  pub found_start : u < n → Found cs (BeginsBelow cs u) first twin → Found cs (Passed cs u (get_or last u None)) first twin
  found_start k F = found_fewer F go
    where
      go : (h : ℕ) → h < length cs → Passed cs u (get_or last u None) h → BeginsBelow cs u h
      go h l (inl p) = p
      go h l (inr (e, w)) = absurd (w (wait_start C u h k l e))

  pub found_end : Found cs (Passed cs u None) first twin → Found cs (BeginsBelow cs (u + 1)) first twin
  found_end F = found_fewer F (λ h l p. go h p (cases_order (get_or cs h 0) u))
    where
      go : (h : ℕ) → get_or cs h 0 < u + 1 → (get_or cs h 0 ≡ u) ⊎ ((get_or cs h 0 < u) ⊎ (u < get_or cs h 0)) → Passed cs u None h
      go h p (inl q) = inr (q, λ w. w)
      go h p (inr (inl q)) = inl q
      go h p (inr (inr q)) = absurd (omega arith)

  pub found_more : (k : ℕ) (r q : Option ℕ) → length cs % 3 ≡ 0 → Standing cs u (Some k) → Found cs (Passed cs u (Some k)) first twin →
      LowestSide cs u (get_or cs (next k) 0) r → LowestSide cs u (get_or cs (prev k) 0) q →
      Found cs (Passed cs u (get_or link k None)) (set first k r) (set twin (prev k) q)
  found_more k r q t (l, e) F a b =
      record {
        long_first = length-set first k r ∙ F.long_first;
        long_twin = length-set twin (prev k) q ∙ F.long_twin;
        firsts = λ h i d.
            entry_more cs (λ x. x) (λ x y p. p) (λ (x : ℕ) (o : Option ℕ). LowestSide cs (get_or cs x 0) (get_or cs (next x) 0) o) (Passed cs u (Some k)) first
            k r (omega (arith, F.long_first)) (subst (λ (x : ℕ). LowestSide cs x (get_or cs (next k) 0) r) (sym e) a) F.firsts h i (still h i d);
        twins = λ h i d.
            entry_more cs prev prev_own (λ (x : ℕ) (o : Option ℕ). LowestSide cs (get_or cs x 0) (get_or cs (prev x) 0) o) (Passed cs u (Some k)) twin
            k q (let z = next_inside (length cs) (next k) t (next_inside (length cs) k t l) in omega (arith, F.long_twin)) (subst (λ (x : ℕ). LowestSide cs x (get_or cs (prev k) 0) q) (sym e) b) F.twins h i (still h i d);
      }
    where
      go : (h : ℕ) → get_or cs h 0 ≡ u → (Waiting (get_or link k None) h → ⊥) → (h ≡ k) ⊎ ((h < k) ⊎ (k < h)) → (h ≡ k) ⊎ Passed cs u (Some k) h
      go h f w (inl p) = inl p
      go h f w (inr (inl p)) = absurd (w (wait_step C u k l e h f p))
      go h f w (inr (inr p)) = inr (inr (f, λ z. omega arith))

      still : (h : ℕ) → h < length cs → Passed cs u (get_or link k None) h → (h ≡ k) ⊎ Passed cs u (Some k) h
      still h i (inl p) = inr (inl p)
      still h i (inr (f, w)) = go h f w (cases_order h k)
