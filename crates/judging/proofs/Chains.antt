-- Chaining one half-edge more, and walking a chain.
use Rattle.std.proofs.Common.{◌≡◌, ℕ, ◌+◌, ◌<◌, ◌≤◌, ◌≢◌, ◌⊎◌, List, length, get_or, set, Some, None, Option, sym, refl, ap, ◌∙◌, subst, inl, inr, arith, length-set}
use native.Mathlib.Decide.{ℕ_discrete}
use Rattle.std.proofs.lemmas.List.{get_or-set_same, get_or-set_other}
use Rattle.std.proofs.lemmas.Bool.{cases_lt}
use Rattle.judging.specs.Chains.{LastBelow, ChainedBelow, Chained, Waiting, Standing, linked}
use Rattle.judging.specs.declared.judge.outgoing.Outgoing.{Outgoing}

-- a half-edge that begins elsewhere changes nothing
skip : (cs : List ℕ) (v i : ℕ) (r : Option ℕ) → get_or cs i 0 ≢ v → LastBelow cs v i r → LastBelow cs v (i + 1) r
skip cs v i None n L = λ g l e. go g l e (ℕ_discrete g i)
  where
    go : (g : ℕ) → g < i + 1 → get_or cs g 0 ≡ v → Dec (g ≡ i) → ⊥
    go g l e (yes p) = n (subst (λ (x : ℕ). get_or cs x 0 ≡ v) p e)
    go g l e (no p) = L g (omega arith) e
skip cs v i (Some h) n (a, b, f) = (omega arith, b, λ g l m e. go g l m e (ℕ_discrete g i))
  where
    go : (g : ℕ) → h < g → g < i + 1 → get_or cs g 0 ≡ v → Dec (g ≡ i) → ⊥
    go g l m e (yes p) = n (subst (λ (x : ℕ). get_or cs x 0 ≡ v) p e)
    go g l m e (no p) = f g l (omega arith) e

pub chained_none : (cs : List ℕ) (last link : List (Option ℕ)) → length link ≡ length cs → ((v : ℕ) → v < length last → get_or last v None ≡ None) →
    ChainedBelow cs (length last) 0 last link
chained_none cs last link e none =
    record {
      vertices = refl;
      halfedges = e;
      ends = λ v l. subst (λ (r : Option ℕ). LastBelow cs v 0 r) (sym (none v l)) (λ g m. absurd (omega arith));
      links = λ h l. absurd (omega arith);
    }

pub chained_more : (cs : List ℕ) (n h : ℕ) (last link : List (Option ℕ)) → ChainedBelow cs n h last link → h < length cs → get_or cs h 0 < n →
    ChainedBelow cs n (h + 1) (set last (get_or cs h 0) (Some h)) (set link h (get_or last (get_or cs h 0) None))
chained_more cs n h last link I l k =
    record {
      vertices = length-set last (get_or cs h 0) (Some h) ∙ I.vertices;
      halfedges = length-set link h (get_or last (get_or cs h 0) None) ∙ I.halfedges;
      ends = λ v m. end v m (ℕ_discrete v (get_or cs h 0));
      links = λ g m. link' g m (ℕ_discrete g h);
    }
  where
    end : (v : ℕ) → v < n → Dec (v ≡ get_or cs h 0) → LastBelow cs v (h + 1) (get_or (set last (get_or cs h 0) (Some h)) v None)
    end v m (yes p) =
        let lt : v < length last = omega (arith, I.vertices) in
        let e : get_or (set last (get_or cs h 0) (Some h)) v None ≡ Some h = subst (λ (x : ℕ). get_or (set last x (Some h)) v None ≡ Some h) p (get_or-set_same last v (Some h) None lt) in
        subst (λ (r : Option ℕ). LastBelow cs v (h + 1) r) (sym e) (omega arith, sym p, λ g a b c. omega arith)
    end v m (no p) =
        subst (λ (r : Option ℕ). LastBelow cs v (h + 1) r) (sym (get_or-set_other last (get_or cs h 0) v (Some h) None p)) (skip cs v h (get_or last v None) (λ e. p (sym e)) (I.ends v m))

    link' : (g : ℕ) → g < h + 1 → Dec (g ≡ h) → LastBelow cs (get_or cs g 0) g (get_or (set link h (get_or last (get_or cs h 0) None)) g None)
    link' g m (yes p) =
        let r : Option ℕ = get_or last (get_or cs h 0) None in
        let lt : h < length link = omega (arith, I.halfedges) in
        subst (λ (x : ℕ). LastBelow cs (get_or cs x 0) x (get_or (set link h r) x None)) (sym p)
        (subst (λ (q : Option ℕ). LastBelow cs (get_or cs h 0) h q) (sym (get_or-set_same link h r None lt)) (I.ends (get_or cs h 0) k))
    link' g m (no p) =
        subst (λ (r : Option ℕ). LastBelow cs (get_or cs g 0) g r) (sym (get_or-set_other link h g (get_or last (get_or cs h 0) None) None p)) (I.links g (omega arith))

-- walking a chain from its end: each half-edge of it waits until it is passed
module _ (cs : List ℕ) (v : ℕ) where
  wait_last : (i g : ℕ) (r : Option ℕ) → LastBelow cs v i r → g < i → get_or cs g 0 ≡ v → Waiting r g
  wait_last i g None L l e = L g l e
  wait_last i g (Some h) (a, b, f) l e = go (cases_lt h g)
    where
      go : (h < g) ⊎ (g ≤ h) → g ≤ h
      go (inl p) = absurd (f g p l e)
      go (inr p) = p

  stand_last : (i : ℕ) (r : Option ℕ) → i ≤ length cs → LastBelow cs v i r → Standing cs v r
  stand_last i None l L = tt
  stand_last i (Some h) l (a, b, f) = (omega arith, b)

module _ {cs : List ℕ} {n : ℕ} {last link : List (Option ℕ)} (C : Chained cs n last link) where
  pub wait_start : (v g : ℕ) → v < n → g < length cs → get_or cs g 0 ≡ v → Waiting (get_or last v None) g
  wait_start v g k l e = wait_last cs v (length cs) g (get_or last v None) (C.ends v k) l e

  pub stand_start : (v : ℕ) → v < n → Standing cs v (get_or last v None)
  stand_start v k = stand_last cs v (length cs) (get_or last v None) (omega arith) (C.ends v k)

  module _ (v h : ℕ) (l : h < length cs) (e : get_or cs h 0 ≡ v) where
    here : LastBelow cs v h (get_or link h None)
    here = subst (λ (x : ℕ). LastBelow cs x h (get_or link h None)) e (C.links h l)

    -- what waits at h and is not h waits at the next one
    pub wait_step : (g : ℕ) → get_or cs g 0 ≡ v → g < h → Waiting (get_or link h None) g
    wait_step g f m = wait_last cs v h g (get_or link h None) here m f

    pub stand_step : Standing cs v (get_or link h None)
    stand_step = stand_last cs v h (get_or link h None) (omega arith) here

-- what a walk says of a step
abbrev pub Steps : Outgoing → Option ℕ → Outgoing → Type 0
Steps s r t = (r ≡ s.at) × (t.at ≡ linked s.link.now s.at) × (t.link.now ≡ s.link.now)

-- a step of the walk that answers x stood at x, and leads to the half-edge that x is linked to
pub stepped : {link : List (Option ℕ)} {x : ℕ} (s t : Outgoing) → s.link.now ≡ link → Steps s (Some x) t → (s.at ≡ Some x) × (t.at ≡ get_or link x None) × (t.link.now ≡ link)
stepped {link} {x} s t e (r, a, l) = (sym r, a ∙ subst (λ (o : Option ℕ). linked s.link.now o ≡ get_or s.link.now x None) r refl ∙ ap (λ (m : List (Option ℕ)). get_or m x None) e, l ∙ e)

-- a walk that begins as the answer of `outgoing` does
pub begun : {it out : Outgoing} {link : List (Option ℕ)} {r : Option ℕ} → it ≡ out → out.link.now ≡ link → out.at ≡ r → (it.link.now ≡ link) × (it.at ≡ r)
begun e f g = (ap (λ (o : Outgoing). o.link.now) e ∙ f, ap (λ (o : Outgoing). o.at) e ∙ g)
