-- What the paired half-edges say of the rules on sides.
use Rattle.std.proofs.Common.{◌≡◌, ℕ, ◌+◌, ◌/◌, ◌%◌, ◌<◌, ◌≤◌, ◌⊎◌, true, false, List, length, get_or, is_none, Some, None, Option, MatchOption, sym, refl, ap, ◌∙◌, subst, inl, inr, arith}
use native.Mathlib.Decide.{ℕ_discrete}
use Rattle.std.proofs.lemmas.Bool.{true≢false, false≢true}
use Rattle.std.specs.List.{AllWithin, HoldsAt}
use Rattle.std.specs.Option.{option_map}
use Rattle.surface.specs.Surface.{next, prev, Tri, Side}
use Rattle.surface.specs.Closed.{Single}
use Rattle.surface.specs.Read.{whole}
use Rattle.judging.specs.Flaws.{Doubled, FirstTwice, FirstUnmet}
use Rattle.judging.specs.Sides.{Leads, LowestSide, Paired}
use Rattle.judging.proofs.Whole.{whole_tri, tri_below}

-- of the first i entries: where one names a half-edge below its own, the lowest such is the one found
pub record Lowering (cs : List ℕ) (first : List (Option ℕ)) (i lowest : ℕ) : Type 0 where
  pub found : (lowest ≡ length cs) ⊎ ((h : ℕ) × (h < length cs) × (get_or first h None ≡ Some lowest) × (lowest < h))
  pub least : (h g : ℕ) → h < i → get_or first h None ≡ Some g → g < h → lowest ≤ g

pub lowering_none : (cs : List ℕ) (first : List (Option ℕ)) → Lowering cs first 0 (length cs)
lowering_none cs first = record { found = inl refl; least = λ h g l. absurd (omega arith) }

pub lowering_more : (cs : List ℕ) (first : List (Option ℕ)) (i lowest r : ℕ) → Lowering cs first i lowest → i < length cs → r ≤ lowest →
    (r ≡ lowest) ⊎ ((get_or first i None ≡ Some r) × (r < i)) → ((g : ℕ) → get_or first i None ≡ Some g → g < i → r ≤ g) → Lowering cs first (i + 1) r
lowering_more cs first i lowest r L l f o s = record { found = found o; least = λ h g m e k. least h g m e k (ℕ_discrete h i) }
  where
    found : (r ≡ lowest) ⊎ ((get_or first i None ≡ Some r) × (r < i)) → (r ≡ length cs) ⊎ ((h : ℕ) × (h < length cs) × (get_or first h None ≡ Some r) × (r < h))
    found (inl p) = subst (λ (x : ℕ). (x ≡ length cs) ⊎ ((h : ℕ) × (h < length cs) × (get_or first h None ≡ Some x) × (x < h))) (sym p) L.found
    found (inr (p, q)) = inr (i, l, p, q)

    least : (h g : ℕ) → h < i + 1 → get_or first h None ≡ Some g → g < h → Dec (h ≡ i) → r ≤ g
    least h g m e k (yes p) = s g (subst (λ (x : ℕ). get_or first x None ≡ Some g) p e) (omega arith)
    least h g m e k (no p) = let q = L.least h g (omega arith) e k in omega arith

-- the half-edges of a surface's sides
module _ (cs : List ℕ) (n : ℕ) (threes : length cs % 3 ≡ 0) where
  leads_of : {h a b c : ℕ} → Tri (whole cs n) h a b c → Leads cs a b h
  leads_of t = let (i, f, e, _) = tri_below cs n threes t in record { inside = i; from = f; to = e }

  tri_of : {a b h : ℕ} → Leads cs a b h → (c : ℕ) × Tri (whole cs n) h a b c
  tri_of {a} {b} {h} L =
      let t = whole_tri cs n h threes L.inside in
      (get_or cs (prev h) 0, record { lives = t.lives; from = t.from ∙ L.from; to = t.to ∙ L.to; third = t.third })

lowest_parts : (cs : List ℕ) (a b h : ℕ) (r : Option ℕ) → LowestSide cs a b r → Leads cs a b h → (g : ℕ) × (r ≡ Some g) × Leads cs a b g × (g ≤ h)
lowest_parts cs a b h None L k = absurd (L h k)
lowest_parts cs a b h (Some g) (L, f) k = (g, refl, L, f h k)

lowest_same : (cs : List ℕ) (a b g k : ℕ) (r q : Option ℕ) → LowestSide cs a b r → LowestSide cs a b q → r ≡ Some g → q ≡ Some k → g ≡ k
lowest_same cs a b g k None q L M p e = absurd (let z : ◌≡◌ {A = ℕ} 0 1 = cc in omega arith)
lowest_same cs a b g k (Some x) None L M p e = absurd (let z : ◌≡◌ {A = ℕ} 0 1 = cc in omega arith)
lowest_same cs a b g k (Some x) (Some y) (L, f) (M, s) p e = let i = f y M in let j = s x L in let u : x ≡ g = cc in let v : y ≡ k = cc in omega arith

module _ {cs : List ℕ} {first twin : List (Option ℕ)} (P : Paired cs first twin) (threes : length cs % 3 ≡ 0) (n : ℕ) where
  firsts_of : {a b h : ℕ} → Leads cs a b h → LowestSide cs a b (get_or first h None)
  firsts_of {a} {b} {h} L =
      subst (λ (x : ℕ). LowestSide cs x b (get_or first h None)) L.from (subst (λ (y : ℕ). LowestSide cs (get_or cs h 0) y (get_or first h None)) L.to (P.firsts h L.inside))

  -- two half-edges of one pair name the same lowest one
  named : {a b h g : ℕ} → Leads cs a b h → Leads cs a b g → (k : ℕ) × (get_or first h None ≡ Some k) × (get_or first g None ≡ Some k) × Leads cs a b k × (k ≤ h) × (k ≤ g)
  named {a} {b} {h} {g} L M =
      let (k, e, X, i) = lowest_parts cs a b h (get_or first h None) (firsts_of L) L in
      let (j, f, Y, l) = lowest_parts cs a b g (get_or first g None) (firsts_of M) M in
      let s : k ≡ j = lowest_same cs a b k j (get_or first h None) (get_or first g None) (firsts_of L) (firsts_of M) e f in
      (k, e, f ∙ ap Some (sym s), X, i, omega arith)

  module _ (lowest : ℕ) (L : Lowering cs first (length cs) lowest) where
    single : length cs ≤ lowest → Single (whole cs n)
    single far h g a b c d t s = go (named (leads_of cs n threes t) (leads_of cs n threes s)) (ℕ_discrete h g)
      where
        go : (k : ℕ) × (get_or first h None ≡ Some k) × (get_or first g None ≡ Some k) × Leads cs a b k × (k ≤ h) × (k ≤ g) → Dec (h ≡ g) → h ≡ g
        go _ (yes p) = p
        go (k, e, f, X, i, j) (no p) = absurd (late (ℕ_discrete k h))
          where
            late : Dec (k ≡ h) → ⊥
            late (no q) = let z = L.least h k (leads_of cs n threes t).inside e (omega arith) in omega (arith, X.inside)
            late (yes q) = let z = L.least g k (leads_of cs n threes s).inside f (omega arith) in omega (arith, X.inside)

    -- a half-edge that is doubled is no lower than the lowest named
    doubled_late : (t : ℕ) → Doubled (whole cs n) t → lowest / 3 ≤ t
    doubled_late t (h, g, a, b, c, d, e, p, s, r) = go (named (leads_of cs n threes s) (leads_of cs n threes r))
      where
        go : (k : ℕ) × (get_or first h None ≡ Some k) × (get_or first g None ≡ Some k) × Leads cs a b k × (k ≤ h) × (k ≤ g) → lowest / 3 ≤ t
        go (k, x, y, X, i, j) = late (ℕ_discrete k h)
          where
            late : Dec (k ≡ h) → lowest / 3 ≤ t
            late (no q) = let z = L.least h k (leads_of cs n threes s).inside x (omega arith) in omega arith
            late (yes q) = let z = L.least g k (leads_of cs n threes r).inside y (omega arith) in omega arith

    doubled : lowest < length cs → Doubled (whole cs n) (lowest / 3)
    doubled near = go L.found
      where
        both : (h : ℕ) → h < length cs → get_or first h None ≡ Some lowest → lowest < h → Doubled (whole cs n) (lowest / 3)
        both h l e m =
            let H : Leads cs (get_or cs h 0) (get_or cs (next h) 0) h = record { inside = l; from = refl; to = refl } in
            let (k, x, y, X, i, j) = named H H in
            let s : k ≡ lowest = cc in
            let G : Leads cs (get_or cs h 0) (get_or cs (next h) 0) lowest = subst (λ (z : ℕ). Leads cs (get_or cs h 0) (get_or cs (next h) 0) z) s X in
            let (c, t) = tri_of cs n threes G in
            let (d, r) = tri_of cs n threes H in
            (lowest, h, get_or cs h 0, get_or cs (next h) 0, c, d, refl, (λ q. omega arith), t, r)

        go : (lowest ≡ length cs) ⊎ ((h : ℕ) × (h < length cs) × (get_or first h None ≡ Some lowest) × (lowest < h)) → Doubled (whole cs n) (lowest / 3)
        go (inl e) = absurd (omega arith)
        go (inr (h, l, e, m)) = both h l e m

    pub twice_none : length cs ≤ lowest → FirstTwice (whole cs n) None
    twice_none far = single far

    pub twice_some : lowest < length cs → FirstTwice (whole cs n) (Some (lowest / 3))
    twice_some near = record { here = doubled near; below = λ m l D. let p = doubled_late m D in omega arith }

  -- the first i half-edges are met
  met : (h : ℕ) (r : Option ℕ) → get_or twin h None ≡ r → h < length cs → LowestSide cs (get_or cs (next h) 0) (get_or cs h 0) r
  met h r e l = subst (LowestSide cs (get_or cs (next h) 0) (get_or cs h 0)) e (P.twins h l)

  side_met : {h a b c g : ℕ} → Tri (whole cs n) h a b c → get_or twin h None ≡ Some g → Side (whole cs n) b a
  side_met {h} {a} {b} {c} {g} t e =
      let (i, f, s, _) = tri_below cs n threes t in
      let (L, _) = met h (Some g) e i in
      let (d, r) = tri_of cs n threes L in
      (g, d, record { lives = r.lives; from = r.from ∙ s; to = r.to ∙ f; third = r.third })

  pub unmet_none : ((h : ℕ) → h < length cs → (g : ℕ) × (get_or twin h None ≡ Some g)) → FirstUnmet (whole cs n) None
  unmet_none all h a b c t = let (i, f, s, _) = tri_below cs n threes t in let (g, e) = all h i in side_met t e

  pub unmet_some : (h : ℕ) → h < length cs → get_or twin h None ≡ None → ((k : ℕ) → k < h → (g : ℕ) × (get_or twin k None ≡ Some g)) → FirstUnmet (whole cs n) (Some (h / 3))
  unmet_some h l e all =
      record {
        here =
            let t = whole_tri cs n h threes l in
            (h, get_or cs h 0, get_or cs (next h) 0, get_or cs (prev h) 0, refl, t, λ (g, c, s). met h None e l g (leads_of cs n threes s));
        below = λ m k (x, a, b, c, q, t, no_side). let (g, f) = all x (omega arith) in no_side (side_met t f);
      }

-- an entry of the table is not empty, or is
abbrev pub Held : Option ℕ → Type 0
Held r = is_none r ≡ false

abbrev pub Unheld : Option ℕ → Type 0
Unheld r = is_none r ≡ true

some_from : (r : Option ℕ) → Held r → (g : ℕ) × (r ≡ Some g)
some_from None e = absurd (true≢false e)
some_from (Some g) e = (g, refl)

none_from : (r : Option ℕ) → Unheld r → r ≡ None
none_from None e = refl
none_from (Some g) e = absurd (false≢true e)

module _ {cs : List ℕ} {first twin : List (Option ℕ)} (P : Paired cs first twin) (threes : length cs % 3 ≡ 0) (n : ℕ) where
  -- the first empty entry of the twins, if there is one
  pub unmet_told : (r : Option ℕ) → MatchOption r (AllWithin Held twin 0 (length twin)) (λ i. (i < length twin) × HoldsAt Unheld twin i × AllWithin Held twin 0 i) →
      FirstUnmet (whole cs n) (option_map (λ h. h / 3) r)
  unmet_told None F = unmet_none P threes n (λ h l. some_from (get_or twin h None) (F h None (omega arith) (omega (arith, P.long_twin))))
  unmet_told (Some h) (l, e, F) =
      unmet_some P threes n h (omega (arith, P.long_twin)) (none_from (get_or twin h None) (e None)) (λ k m. some_from (get_or twin k None) (F k None (omega arith) m))
