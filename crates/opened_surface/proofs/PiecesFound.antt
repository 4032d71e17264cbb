-- Every closed surface has a number of pieces, and from the bare fact that it is a certain one all that it says is found.
use Rattle.std.proofs.Common.{◌≡◌, ℕ, zero, suc, ◌*◌, ◌/◌, ◌<◌, ◌≤◌, true, false, cond, ◌&&◌, eqb, ◌⊎◌, List, [], ◌∷◌, length, get_or, sym, refl, ap, ◌∙◌, subst, inl, inr, arith}
use Rattle.std.proofs.lemmas.Bool.{cases_Bool, cases_eq, cases_lt, cond-true, cond-false, and_parts, and_from, eqb-true, eq-eqb, both_ways}
use mathlib.Core.Logic.{∥∥₁_elim}
use native.Mathlib.Nat.{ℕ_set}
use Rattle.surface.specs.Surface.{Surface, next, Within}
use Rattle.surface.specs.Closed.{Known}
use Rattle.surface.specs.Pieces.{Chain, end, along, Pieces}
use Rattle.surface.proofs.Chains.{chain_to, chain_then, chain_back}
use Rattle.surface.proofs.PiecesUnique.{pieces_unique}
use Rattle.surface.proofs.Tris.{spin, tri_at}

-- the label a is replaced by b
abbrev renamed : (ℕ → ℕ) → ℕ → ℕ → ℕ → ℕ
renamed f a b v = cond (eqb (f v) a) b (f v)

module _ (S : Surface) where
  -- labels that join the ends of the first k half-edges: each vertex has a chain to its label, and a label has itself
  record Labelled (f : ℕ → ℕ) (k : ℕ) : Type 0 where
    pub chained : (v : ℕ) → Chain S v (f v)
    pub steady : (v : ℕ) → f (f v) ≡ f v
    pub joined : (h : ℕ) → h < k → S.alive (h / 3) ≡ true → f (S.corner h) ≡ f (S.corner (next h))

  labelled_none : Labelled (λ v. v) 0
  labelled_none = record { chained = λ v. end; steady = λ v. refl; joined = λ h l. absurd (omega arith) }

  module _ (f : ℕ → ℕ) (k : ℕ) (L : Labelled f k) where
    module _ (l : S.alive (k / 3) ≡ true) where
      abbrev a : ℕ
      a = f (S.corner k)

      abbrev b : ℕ
      b = f (S.corner (next k))

      same_b : (v : ℕ) → f v ≡ b → renamed f a b v ≡ b
      same_b v i = go (cases_Bool (eqb (f v) a))
        where
          go : (eqb (f v) a ≡ true) ⊎ (eqb (f v) a ≡ false) → renamed f a b v ≡ b
          go (inl e) = cond-true _ _ _ e
          go (inr e) = cond-false _ _ _ e ∙ i

      same_a : (v : ℕ) → f v ≡ a → renamed f a b v ≡ b
      same_a v i = cond-true _ _ _ (eq-eqb _ _ i)

      chained : (v : ℕ) → Chain S v (renamed f a b v)
      chained v = go (cases_Bool (eqb (f v) a))
        where
          go : (eqb (f v) a ≡ true) ⊎ (eqb (f v) a ≡ false) → Chain S v (renamed f a b v)
          go (inl e) =
              chain_to (sym (cond-true _ _ _ e)) (chain_then (chain_to (eqb-true _ _ e) (L.chained v))
              (chain_then (chain_back (L.chained (S.corner k))) (along (tri_at S k l) (L.chained (S.corner (next k))))))
          go (inr e) = chain_to (sym (cond-false _ _ _ e)) (L.chained v)

      steady : (v : ℕ) → renamed f a b (renamed f a b v) ≡ renamed f a b v
      steady v = go (cases_Bool (eqb (f v) a))
        where
          go : (eqb (f v) a ≡ true) ⊎ (eqb (f v) a ≡ false) → renamed f a b (renamed f a b v) ≡ renamed f a b v
          go (inl e) =
              let i : renamed f a b v ≡ b = cond-true _ _ _ e in
              ap (renamed f a b) i ∙ same_b b (L.steady (S.corner (next k))) ∙ sym i
          go (inr e) =
              let i : renamed f a b v ≡ f v = cond-false _ _ _ e in
              ap (renamed f a b) i ∙ cond-false _ _ _ (ap (λ n. eqb n a) (L.steady v) ∙ e) ∙ L.steady v ∙ sym i

      joined : (h : ℕ) → h < suc k → S.alive (h / 3) ≡ true → renamed f a b (S.corner h) ≡ renamed f a b (S.corner (next h))
      joined h m t = go (cases_lt h k)
        where
          go : (h < k) ⊎ (k ≤ h) → renamed f a b (S.corner h) ≡ renamed f a b (S.corner (next h))
          go (inl n) = ap (λ x. cond (eqb x a) b x) (L.joined h n t)
          go (inr n) =
              let i : h ≡ k = omega arith in
              same_a (S.corner h) (ap (λ j. f (S.corner j)) i) ∙ sym (same_b (S.corner (next h)) (ap (λ j. f (S.corner (next j))) i))

      labelled_live : Labelled (renamed f a b) (suc k)
      labelled_live = record { chained = chained; steady = steady; joined = joined }

    labelled_dead : S.alive (k / 3) ≡ false → Labelled f (suc k)
    labelled_dead d = record { chained = L.chained; steady = L.steady; joined = λ h m t. go h t (cases_lt h k) m }
      where
        go : (h : ℕ) → S.alive (h / 3) ≡ true → (h < k) ⊎ (k ≤ h) → h < suc k → f (S.corner h) ≡ f (S.corner (next h))
        go h t (inl n) m = L.joined h n t
        go h t (inr n) m = let i : h ≡ k = omega arith in absurd (both_ways _ d (ap (λ j. S.alive (j / 3)) (sym i) ∙ t))

  labels : (k : ℕ) → (f : ℕ → ℕ) × Labelled f k
  labels zero = (λ v. v, labelled_none)
  labels (suc k) = let (f, L) = labels k in go f L (cases_Bool (S.alive (k / 3)))
    where
      go : (f : ℕ → ℕ) → Labelled f k → (S.alive (k / 3) ≡ true) ⊎ (S.alive (k / 3) ≡ false) → (g : ℕ → ℕ) × Labelled g (suc k)
      go f L (inl l) = (renamed f (f (S.corner k)) (f (S.corner (next k))), labelled_live f k L l)
      go f L (inr d) = (f, labelled_dead f k L d)

  module _ (f : ℕ → ℕ) where
    -- l lists the live vertices below k that are their own labels
    record Listed (l : List ℕ) (k : ℕ) : Type 0 where
      pub live : (i : ℕ) → i < length l → S.present (get_or l i 0) ≡ true
      pub own : (i : ℕ) → i < length l → f (get_or l i 0) ≡ get_or l i 0
      pub below : (i : ℕ) → i < length l → get_or l i 0 < k
      pub apart : (i j : ℕ) → i < length l → j < length l → get_or l i 0 ≡ get_or l j 0 → i ≡ j
      pub all : (v : ℕ) → v < k → S.present v ≡ true → f v ≡ v → (i : ℕ) × (i < length l) × (get_or l i 0 ≡ v)

    listed_none : Listed [] 0
    listed_none =
        record {
          live = λ i l. absurd (omega arith);
          own = λ i l. absurd (omega arith);
          below = λ i l. absurd (omega arith);
          apart = λ i j l. absurd (omega arith);
          all = λ v l. absurd (omega arith);
        }

    module _ (l : List ℕ) (k : ℕ) (L : Listed l k) where
      listed_more : S.present k ≡ true → f k ≡ k → Listed (k ∷ l) (suc k)
      listed_more p e = record { live = live; own = own; below = below; apart = apart; all = λ v m. all v m (cases_eq v k) }
        where
          live : (i : ℕ) → i < length (k ∷ l) → S.present (get_or (k ∷ l) i 0) ≡ true
          live zero m = p
          live (suc i) m = L.live i (omega arith)

          own : (i : ℕ) → i < length (k ∷ l) → f (get_or (k ∷ l) i 0) ≡ get_or (k ∷ l) i 0
          own zero m = e
          own (suc i) m = L.own i (omega arith)

          below : (i : ℕ) → i < length (k ∷ l) → get_or (k ∷ l) i 0 < suc k
          below zero m = omega arith
          below (suc i) m = omega (arith, L.below i (omega arith))

          apart : (i j : ℕ) → i < length (k ∷ l) → j < length (k ∷ l) → get_or (k ∷ l) i 0 ≡ get_or (k ∷ l) j 0 → i ≡ j
          apart zero zero m n q = refl
          apart zero (suc j) m n q = let x = L.below j (omega arith) in absurd (omega arith)
          apart (suc i) zero m n q = let x = L.below i (omega arith) in absurd (omega arith)
          apart (suc i) (suc j) m n q = ap suc (L.apart i j (omega arith) (omega arith) q)

          all : (v : ℕ) → v < suc k → (v ≡ k) ⊎ (v ≡ k → ⊥) → S.present v ≡ true → f v ≡ v → (i : ℕ) × (i < length (k ∷ l)) × (get_or (k ∷ l) i 0 ≡ v)
          all v m (inl x) q r = (0, omega arith, sym x)
          all v m (inr x) q r = let (i, n, y) = L.all v (omega arith) q r in (suc i, omega arith, y)

      listed_same : (S.present k ≡ true → f k ≡ k → ⊥) → Listed l (suc k)
      listed_same n =
          record { live = L.live; own = L.own; below = λ i m. omega (arith, L.below i m); apart = L.apart; all = λ v m. all v m (cases_eq v k) }
        where
          all : (v : ℕ) → v < suc k → (v ≡ k) ⊎ (v ≡ k → ⊥) → S.present v ≡ true → f v ≡ v → (i : ℕ) × (i < length l) × (get_or l i 0 ≡ v)
          all v m (inl x) q r = absurd (n (subst (λ j. S.present j ≡ true) x q) (subst (λ j. f j ≡ j) x r))
          all v m (inr x) q r = L.all v (omega arith) q r

    lists : (k : ℕ) → (l : List ℕ) × Listed l k
    lists zero = ([], listed_none)
    lists (suc k) = let (l, L) = lists k in go l L (cases_Bool (S.present k && eqb (f k) k))
      where
        go : (l : List ℕ) → Listed l k → (S.present k && eqb (f k) k ≡ true) ⊎ (S.present k && eqb (f k) k ≡ false) → (m : List ℕ) × Listed m (suc k)
        go l L (inl t) = let (p, q) = and_parts _ _ t in (k ∷ l, listed_more l k L p (eqb-true _ _ q))
        go l L (inr t) = (l, listed_same l k L (λ p q. both_ways _ t (and_from _ _ p (eq-eqb _ _ q))))

  live_along : Known S → {x y : ℕ} → Chain S x y → S.present x ≡ true → S.present y ≡ true
  live_along K end p = p
  live_along K (along t c) p = live_along K c (K _ _ _ _ (spin t))

  pieces_some : (T V : ℕ) → Known S → Within S T V → (n : ℕ) × Pieces S n
  pieces_some T V K W =
      let (f, L) = labels (3 * T) in
      let (l, R) = lists f V in (
        length l,
        record {
          roots = l;
          many = refl;
          live = R.live;
          apart = λ i j m n c. R.apart i j m n (sym (R.own i m) ∙ one f L c ∙ R.own j n);
          reached = λ v p. let (i, m, e) = R.all (f v) (W.vertices _ (live_along K (L.chained v) p)) (live_along K (L.chained v) p) (L.steady v) in (i, m, chain_to (sym e) (L.chained v));
        },
      )
    where
      one : (f : ℕ → ℕ) → Labelled f (3 * T) → {x y : ℕ} → Chain S x y → f x ≡ f y
      one f L end = refl
      one f L (along {h = h} t c) = ap f (sym t.from) ∙ L.joined h (omega (arith, W.triangles (h / 3) t.lives)) t.lives ∙ ap f t.to ∙ one f L c

pub pieces_found : (S : Surface) (T V n : ℕ) → Known S → Within S T V → ∥ Pieces S n ∥₁ → Pieces S n
pieces_found S T V n K W s =
    let (k, P) = pieces_some S T V K W in
    subst (λ j. Pieces S j) (∥∥₁_elim s (ℕ_set k n) (λ Q. pieces_unique S k n P Q)) P
