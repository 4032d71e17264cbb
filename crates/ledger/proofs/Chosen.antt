-- Which collapse a step takes: there is one where any is permitted, and it is told in other words.
use Rattle.std.proofs.Common.{◌≡◌, ℕ, ◌*◌, ◌<◌, ◌⊎◌, sym, subst, inl, inr, ⊎_elim, arith}
use native.Mathlib.Decide.{ℕ_discrete}
use Rattle.surface.specs.Surface.{next, Tri}
use Rattle.mesh.proofs.Calls.{permitted_along}
use Rattle.order.specs.declared.Ordered.{Ghosts as Order}
use Rattle.gauge.specs.declared.Gauge.{Ghosts}
use Rattle.ledger.specs.Book.{Book, surface_now, PermittedNow, cost_now, Sensible}
use Rattle.ledger.specs.Choice.{CostsMore, RankEqual, Told, NotBehind, First, NonePermittedNow, InWords}
use Rattle.ledger.specs.Laws.{StepInWords}
use Rattle.ledger.proofs.Preserves.{closed_at, within_at}
use Rattle.ledger.proofs.Deciding.{low, permitted?}
use Rattle.ledger.proofs.Least.{Found, least}
use Rattle.ledger.proofs.Ranks.{NotAfter, at_most_self, rank_self, rank_chain, rank_either}

-- a step takes a collapse, or there is none
abbrev pub Choice : {G C E S : Type 0} → Ghosts G C E S → Order C → S → Book → Type 0
Choice m o s b = NonePermittedNow b ⊎ ((u : ℕ) × (w : ℕ) × First m o s b u w)

module _ {G C E S : Type 0} (m : Ghosts G C E S) (o : Order C)
    (total : (x y : C) → o.atmost x y ⊎ o.atmost y x) (transitive : (x y z : C) → o.atmost x y → o.atmost y z → o.atmost x z)
    (s : S) (b : Book) where
  -- the ends of a half-edge, and the order of the half-edges by the collapses that they stand for
  abbrev from : ℕ → ℕ
  from h = (surface_now b).corner h

  abbrev to : ℕ → ℕ
  to h = (surface_now b).corner (next h)

  abbrev Rank : ℕ → ℕ → ℕ → ℕ → Type 0
  Rank u w x y = NotAfter o (cost_now m s b u w) u w (cost_now m s b x y) x y

  abbrev May : ℕ → Type 0
  May h = PermittedNow b (from h) (to h)

  abbrev Before : ℕ → ℕ → Type 0
  Before h g = Rank (from h) (to h) (from g) (to g)

  module _ (K : Sensible b) where
    below : {h x y z : ℕ} → Tri (surface_now b) h x y z → h < 3 * b.triangles
    below t = low (surface_now b) (closed_at b K b.position K.placed) b.triangles b.vertices (within_at b K b.position) t

    may? : (h : ℕ) → Dec (May h)
    may? h = permitted? (surface_now b) (closed_at b K b.position K.placed) b.triangles b.vertices (within_at b K b.position) b.points (from h) (to h)

    -- from half-edges to pairs of vertices
    chosen : Found May Before (3 * b.triangles) → Choice m o s b
    chosen (inl f) = inl (λ x y p. let (h, c, t) = p.side in f h (below t) (permitted_along (surface_now b) b.points x y h c t p))
    chosen (inr (h, q, f)) = inr (from h, to h, record { permitted = q; cheapest = λ x y p. (rank x y p).cost; foremost = λ x y p. (rank x y p).tie })
      where
        rank : (x y : ℕ) → PermittedNow b x y → Rank (from h) (to h) x y
        rank x y p =
            let (g, c, t) = p.side in
            let r : Rank (from h) (to h) (from g) (to g) = f g (below t) (permitted_along (surface_now b) b.points x y g c t p) in
            subst (λ (v : ℕ). Rank (from h) (to h) x v) t.to (subst (λ (v : ℕ). Rank (from h) (to h) v (to g)) t.from r)

    module _ (M : Type 0 → Type 0) (pure : (A : Type 0) → A → M A) (bind : (A B : Type 0) → M A → (A → M B) → M B)
        (told : (x y : C) → M (o.atmost x y ⊎ CostsMore o x y)) where
      either : (h g : ℕ) → M (Before h g ⊎ Before g h)
      either h g =
          let x : C = cost_now m s b (from h) (to h) in
          let y : C = cost_now m s b (from g) (to g) in
          bind (o.atmost x y ⊎ CostsMore o x y) (Before h g ⊎ Before g h) (told x y)
          (λ p. bind (o.atmost y x ⊎ CostsMore o y x) (Before h g ⊎ Before g h) (told y x)
          (λ q. pure (Before h g ⊎ Before g h) (rank_either o total transitive x (from h) (to h) y (from g) (to g) p q)))

      pub choice : M (Choice m o s b)
      choice =
          bind (Found May Before (3 * b.triangles)) (Choice m o s b)
          (least M pure bind May may? Before
          (λ h. rank_self o total transitive (cost_now m s b (from h) (to h)) (from h) (to h))
          (λ h g k. rank_chain o total transitive (cost_now m s b (from h) (to h)) (from h) (to h) (cost_now m s b (from g) (to g)) (from g) (to g) (cost_now m s b (from k) (to k)) (from k) (to k))
          either (3 * b.triangles))
          (λ f. pure (Choice m o s b) (chosen f))

  -- the two ways to say what a step takes
  abbrev Other : ℕ → ℕ → ℕ → ℕ → Type 0
  Other u w x y = ((x ≡ u) × (y ≡ w)) ⊎ (CostsMore o (cost_now m s b x y) (cost_now m s b u w) ⊎ (RankEqual o (cost_now m s b x y) (cost_now m s b u w) × ((u < x) ⊎ ((x ≡ u) × (w < y)))))

  other : (u w x y : ℕ) → Rank u w x y → o.atmost (cost_now m s b x y) (cost_now m s b u w) ⊎ CostsMore o (cost_now m s b x y) (cost_now m s b u w) → Other u w x y
  other u w x y r (inr n) = inr (inl n)
  other u w x y r (inl k) = go (r.tie k) (ℕ_discrete y w)
    where
      go : NotBehind u w x y → Dec (y ≡ w) → Other u w x y
      go (inl l) d = inr (inr ((k, r.cost), inl l))
      go (inr (i, l)) (yes j) = inl (sym i, j)
      go (inr (i, l)) (no n) = inr (inr ((k, r.cost), inr (sym i, omega arith)))

  other_cost : (u w x y : ℕ) → Other u w x y → o.atmost (cost_now m s b u w) (cost_now m s b x y)
  other_cost u w x y (inl (i, j)) = subst (λ (v : ℕ). o.atmost (cost_now m s b u w) (cost_now m s b v y)) (sym i) (subst (λ (v : ℕ). o.atmost (cost_now m s b u w) (cost_now m s b u v)) (sym j) (at_most_self o total transitive (cost_now m s b u w)))
  other_cost u w x y (inr (inl n)) = ⊎_elim (λ h. h) (λ h. absurd (n h)) (total (cost_now m s b u w) (cost_now m s b x y))
  other_cost u w x y (inr (inr ((k, l), t))) = l

  other_tie : (u w x y : ℕ) → Other u w x y → o.atmost (cost_now m s b x y) (cost_now m s b u w) → NotBehind u w x y
  other_tie u w x y (inl (i, j)) k = inr (sym i, omega arith)
  other_tie u w x y (inr (inl n)) k = absurd (n k)
  other_tie u w x y (inr (inr (e, inl l))) k = inl l
  other_tie u w x y (inr (inr (e, inr (i, l)))) k = inr (sym i, omega arith)

  pub words : Told o → (u w : ℕ) → First m o s b u w → InWords m o s b u w
  words told u w f =
      record {
        permitted = f.permitted;
        others = λ x y p. other u w x y (record { cost = f.cheapest x y p; tie = f.foremost x y p }) (told (cost_now m s b x y) (cost_now m s b u w));
      }

  pub from_words : (u w : ℕ) → InWords m o s b u w → First m o s b u w
  from_words u w f =
      record {
        permitted = f.permitted;
        cheapest = λ x y p. other_cost u w x y (f.others x y p);
        foremost = λ x y p. other_tie u w x y (f.others x y p);
      }

pub step_in_words : {G C E S : Type 0} (m : Ghosts G C E S) (o : Order C) →
    ((x y : C) → o.atmost x y ⊎ o.atmost y x) → ((x y z : C) → o.atmost x y → o.atmost y z → o.atmost x z) → Told o → StepInWords m o
step_in_words m o total transitive told s b u w = (words m o total transitive s b told u w, from_words m o total transitive s b u w)
