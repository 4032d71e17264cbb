-- A book and the calls fix the answers and the book after them.
use Rattle.std.proofs.Common.{◌≡◌, ℕ, List, sym, refl, ap, ◌∙◌, subst, inl, inr, arith}
use Rattle.order.specs.declared.Ordered.{Ghosts as Order}
use Rattle.gauge.specs.declared.Gauge.{Ghosts}
use Rattle.ledger.specs.Book.{Book, cost_now}
use Rattle.ledger.specs.Choice.{NotBehind, First}
use Rattle.ledger.specs.Ledger.{noted, Entry, collapses, no_side, not_closed, folds, steps, none_permitted, splits, nothing_done, redoes, nothing_ahead, goes, beyond_log, Kept, none, next}
use Rattle.ledger.specs.Agree.{Agree, same, moves, AllAgree, none as none_agree, next as next_agree}
use Rattle.ledger.specs.Laws.{SingleValued}
use Rattle.ledger.specs.declared.call.Call.{Call}
use Rattle.ledger.specs.declared.call.Answer.{Answer}
use Rattle.ledger.specs.declared.call.Answer.TheVariants.{Stepped}

-- two pairs, each not behind the other, are one
pub not_behind_one : (u w x y : ℕ) → NotBehind u w x y → NotBehind x y u w → (u ≡ x) × (w ≡ y)
not_behind_one u w x y (inl p) (inl q) = (omega arith, omega arith)
not_behind_one u w x y (inl p) (inr q) = (omega arith, omega arith)
not_behind_one u w x y (inr p) (inl q) = (omega arith, omega arith)
not_behind_one u w x y (inr p) (inr q) = (p.0, omega arith)

module _ {G C E S : Type 0} (m : Ghosts G C E S) (o : Order C) (s : S) where
  -- a step takes one collapse
  pub first_one : (b : Book) (u w x y : ℕ) → First m o s b u w → First m o s b x y → (u ≡ x) × (w ≡ y)
  first_one b u w x y f g =
      not_behind_one u w x y
      (f.foremost x y g.permitted (g.cheapest u w f.permitted))
      (g.foremost u w f.permitted (f.cheapest x y g.permitted))

  abbrev stepped : Book → ℕ → ℕ → Answer C
  stepped b u w = Stepped u w (cost_now m s b u w)

  steps_one : (b : Book) (u w x y : ℕ) → u ≡ x → w ≡ y → (noted b u w ≡ noted b x y) × Agree (stepped b u w) (stepped b x y)
  steps_one b u w x y p q =
      (ap (λ v. noted b v w) p ∙ ap (noted b x) q, subst (λ t. Agree (stepped b u w) t) (ap (λ v. stepped b v w) p ∙ ap (stepped b x) q) same)

  pub entry_one : {b x y : Book} {c : Call} {r t : Answer C} → Entry m o s b c r x → Entry m o s b c t y → (x ≡ y) × Agree r t
  entry_one (collapses p) (collapses q) = (refl, same)
  entry_one (collapses p) (no_side q) = absurd (q p.side)
  entry_one (collapses p) (not_closed q n) = absurd (n p.closed)
  entry_one (collapses p) (folds q c n) = absurd (n p.upright)
  entry_one (no_side q) (collapses p) = absurd (q p.side)
  entry_one (no_side q) (no_side p) = (refl, same)
  entry_one (no_side q) (not_closed p n) = absurd (q p)
  entry_one (no_side q) (folds p c n) = absurd (q p)
  entry_one (not_closed q n) (collapses p) = absurd (n p.closed)
  entry_one (not_closed q n) (no_side p) = absurd (p q)
  entry_one (not_closed q n) (not_closed p k) = (refl, same)
  entry_one (not_closed q n) (folds p c k) = absurd (n c)
  entry_one (folds q c n) (collapses p) = absurd (n p.upright)
  entry_one (folds q c n) (no_side p) = absurd (p q)
  entry_one (folds q c n) (not_closed p k) = absurd (k c)
  entry_one (folds q c n) (folds p d k) = (refl, same)
  entry_one (steps {b = b} {u = u} {w = w} f) (steps {u = x} {w = y} g) = let (p, q) = first_one b u w x y f g in steps_one b u w x y p q
  entry_one (steps {u = u} {w = w} f) (none_permitted n) = absurd (n u w f.permitted)
  entry_one (none_permitted n) (steps {u = u} {w = w} f) = absurd (n u w f.permitted)
  entry_one (none_permitted n) (none_permitted k) = (refl, same)
  entry_one (splits l) (splits k) = (refl, same)
  entry_one (splits l) (nothing_done i) = absurd (omega arith)
  entry_one (nothing_done i) (splits l) = absurd (omega arith)
  entry_one (nothing_done i) (nothing_done j) = (refl, same)
  entry_one (redoes l) (redoes k) = (refl, same)
  entry_one (redoes l) (nothing_ahead k) = absurd (omega arith)
  entry_one (nothing_ahead l) (redoes k) = absurd (omega arith)
  entry_one (nothing_ahead l) (nothing_ahead k) = (refl, same)
  entry_one (goes l n) (goes k p) = (refl, moves)
  entry_one (goes l n) (beyond_log k) = absurd (omega arith)
  entry_one (beyond_log l) (goes k p) = absurd (omega arith)
  entry_one (beyond_log l) (beyond_log k) = (refl, same)

  pub kept_one : {b x y : Book} {cs : List Call} {rs ts : List (Answer C)} → Kept m o s b cs rs x → Kept m o s b cs ts y → (x ≡ y) × AllAgree rs ts
  kept_one none none = (refl, none_agree)
  kept_one (next {b = b} {cs = cs} e k) (next {b = d} {z = z} {rs = ts} f l) =
      let (p, r) = entry_one e f in
      let (q, t) = kept_one k (subst (λ (v : Book). Kept m o s v cs ts z) (sym p) l) in
      (q, next_agree r t)

pub single_valued : {G C E S : Type 0} (m : Ghosts G C E S) (o : Order C) → SingleValued m o
single_valued m o s b x y calls answers others k l = kept_one m o s k l
