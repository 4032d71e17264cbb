-- What the calls leave, by the ledger.
use Rattle.std.proofs.Common.{◌≡◌, ℕ, Some, None, Err, Option, MatchOption, ok_or, ◌+◌, ◌-◌, ◌<◌, ◌≤◌, length, get_or, sym, ap, ◌∙◌, subst, arith}
use Rattle.surface.specs.Surface.{Side}
use Rattle.surface.specs.Closed.{Closed}
use Rattle.surface.specs.Collapse.{collapse}
use Rattle.surface.specs.Permitted.{Permitted, Upright}
use Rattle.surface.proofs.Tris.{spin}
use Rattle.mesh.specs.Calls.{Done}
use Rattle.mesh.specs.Model.{surface, points, log}
use Rattle.mesh.specs.Moves.{Advanced, TakenBack}
use Rattle.mesh.specs.Refusals.{Refused}
use Rattle.mesh.specs.Stages.{record_at}
use Rattle.mesh.specs.declared.mesh.Mesh.{Mesh}
use Rattle.mesh.specs.declared.mesh.permits.CollapseRefusal.{CollapseRefusal}
use Rattle.mesh.specs.declared.mesh.permits.CollapseRefusal.TheVariants.{NoSide, NotClosed, Folds}
use Rattle.mesh.specs.declared.record.Record.{Record}
use Rattle.mesh.proofs.Meshes.{now_is}
use Rattle.order.specs.declared.Ordered.{Ghosts as Order}
use Rattle.gauge.specs.Near.{near}
use Rattle.gauge.specs.declared.Gauge.{Ghosts}
use Rattle.ledger.specs.Book.{surface_now, account_now, cost_now, PermittedNow}
use Rattle.ledger.specs.Ledger.{noted, placed_at, Entry, collapses, no_side, not_closed, folds, splits, nothing_done, redoes, nothing_ahead}
use Rattle.ledger.specs.declared.call.Call.TheVariants.{Collapse, Split, Redo}
use Rattle.ledger.specs.declared.call.Call.{Call}
use Rattle.ledger.specs.declared.call.Answer.{Answer}
use Rattle.ledger.specs.declared.call.Answer.TheVariants.{Collapsed, Split as Parted, Redone, Refused as Refuses}
use Rattle.ledger.specs.declared.call.Refusal.TheVariants.{NothingDone, NothingAhead}
use Rattle.opened_surface.specs.Calls.{refusal_of}
use Rattle.opened_surface.specs.Mending.{Accounted}
use Rattle.opened_surface.specs.declared.thinning.Thinning.{Thinning}
use Rattle.opened_surface.specs.Tied.{book_of, Tied, Follows, Astride, Joined, with_mesh}
use Rattle.opened_surface.proofs.Books.{noted_is, redone_is, split_is, done_joined, redone_joined, back_joined}
use Rattle.opened_surface.proofs.Ends.{corner_placed}

module _ {G C E Z : Type 0} (m : Ghosts G C E Z) (a : Mesh) (g : G) where
  -- where there is an entry for each vertex, what has no price is no side
  pub unpriced : (u w : ℕ) → Accounted m a g → (Side (surface a) u w → u < length (m.account g) → w < length (m.account g) → ⊥) → Side (surface a) u w → ⊥
  unpriced u w A n (h, c, t) =
      let x = corner_placed a t in
      let y = corner_placed a (spin t) in
      n (h, c, t) (omega (arith, A)) (omega (arith, A))

  -- a price as it is now is the cost by the ledger
  pub price_now : m.account g ≡ account_now m (m.setting g) (book_of a) → (u w : ℕ) →
      m.price (m.setting g) u w (get_or (m.account g) u m.blank) (get_or (m.account g) w m.blank) (points a u) (points a w) (near (surface a) (points a) u w) ≡ cost_now m (m.setting g) (book_of a) u w
  price_now account u w =
      let s = m.setting g in
      ap (λ xs. m.price s u w (get_or xs u m.blank) (get_or xs w m.blank) (points a u) (points a w) (near (surface a) (points a) u w)) account
      ∙ ap (λ S. m.price s u w (get_or (account_now m s (book_of a)) u m.blank) (get_or (account_now m s (book_of a)) w m.blank) (points a u) (points a w) (near S (points a) u w)) (now_is a)

-- a cost that is refused for want of a side is none
pub no_cost : {C N : Type 0} (r : Option C) (why : CollapseRefusal) (P : C → Type 0) → Err why ≡ ok_or r NoSide → MatchOption r N P → N × (why ≡ NoSide)
no_cost None why P i n = (n, cc)
no_cost (Some k) why P i n = absurd (cc i)

-- what is tied stays so with an equal mesh
pub tied_same : {G C E Z : Type 0} (m : Ghosts G C E Z) (o : Order C) (x : Thinning G C E Z o) (b : Mesh) → b ≡ x.mesh → Tied m o x → Tied m o (with_mesh b x)
tied_same m o x b i K = subst (λ n. Tied m o (with_mesh n x)) (sym i) K

module _ {G C E Z : Type 0} (m : Ghosts G C E Z) (o : Order C) (x : Thinning G C E Z o) where
  abbrev a : Mesh
  a = x.mesh

  abbrev g : G
  g = x.gauge

  abbrev EntryOf : Call → Answer C → Mesh → Type 0
  EntryOf c r b = Entry m o (m.setting g) (book_of a) c r (book_of b)

  -- a call that changes neither surface nor gauge
  stays : (c : Call) (r : Answer C) (y : Thinning G C E Z o) → EntryOf c r a → y.mesh ≡ a → y.gauge ≡ g → Tied m o y → Follows m o x c r y
  stays c r y e i j K = record { entry = subst (EntryOf c r) (sym i) e; fixed = ap m.setting j; tied = K }

  refused_entry : (u w : ℕ) (why : CollapseRefusal) → Refused (surface a) (points a) u w why → EntryOf (Collapse u w) (Refuses (refusal_of why)) a
  refused_entry u w NoSide n = no_side (subst (λ S. Side S u w → ⊥) (now_is a) n)
  refused_entry u w NotClosed (s, n) = not_closed (subst (λ S. Side S u w) (now_is a) s) (subst (λ S. Closed (collapse S u w) → ⊥) (now_is a) n)
  refused_entry u w Folds (s, c, n) =
      folds (subst (λ S. Side S u w) (now_is a) s) (subst (λ S. Closed (collapse S u w)) (now_is a) c) (subst (λ S. Upright S (points a) u w → ⊥) (now_is a) n)

  -- a collapse that is refused
  pub refused_follows : (u w : ℕ) (why : CollapseRefusal) (y : Thinning G C E Z o) → Refused (surface a) (points a) u w why → y.mesh ≡ a → y.gauge ≡ g → Tied m o y → Follows m o x (Collapse u w) (Refuses (refusal_of why)) y
  refused_follows u w why y R = stays (Collapse u w) (Refuses (refusal_of why)) y (refused_entry u w why R)

  -- nothing to take back
  pub undone_follows : (y : Thinning G C E Z o) → a.position ≡ 0 → y.mesh ≡ a → y.gauge ≡ g → Tied m o y → Follows m o x Split (Refuses NothingDone) y
  undone_follows y z = stays Split (Refuses NothingDone) y (nothing_done z)

  -- nothing to do again
  pub unredone_follows : (y : Thinning G C E Z o) → length (log a) ≤ a.position → y.mesh ≡ a → y.gauge ≡ g → Tied m o y → Follows m o x Redo (Refuses NothingAhead) y
  unredone_follows y z = stays Redo (Refuses NothingAhead) y (nothing_ahead z)

  -- b is the mesh that is left
  module _ (y : Thinning G C E Z o) (fixed : m.setting y.gauge ≡ m.setting g) (b : Mesh) (same : y.mesh ≡ b) where
    follows : (c : Call) (r : Answer C) → EntryOf c r b → Tied m o y → Follows m o x c r y
    follows c r e K = record { entry = subst (EntryOf c r) (sym same) e; fixed = fixed; tied = K }

    -- a collapse that is done
    pub collapsed_follows : m.account g ≡ account_now m (m.setting g) (book_of a) → (u w e f : ℕ) (cost : C) → Astride (surface a) u w e f → Done a u w b →
        cost ≡ m.price (m.setting g) u w (get_or (m.account g) u m.blank) (get_or (m.account g) w m.blank) (points a u) (points a w) (near (surface a) (points a) u w) →
        (Joined m a u w e f b → Tied m o y) → Follows m o x (Collapse u w) (Collapsed cost) y
    collapsed_follows account u w e f cost A D price ties =
        let z = m.setting g in
        let now : surface a ≡ surface_now (book_of a) = now_is a in
        let P : PermittedNow (book_of a) u w = subst (λ S. Permitted S (points a) u w) now D.permitted in
        let is : cost ≡ cost_now m z (book_of a) u w = price ∙ price_now m a g account u w in
        let done : Entry m o z (book_of a) (Collapse u w) (Collapsed (cost_now m z (book_of a) u w)) (noted (book_of a) u w) = collapses P in
        follows (Collapse u w) (Collapsed cost)
        (subst (λ d. Entry m o z (book_of a) (Collapse u w) (Collapsed cost) d) (sym (noted_is a b u w D)) (subst (λ k. Entry m o z (book_of a) (Collapse u w) (Collapsed k) (noted (book_of a) u w)) (sym is) done))
        (ties (done_joined m z a b u w e f A D))

    -- a collapse that is done again
    pub redone_follows : (r : Record) (e f k : ℕ) → Astride (surface a) r.u r.w e f →
        a.position < length (log a) → Advanced a b → r ≡ record_at (log a) a.position → k ≡ b.position →
        (Joined m a r.u r.w e f b → Tied m o y) → Follows m o x Redo (Redone k) y
    redone_follows r e f k A l D is at ties =
        let done : Entry m o (m.setting g) (book_of a) Redo (Redone (a.position + 1)) (placed_at (book_of a) (a.position + 1)) = redoes l in
        follows Redo (Redone k)
        (subst (λ d. Entry m o (m.setting g) (book_of a) Redo (Redone k) d) (sym (redone_is a b D))
        (subst (λ n. Entry m o (m.setting g) (book_of a) Redo (Redone n) (placed_at (book_of a) (a.position + 1))) (sym (at ∙ D.position_next)) done))
        (ties (redone_joined m (m.setting g) a b r e f A l is D))

    -- a collapse that is taken back
    pub split_follows : (r : Record) (k : ℕ) → TakenBack a r b → k ≡ b.position →
        ((e f : ℕ) → Joined m b r.u r.w e f a → Tied m o y) → Follows m o x Split (Parted k) y
    split_follows r k D at ties =
        let done : Entry m o (m.setting g) (book_of a) Split (Parted (a.position - 1)) (placed_at (book_of a) (a.position - 1)) = splits (let i = D.position_back in omega arith) in
        let i : b.position ≡ a.position - 1 = let i = D.position_back in omega arith in
        let (e, f, J) = back_joined m (m.setting g) b a r D in
        follows Split (Parted k)
        (subst (λ d. Entry m o (m.setting g) (book_of a) Split (Parted k) d) (sym (split_is a b r D ∙ ap (placed_at (book_of a)) i))
        (subst (λ n. Entry m o (m.setting g) (book_of a) Split (Parted n) (placed_at (book_of a) (a.position - 1))) (sym (at ∙ i)) done))
        (ties e f J)
