-- For every sensible book and list of calls there are answers and a book after them.
use Rattle.std.proofs.Common.{ℕ, ◌+◌, ◌-◌, ◌<◌, ◌≤◌, ◌⊎◌, List, [], ◌∷◌, length, inl, inr, arith}
use Rattle.std.proofs.lemmas.Bool.{cases_lt}
use Rattle.surface.specs.Surface.{Side, Within}
use Rattle.surface.specs.Closed.{Closed}
use Rattle.surface.specs.Collapse.{collapse}
use Rattle.surface.specs.Permitted.{Upright}
use Rattle.order.specs.declared.Ordered.{Ghosts as Order}
use Rattle.gauge.specs.declared.Gauge.{Ghosts}
use Rattle.ledger.specs.Book.{Book, surface_now, cost_now, Sensible}
use Rattle.ledger.specs.Choice.{CostsMore, Told}
use Rattle.ledger.specs.Ledger.{noted, placed_at, Entry, collapses, no_side, not_closed, folds, steps, none_permitted, splits, nothing_done, redoes, nothing_ahead, goes, beyond_log, Kept, none, next}
use Rattle.ledger.specs.Laws.{Total, NeverStuck}
use Rattle.ledger.specs.declared.call.Call.{Call}
use Rattle.ledger.specs.declared.call.Call.TheVariants.{Collapse, Step, Split, Redo, Go}
use Rattle.ledger.specs.declared.call.Answer.{Answer}
use Rattle.ledger.specs.declared.call.Answer.TheVariants.{Collapsed, Stepped, Split as Parted, Redone, Went, Refused}
use Rattle.ledger.specs.declared.call.Refusal.TheVariants.{NoSide, NotClosed, Folds, NonePermitted, NothingDone, NothingAhead, BeyondLog}
use Rattle.ledger.proofs.Preserves.{closed_at, within_at, entry_preserves}
use Rattle.ledger.proofs.Deciding.{side?, closed?, upright?}
use Rattle.ledger.proofs.Chosen.{Choice, choice}

-- an answer and a book after a call, and after a list of calls
abbrev One : {G C E S : Type 0} → Ghosts G C E S → Order C → S → Book → Call → Type 0
One {C = C} m o s b c = (r : Answer C) × (d : Book) × Entry m o s b c r d

abbrev All : {G C E S : Type 0} → Ghosts G C E S → Order C → S → Book → List Call → Type 0
All {C = C} m o s b cs = (rs : List (Answer C)) × (d : Book) × Kept m o s b cs rs d

module _ {G C E S : Type 0} (m : Ghosts G C E S) (o : Order C) (s : S) where
  module _ (b : Book) where
    collapse_by : (u w : ℕ) → Side (surface_now b) u w → Dec (Closed (collapse (surface_now b) u w)) → Dec (Upright (surface_now b) b.points u w) → One m o s b (Collapse u w)
    collapse_by u w e (no n) d = (Refused NotClosed, b, not_closed e n)
    collapse_by u w e (yes c) (no n) = (Refused Folds, b, folds e c n)
    collapse_by u w e (yes c) (yes k) = (Collapsed (cost_now m s b u w), noted b u w, collapses (record { side = e; closed = c; upright = k }))

    collapse_one : Sensible b → (u w : ℕ) → One m o s b (Collapse u w)
    collapse_one K u w = go (side? (surface_now b) shut b.triangles b.vertices bounds u w)
      where
        shut : Closed (surface_now b)
        shut = closed_at b K b.position K.placed

        bounds : Within (surface_now b) b.triangles b.vertices
        bounds = within_at b K b.position

        go : Dec (Side (surface_now b) u w) → One m o s b (Collapse u w)
        go (no n) = (Refused NoSide, b, no_side n)
        go (yes e) =
            collapse_by u w e (closed? (surface_now b) shut b.triangles b.vertices bounds u w e)
            (upright? (surface_now b) shut b.triangles b.vertices bounds b.points u w)

    step_one : Choice m o s b → One m o s b Step
    step_one (inl n) = (Refused NonePermitted, b, none_permitted n)
    step_one (inr (u, w, f)) = (Stepped u w (cost_now m s b u w), noted b u w, steps f)

    split_one : (0 < b.position) ⊎ (b.position ≤ 0) → One m o s b Split
    split_one (inl l) = (Parted (b.position - 1), placed_at b (b.position - 1), splits l)
    split_one (inr l) = (Refused NothingDone, b, nothing_done (omega arith))

    redo_one : (b.position < length b.log) ⊎ (length b.log ≤ b.position) → One m o s b Redo
    redo_one (inl l) = (Redone (b.position + 1), placed_at b (b.position + 1), redoes l)
    redo_one (inr l) = (Refused NothingAhead, b, nothing_ahead l)

    go_one : (k : ℕ) → (length b.log < k) ⊎ (k ≤ length b.log) → One m o s b (Go k)
    go_one k (inl l) = (Refused BeyondLog, b, beyond_log l)
    go_one k (inr l) = (Went 0, placed_at b k, goes l (omega arith))

  module _ (total : (x y : C) → o.atmost x y ⊎ o.atmost y x) (transitive : (x y z : C) → o.atmost x y → o.atmost y z → o.atmost x z)
      (M : Type 0 → Type 0) (pure : (A : Type 0) → A → M A) (bind : (A B : Type 0) → M A → (A → M B) → M B)
      (told : (x y : C) → M (o.atmost x y ⊎ CostsMore o x y)) where
    one : (b : Book) → Sensible b → (c : Call) → M (One m o s b c)
    one b K (Collapse u w) = pure (One m o s b (Collapse u w)) (collapse_one b K u w)
    one b K Step = bind (Choice m o s b) (One m o s b Step) (choice m o total transitive s b K M pure bind told) (λ x. pure (One m o s b Step) (step_one b x))
    one b K Split = pure (One m o s b Split) (split_one b (cases_lt 0 b.position))
    one b K Redo = pure (One m o s b Redo) (redo_one b (cases_lt b.position (length b.log)))
    one b K (Go k) = pure (One m o s b (Go k)) (go_one b k (cases_lt (length b.log) k))

    pub all : (cs : List Call) (b : Book) → Sensible b → M (All m o s b cs)
    all [] b K = pure (All m o s b []) ([], b, none)
    all (c ∷ cs) b K =
        bind (One m o s b c) (All m o s b (c ∷ cs)) (one b K c)
        (λ (r, d, e). bind (All m o s d cs) (All m o s b (c ∷ cs)) (all cs d (entry_preserves m o s K e).0)
        (λ (rs, z, k). pure (All m o s b (c ∷ cs)) (r ∷ rs, z, next e k)))

module _ {G C E S : Type 0} (m : Ghosts G C E S) (o : Order C)
    (total : (x y : C) → o.atmost x y ⊎ o.atmost y x) (transitive : (x y z : C) → o.atmost x y → o.atmost y z → o.atmost x z) where
  pub totals : Told o → Total m o
  totals told s b calls K = all m o s total transitive (λ A. A) (λ A x. x) (λ A B x f. f x) told calls b K

  pub never_stuck : NeverStuck m o
  never_stuck s b calls K n =
      all m o s total transitive (λ A. (A → ⊥) → ⊥) (λ A x f. f x) (λ A B x f g. x (λ a. f a g)) (λ x y f. f (inr (λ p. f (inl p)))) calls b K
      (λ (rs, d, k). n rs d k)
