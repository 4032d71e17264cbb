-- The least key of the queue is the collapse that a step takes.
use Rattle.std.proofs.Common.{true, is_ok, Ok, Err, Result, ◌≡◌, ℕ, ◌*◌, ◌/◌, ◌<◌, false, ◌⊎◌, length, get_or, set, is_some, Some, None, vec_len, Option, sym, refl, ap, ◌∙◌, subst, subst₂, inl, inr, arith, length-set, Bool}
use Rattle.std.specs.Result.{result_ok}
use Rattle.std.proofs.lemmas.Bool.{both_ways, cases_eq}
use Rattle.surface.specs.Surface.{Surface, next, Tri}
use Rattle.surface.specs.Geometry.{Vector}
use Rattle.surface.specs.Permitted.{Permitted}
use Rattle.mesh.specs.Model.{surface, points}
use Rattle.mesh.specs.Refusals.{Permit, Refused}
use Rattle.mesh.specs.declared.mesh.Mesh.{Mesh}
use Rattle.mesh.specs.declared.mesh.permits.CollapseRefusal.{CollapseRefusal}
use Rattle.mesh.specs.declared.mesh.permits.CollapseRefusal.TheVariants.{NoSide, NotClosed, Folds}
use Rattle.mesh.proofs.Meshes.{now_is}
use Rattle.order.specs.declared.Ordered.{Ghosts as Order}
use Rattle.queue.specs.Meaning.{keys_of, Held, NoKeys, Least}
use Rattle.queue.specs.declared.Queue.{Queue}
use Rattle.queue.specs.declared.keys.Key.{Key}
use Rattle.gauge.specs.declared.Gauge.{Ghosts}
use Rattle.ledger.specs.Book.{Book, cost_now, PermittedNow}
use Rattle.ledger.specs.Choice.{First, NotBehind, NonePermittedNow}
use Rattle.ledger.specs.Ledger.{Entry, collapses, no_side, not_closed, folds, steps, none_permitted}
use Rattle.ledger.specs.declared.call.Call.{Call}
use Rattle.ledger.specs.declared.call.Answer.{Answer}
use Rattle.ledger.specs.declared.call.Call.TheVariants.{Collapse, Step}
use Rattle.ledger.specs.declared.call.Refusal.{Refusal}
use Rattle.ledger.specs.declared.call.Refusal.TheVariants.{NonePermitted}
use Rattle.ledger.specs.declared.call.Answer.TheVariants.{Collapsed, Stepped, Refused as Refuses}
use Rattle.opened_surface.specs.Calls.{collapse_answer, refusal_of}
use Rattle.opened_surface.specs.Found.{Ready}
use Rattle.opened_surface.specs.Keys.{KeyFor}
use Rattle.opened_surface.specs.Marks.{Marks, NearMark}
use Rattle.opened_surface.specs.Mending.{Accounted, AllPriced, Fit, KeyNow, MendedNow}
use Rattle.opened_surface.specs.Stale.{Sized, repriced, reopened}
use Rattle.opened_surface.specs.declared.stale.Stale.{Stale}
use Rattle.opened_surface.specs.Tied.{book_of, Tied, Follows}
use Rattle.opened_surface.specs.declared.thinning.Thinning.{Thinning}
use Rattle.opened_surface.proofs.Cases.{keyed_or}
use Rattle.opened_surface.proofs.OnMeshes.{all_below}
use Rattle.opened_surface.proofs.Outcomes.{price_now}
use Rattle.opened_surface.proofs.Ties.{thinning}
use Rattle.opened_surface.proofs.Present.{held_within, taken_at, taken_else}

-- what permitting says where it answers yes, and where it answers no
pub permitted_ok : (S : Surface) (P : ℕ → Vector) (u w : ℕ) (r : Result ℕ CollapseRefusal) → Permit S P u w r → is_ok r ≡ true → Permitted S P u w
permitted_ok S P u w (Ok e) p i = p.0
permitted_ok S P u w (Err why) p i = absurd (both_ways false refl i)

pub permitted_err : (S : Surface) (P : ℕ → Vector) (u w : ℕ) (r : Result ℕ CollapseRefusal) → Permit S P u w r → is_ok r ≡ false → (why : CollapseRefusal) × Refused S P u w why
permitted_err S P u w (Ok e) p i = absurd (both_ways true i refl)
permitted_err S P u w (Err why) p i = (why, p)

module _ {G C E Z : Type 0} (m : Ghosts G C E Z) (o : Order C) (a : Mesh) (g : G) (q : Queue C o) (K : Ready m o a g q) where
  abbrev s : Z
  s = m.setting g

  -- what the key of the collapse of x to y says
  record Says (x y : ℕ) (k : Key C) : Type 0 where
    from : k.u ≡ x
    to : k.w ≡ y
    cost : k.cost ≡ cost_now m s (book_of a) x y

  says_of : (n x y : ℕ) (k : Key C) → (surface a).corner n ≡ x → (surface a).corner (next n) ≡ y →
      KeyFor m (surface a) (points a) s (m.account g) ((surface a).corner n) ((surface a).corner (next n)) k → Says x y k
  says_of n x y k p r F =
      let F' : KeyFor m (surface a) (points a) s (m.account g) x y k = subst₂ (λ i j. KeyFor m (surface a) (points a) s (m.account g) i j k) p r F in
      record {
        from = F'.from;
        to = F'.to;
        cost = F'.price ∙ price_now m a g K.account x y;
      }

  says : (n : ℕ) (k : Key C) → Held (keys_of q) n k → Says k.u k.w k
  says n k h =
      let l = held_within (keys_of q) n k h in
      let i = K.long in
      let (v, F) : KeyNow m a g n (Some k) = subst (KeyNow m a g n) h (K.keyed n (omega arith)) in
      says_of n k.u k.w k (sym F.from) (sym F.to) F

  -- a permitted collapse has a key
  keyed_at : (x y : ℕ) → PermittedNow (book_of a) x y → (n : ℕ) × (l : Key C) × Held (keys_of q) n l × Says x y l
  keyed_at x y P = go (get_or (keys_of q) h None) refl (K.keyed h (let p = all_below a.edges (h / 3) t.lives in omega arith))
    where
      Q : Permitted (surface a) (points a) x y
      Q = subst (λ S. Permitted S (points a) x y) (sym (now_is a)) P

      h : ℕ
      h = Q.side.0

      t : Tri (surface a) h x y Q.side.1
      t = Q.side.2

      go : (r : Option (Key C)) → get_or (keys_of q) h None ≡ r → KeyNow m a g h r → (n : ℕ) × (l : Key C) × Held (keys_of q) n l × Says x y l
      go None e k = absurd (k t.lives (subst₂ (Permitted (surface a) (points a)) (sym t.from) (sym t.to) Q))
      go (Some l) e (v, F) = (h, l, e, says_of h x y l t.from t.to F)

  pub first : (n : ℕ) (k : Key C) → Held (keys_of q) n k → Least o q k → Permitted (surface a) (points a) k.u k.w → First m o s (book_of a) k.u k.w
  first n k h L P =
      record {
        permitted = subst (λ S. Permitted S (points a) k.u k.w) (now_is a) P;
        cheapest = λ x y P.
            let (i, l, j, S) = keyed_at x y P in
            subst₂ o.atmost (says n k h).cost S.cost (L.not_after i l j).cost;
        foremost = λ x y P c.
            let (i, l, j, S) = keyed_at x y P in
            subst₂ (NotBehind k.u k.w) S.from S.to ((L.not_after i l j).tie (subst₂ o.atmost (sym S.cost) (sym (says n k h).cost) c));
      }

  -- where no half-edge has a key, no collapse is permitted
  pub none_left : NoKeys (keys_of q) → NonePermittedNow (book_of a)
  none_left N x y P = let (i, l, j, S) = keyed_at x y P in N i l j

  -- a candidate that is not permitted may lose its key
  module _ (n : ℕ) (k : Key C) (held : Held (keys_of q) n k) (x : CollapseRefusal) (R : Refused (surface a) (points a) k.u k.w x) (p : Queue C o) (w : keys_of p ≡ set (keys_of q) n None) where
    not_now : Permitted (surface a) (points a) k.u k.w → ⊥
    not_now P = go x R
      where
        go : (x : CollapseRefusal) → Refused (surface a) (points a) k.u k.w x → ⊥
        go NoSide r = r P.side
        go NotClosed (i, r) = r P.closed
        go Folds (i, j, r) = r P.upright

    at_n : KeyNow m a g n None
    at_n v P =
        let i = K.long in
        let l = held_within (keys_of q) n k held in
        let (t, F) : KeyNow m a g n (Some k) = subst (KeyNow m a g n) held (K.keyed n (omega arith)) in
        not_now (subst₂ (Permitted (surface a) (points a)) (sym F.from) (sym F.to) P)

    keyed_on : (h : ℕ) → h < 3 * vec_len a.edges.triangles → (h ≡ n) ⊎ (h ≡ n → ⊥) → KeyNow m a g h (get_or (set (keys_of q) n None) h None)
    keyed_on h l (inl i) = subst (λ j. KeyNow m a g j (get_or (set (keys_of q) n None) j None)) (sym i) (subst (KeyNow m a g n) (sym (taken_at (keys_of q) n k held)) at_n)
    keyed_on h l (inr d) = subst (KeyNow m a g h) (sym (taken_else (keys_of q) n k held h d)) (K.keyed h l)

    pub ready_on : Ready m o a g p
    ready_on =
        record {
          account = K.account;
          long = ap length w ∙ length-set (keys_of q) n None ∙ K.long;
          keyed = λ h l. subst (λ keys. KeyNow m a g h (get_or keys h None)) (sym w) (keyed_on h l (cases_eq h n));
        }

module _ {G C E Z : Type 0} (m : Ghosts G C E Z) (o : Order C) (a : Mesh) (g : G) (q : Queue C o) (t : Stale) (K : Ready m o a g q) (sized : Sized a t) where
  abbrev x : Thinning G C E Z o
  x = thinning a g q t

  abbrev z : Z
  z = m.setting g

  -- a queue that is ready is tied, whatever is stale
  pub ready_tied : Tied m o x
  ready_tied = record { account = K.account; long = K.long; keyed = λ h l a b. K.keyed h l; sized = sized }

  stepped : (b d : Book) (u w : ℕ) (cost : C) → First m o z b u w → Entry m o z b (Collapse u w) (Collapsed cost) d → Entry m o z b Step (Stepped u w cost) d
  stepped b d u w cost F (collapses p) = steps F

  refused_not : (b d : Book) (u w : ℕ) (x : Refusal) → PermittedNow b u w → Entry m o z b (Collapse u w) (Refuses x) d → ⊥
  refused_not b d u w x P (no_side n) = n P.side
  refused_not b d u w x P (not_closed p n) = n P.closed
  refused_not b d u w x P (folds p c n) = n P.upright

  -- the collapse of the first is a step
  module _ (u w : ℕ) (F : First m o z (book_of a) u w) (y : Thinning G C E Z o) where
    stepped_follows : (cost : C) → Follows m o x (Collapse u w) (Collapsed cost) y → Follows m o x Step (Stepped u w cost) y
    stepped_follows cost W = record { entry = stepped (book_of a) (book_of y.mesh) u w cost F W.entry; fixed = W.fixed; tied = W.tied }

    -- and is not refused
    not_refused : (why : Refusal) → Follows m o x (Collapse u w) (Refuses why) y → ⊥
    not_refused why W = refused_not (book_of a) (book_of y.mesh) u w why F.permitted W.entry

    pub stepped_ok : (r : Result C CollapseRefusal) (cost : C) → Some cost ≡ result_ok r → Follows m o x (Collapse u w) (collapse_answer r) y → Follows m o x Step (Stepped u w cost) y
    stepped_ok (Ok k) cost i W = let j : k ≡ cost = cc in stepped_follows cost (subst (λ d. Follows m o x (Collapse u w) (Collapsed d) y) j W)
    stepped_ok (Err e) cost i W = absurd (cc i)

    pub step_done : (r : Result C CollapseRefusal) → None ≡ result_ok r → Follows m o x (Collapse u w) (collapse_answer r) y → ⊥
    step_done (Ok k) i W = cc i
    step_done (Err e) i W = not_refused (refusal_of e) W

  -- where none is permitted, a step is refused
  pub none_follows : NonePermittedNow (book_of a) → Follows m o x Step (Refuses NonePermitted) x
  none_follows N = record { entry = none_permitted N; fixed = refl; tied = ready_tied }

-- what follows from an equal mesh and gauge
pub start_same : {G C E Z : Type 0} (m : Ghosts G C E Z) (o : Order C) (x y : Thinning G C E Z o) → y.mesh ≡ x.mesh → y.gauge ≡ x.gauge →
    {c : Call} {r : Answer C} {z : Thinning G C E Z o} → Follows m o y c r z → Follows m o x c r z
start_same {G = G} m o x y i j {c} {r} {z} W =
    record { entry = subst₂ (λ (a : Mesh) (g : G). Entry m o (m.setting g) (book_of a) c r (book_of z.mesh)) i j W.entry; fixed = W.fixed ∙ ap m.setting j; tied = W.tied }

-- keys mended near all marks are right
module _ {G C E Z : Type 0} (m : Ghosts G C E Z) (o : Order C) (a : Mesh) (g : G) (p q r : Queue C o) (s : Stale) (K : Tied m o (thinning a g p s)) (acc : Accounted m a g) where
  abbrev Drains : Marks → Bool → Queue C o → Queue C o → Type 0
  Drains marks how x y = Accounted m a g × Fit m a g how (keys_of x) → MendedNow m a g (NearMark (surface a) marks) (keys_of x) (keys_of y)

  module _ (one : Drains (repriced s) false p q) where
    M : MendedNow m a g (NearMark (surface a) (repriced s)) (keys_of p) (keys_of q)
    M = one (acc, tt)

    -- after those that are to be priced again: right, or with no key and to be opened again
    after_one : (h : ℕ) → h < 3 * vec_len a.edges.triangles → KeyNow m a g h (get_or (keys_of q) h None) ⊎ ((get_or (keys_of q) h None ≡ None) × NearMark (surface a) (reopened s) h)
    after_one h l =
        elim (M.either h) [
          | inl k ↦ inl k
          | inr i ↦ elim (keyed_or m (surface a) (points a) (m.setting g) (m.account g) (repriced s) (reopened s) (vec_len a.edges.triangles) (keys_of p) K.keyed h l) [
            | inl k ↦ inl (subst (KeyNow m a g h) (sym i) k)
            | inr (inl n) ↦ inl (M.right h (let x = K.long in let y = M.long in omega arith) n)
            | inr (inr (j, n)) ↦ inr (i ∙ j, n)
          ]
        ]

    priced : AllPriced m a g (keys_of q)
    priced h k i =
        let x = K.long in
        let y = M.long in
        let l = held_within (keys_of q) h k i in
        elim (after_one h (omega arith)) [ inl w ↦ subst (KeyNow m a g h) i w | inr (j, n) ↦ absurd (both_ways false refl (sym (ap is_some (sym i ∙ j)))) ]

    pub cleared : Drains (reopened s) true q r → Ready m o a g r
    cleared two =
        let N = two (acc, priced) in
        let x = K.long in
        let y = M.long in
        let z = N.long in
        record {
          account = K.account;
          long = omega arith;
          keyed = λ h l.
              elim (N.either h) [
                | inl k ↦ k
                | inr i ↦ elim (after_one h l) [ inl k ↦ subst (KeyNow m a g h) (sym i) k | inr (j, n) ↦ N.right h (omega arith) n ]
              ];
        }
