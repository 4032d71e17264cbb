-- All stays tied along a collapse and its undoing.
use Rattle.std.proofs.Common.{Bool, ◌≡◌, ℕ, ◌/◌, ◌<◌, true, List, length, get_or, Ok, Err, vec_items, vec_len, Option, Result, sym, ap, ◌∙◌, subst, inl, inr, arith, MatchResult}
use Rattle.surface.specs.Surface.{Surface, Side}
use Rattle.surface.specs.Geometry.{Vector}
use Rattle.gathering.specs.Model.{point_of}
use Rattle.mesh.specs.Model.{surface, points}
use Rattle.mesh.specs.Moves.{SameOpening}
use Rattle.mesh.specs.declared.mesh.Mesh.{Mesh}
use Rattle.order.specs.declared.Ordered.{Ghosts as Order}
use Rattle.queue.specs.Meaning.{keys_of}
use Rattle.queue.specs.declared.Queue.{Queue}
use Rattle.queue.specs.declared.keys.Key.{Key}
use Rattle.gauge.specs.Accounts.{changed, TwoOf, NotTwoOf}
use Rattle.gauge.specs.Near.{Placed}
use Rattle.gauge.specs.declared.Gauge.{Ghosts}
use Rattle.gauge.specs.declared.NoPair.{NoPair}
use Rattle.ledger.specs.Book.{account_now}
use Rattle.ledger.proofs.Accounts.{account_long, parted_back}
use Rattle.opened_surface.specs.Mending.{Accounted, MendedNow}
use Rattle.opened_surface.specs.Stale.{Covered, Grown, Sized, repriced, reopened}
use Rattle.opened_surface.proofs.Cases.{KeyedOr, keyed_but, keyed_or}
use Rattle.opened_surface.specs.declared.stale.Stale.{Stale}
use Rattle.opened_surface.specs.Tied.{book_of, Tied, Joined}
use Rattle.opened_surface.specs.declared.thinning.Thinning.{Thinning}
use Rattle.opened_surface.proofs.Books.{sensible}
use Rattle.opened_surface.proofs.OnMeshes.{all_below, collapse_keyed, undo_keyed}
use Rattle.opened_surface.proofs.StillRight.{SameBut, changed_but, but_changed}

-- a change of the account by op, of two vertices, that answers
abbrev pub Changes : {G E : Type 0} → (G → List E) → (E → E → E) → E → ℕ → ℕ → G → Result Unit NoPair → G → Type 0
Changes account op blank u w g r h =
    MatchResult r (λ _. TwoOf (length (account g)) u w × (account h ≡ changed op blank u w (account g))) (λ _. NotTwoOf (length (account g)) u w × (h ≡ g))

-- of two vertices it is done
pub done : {G E : Type 0} (account : G → List E) (op : E → E → E) (blank : E) (u w n : ℕ) (g : G) (r : Result Unit NoPair) (h : G) →
    Changes account op blank u w g r h → length (account g) ≡ n → TwoOf n u w → account h ≡ changed op blank u w (account g)
done account op blank u w n g (Ok _) h (t, i) long two = i
done account op blank u w n g (Err _) h (t, i) long (d, p, q) = absurd (elim t [ inl j ↦ d j | inr (inl j) ↦ omega arith | inr (inr j) ↦ omega arith ])

-- meshes of one opening have as many triangles
pub same_many : (a b : Mesh) → SameOpening a b → vec_len b.edges.triangles ≡ vec_len a.edges.triangles
same_many a b S =
    let p = ap length S.opened_same in
    let q = a.opened.ok.0 in
    let r = b.opened.ok.0 in
    let s = a.corners_long in
    let t = b.corners_long in
    let u = a.edges.threes in
    let v = b.edges.threes in
    omega arith

-- meshes of one opening have as many vertices
sized_there : (a b : Mesh) (s : Stale) → SameOpening a b → Sized a s → Sized b s
sized_there a b s S (i, j) = (i ∙ sym (ap length S.positions_same), j ∙ sym (ap length S.positions_same))

-- keys that are right but near the marks of s are so near the marks of t, which has more
grown_keyed : {G C E Z : Type 0} (m : Ghosts G C E Z) (S : Surface) (P : ℕ → Vector) (z : Z) (acc : List E) (s t : Stale) → Grown s t → (T : ℕ) (keys : List (Option (Key C))) →
    KeyedOr m S P z acc (repriced s) (reopened s) T keys → KeyedOr m S P z acc (repriced t) (reopened t) T keys
grown_keyed m S P z acc s t G T keys K h l =
    elim (K h l) [
      | inl k ↦ inl k
      | inr (inl (v, p)) ↦ inr (inl (v, elim p [ inl x ↦ inl (G.price_kept _ x) | inr x ↦ inr (G.price_kept _ x) ]))
      | inr (inr (i, (v, p))) ↦ inr (inr (i, (v, elim p [ inl x ↦ inl (G.open_kept _ x) | inr x ↦ inr (G.open_kept _ x) ])))
    ]

-- the parts put together
abbrev pub thinning : {G C E Z : Type 0} {o : Order C} → Mesh → G → Queue C o → Stale → Thinning G C E Z o
thinning a g q s = record { mesh = a; gauge = g; queue = q; stale = s }

-- more may be stale
pub tied_grown : {G C E Z : Type 0} (m : Ghosts G C E Z) (o : Order C) (x : Thinning G C E Z o) (t : Stale) → Grown x.stale t → Tied m o x → Tied m o (thinning x.mesh x.gauge x.queue t)
tied_grown m o x t grown K =
    record {
      account = K.account;
      long = K.long;
      keyed =
          keyed_but m (surface x.mesh) (points x.mesh) (m.setting x.gauge) (m.account x.gauge) (repriced t) (reopened t) (vec_len x.mesh.edges.triangles) (keys_of x.queue)
          (grown_keyed m (surface x.mesh) (points x.mesh) (m.setting x.gauge) (m.account x.gauge) x.stale t grown (vec_len x.mesh.edges.triangles) (keys_of x.queue)
          (keyed_or m (surface x.mesh) (points x.mesh) (m.setting x.gauge) (m.account x.gauge) (repriced x.stale) (reopened x.stale) (vec_len x.mesh.edges.triangles) (keys_of x.queue) K.keyed));
      sized = (grown.price_long ∙ K.sized.0, grown.open_long ∙ K.sized.1);
    }

module _ {G C E Z : Type 0} (m : Ghosts G C E Z) (o : Order C)
    (long : (s : Z) (X : Surface) (P : ℕ → Vector) (n : ℕ) → length (m.opening s X P n) ≡ n)
    (begun : (s : Z) (X : Surface) (P : ℕ → Vector) (n k : ℕ) → k < n → m.sound (get_or (m.opening s X P n) k m.blank))
    (grows : (s : Z) (x y : E) → m.sound x → m.sound y → m.sound (m.merged s x y))
    (back : (s : Z) (x y : E) → m.sound x → m.sound y → m.parted s x (m.merged s x y) ≡ y) where
  -- where the account is that of the book, it has an entry for each vertex
  pub accounted_by : (mesh : Mesh) (g : G) → m.account g ≡ account_now m (m.setting g) (book_of mesh) → Accounted m mesh g
  accounted_by mesh g i = ap length i ∙ account_long m long begun grows back (m.setting g) (book_of mesh) mesh.position

  module _ (blind : Bool) (unseen : blind ≡ true → (s : Z) (u w : ℕ) (x y : E) (p q : Vector) (n k : ℕ → Option Placed) → m.price s u w x y p q n ≡ m.price s u w x y p q k) where
    -- after a collapse; s has what it asks for
    module _ (a b : Mesh) (g h : G) (p q r : Queue C o) (s : Stale) (u w e f : ℕ) (J : Joined m a u w e f b) (cover : Covered blind (surface a) u w (repriced s) (reopened s)) (K : Tied m o (thinning a g p s))
        (fixed : m.setting h ≡ m.setting g) (R : Result Unit NoPair) (M : Changes m.account (m.merged (m.setting g)) m.blank u w g R h) where
      merged_is : m.account h ≡ changed (m.merged (m.setting g)) m.blank u w (m.account g)
      merged_is = done m.account (m.merged (m.setting g)) m.blank u w (length (vec_items a.positions)) g R h M (accounted_by a g K.account) J.two

      now_account : m.account h ≡ account_now m (m.setting h) (book_of b)
      now_account =
          merged_is ∙ ap (changed (m.merged (m.setting g)) m.blank u w) K.account ∙ sym (J.account_next (m.setting g)) ∙ ap (λ z. account_now m z (book_of b)) (sym fixed)

      but : SameBut m.blank w (m.account g) (m.account h)
      but = subst (SameBut m.blank w (m.account g)) (sym merged_is) (changed_but (m.merged (m.setting g)) m.blank u w (m.account g))

      abbrev Mends : ℕ → Queue C o → Queue C o → Type 0
      Mends t x y = Accounted m b h → MendedNow m b h (λ i. i / 3 ≡ t) (keys_of x) (keys_of y)

      pub join_tied : Mends (e / 3) p q → Mends (f / 3) q r → Tied m o (thinning b h r s)
      join_tied y z =
          let A = accounted_by b h now_account in
          let many = same_many a b J.opening_same in
          let j = (y A).long in
          let k = (z A).long in
          let l = K.long in
          let T = vec_len a.edges.triangles in
          let keyed =
          collapse_keyed m blind unseen a b g h u w J.surface_next (ap point_of J.opening_same.positions_same) fixed but (repriced s) (reopened s) cover T (all_below a.edges)
          (keys_of p) (keys_of q) (keys_of r) (omega arith) J.astride.there.1 J.astride.back.1
          (keyed_or m (surface a) (points a) (m.setting g) (m.account g) (repriced s) (reopened s) T (keys_of p) K.keyed) (y A) (z A) in
          record {
            account = now_account;
            long = omega arith;
            keyed = keyed_but m (surface b) (points b) (m.setting h) (m.account h) (repriced s) (reopened s) (vec_len b.edges.triangles) (keys_of r)
                (subst (λ t. KeyedOr m (surface b) (points b) (m.setting h) (m.account h) (repriced s) (reopened s) t (keys_of r)) (sym many) keyed);
            sized = sized_there a b s J.opening_same K.sized;
          }

    -- and after it was taken back; g is the gauge then, and h the one before that
    module _ (a b : Mesh) (g h : G) (p : Queue C o) (s t : Stale) (u w e f : ℕ) (J : Joined m a u w e f b) (grown : Grown s t) (K : Tied m o (thinning b h p s))
        (fixed : m.setting g ≡ m.setting h) (R : Result Unit NoPair) (M : Changes m.account (m.parted (m.setting h)) m.blank u w h R g) where
      parted_is : m.account g ≡ changed (m.parted (m.setting h)) m.blank u w (m.account h)
      parted_is =
          done m.account (m.parted (m.setting h)) m.blank u w (length (vec_items a.positions)) h R g M
          (accounted_by b h K.account ∙ ap length J.opening_same.positions_same) J.two

      back_account : m.account g ≡ account_now m (m.setting g) (book_of a)
      back_account =
          let s = m.setting h in
          parted_is
          ∙ ap (changed (m.parted s) m.blank u w) (K.account ∙ J.account_next s)
          ∙ parted_back m long begun grows back s (book_of a) (sensible a) a.position u w (sensible a).placed J.two
          ∙ ap (λ z. account_now m z (book_of a)) (sym fixed)

      but_back : SameBut m.blank w (m.account g) (m.account h)
      but_back = subst (λ xs. SameBut m.blank w xs (m.account h)) (sym parted_is) (but_changed (m.parted (m.setting h)) m.blank u w (m.account h))

      side : Side (surface a) u w
      side = (e, J.astride.there.0, J.astride.there.1)

      sized : Sized a s
      sized = (K.sized.0 ∙ ap length J.opening_same.positions_same, K.sized.1 ∙ ap length J.opening_same.positions_same)

      pub part_tied : (Sized a s → Side (surface a) u w → Covered blind (surface a) u w (repriced t) (reopened t)) → Tied m o (thinning a g p t)
      part_tied covers =
          let many = same_many a b J.opening_same in
          let l = K.long in
          let T = vec_len a.edges.triangles in
          let keyed = subst (λ n. KeyedOr m (surface b) (points b) (m.setting h) (m.account h) (repriced s) (reopened s) n (keys_of p)) many
          (keyed_or m (surface b) (points b) (m.setting h) (m.account h) (repriced s) (reopened s) (vec_len b.edges.triangles) (keys_of p) K.keyed) in
          record {
            account = back_account;
            long = omega arith;
            keyed =
                keyed_but m (surface a) (points a) (m.setting g) (m.account g) (repriced t) (reopened t) T (keys_of p)
                (undo_keyed m blind unseen a b g h u w J.surface_next (ap point_of J.opening_same.positions_same) (sym fixed) but_back (repriced t) (reopened t) (covers sized side) T (all_below a.edges)
                (keys_of p) (omega arith) side (grown_keyed m (surface b) (points b) (m.setting h) (m.account h) s t grown T (keys_of p) keyed));
            sized = (grown.price_long ∙ sized.0, grown.open_long ∙ sized.1);
          }
