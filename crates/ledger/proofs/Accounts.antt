-- The accounts along a log.
use Rattle.std.proofs.Common.{◌≡◌, ℕ, zero, suc, ◌<◌, ◌≤◌, length, get_or, set, sym, refl, ap, ◌∙◌, add-one, arith, length-set, get_or-set_other, get_or-set_same, set-set}
use native.Mathlib.Decide.{ℕ_discrete}
use lib.Seq.{set-get_or}
use Rattle.surface.specs.Surface.{Surface, next}
use Rattle.surface.specs.Collapse.{collapse}
use Rattle.surface.specs.Geometry.{Vector}
use Rattle.surface.specs.Permitted.{Permitted}
use Rattle.surface.proofs.Found.{permitted_found}
use Rattle.surface.proofs.Tris.{spin}
use Rattle.mesh.specs.Stages.{stage, record_at}
use Rattle.mesh.specs.declared.record.Record.{Record}
use Rattle.mesh.proofs.Moving.{same_stage, cut_below, cut_at}
use Rattle.gauge.specs.Accounts.{changed, TwoOf}
use Rattle.gauge.specs.declared.Gauge.{Ghosts}
use Rattle.ledger.specs.Book.{Book, surface_at, surface_now, PermittedNow, account_at, account_now, Sensible}
use Rattle.ledger.specs.Ledger.{noted, placed_at}
use Rattle.ledger.specs.Followed.{Followed}
use Rattle.ledger.proofs.Preserves.{closed_at, within_at}

-- one more record
pub surface_more : (b : Book) (k : ℕ) → surface_at b (suc k) ≡ collapse (surface_at b k) (record_at b.log k).u (record_at b.log k).w
unfolding stage
surface_more b k = refl

module _ {G C E S : Type 0} (m : Ghosts G C E S) (s : S) where
  pub account_more : (b : Book) (k : ℕ) → account_at m s b (suc k) ≡ changed (m.merged s) m.blank (record_at b.log k).u (record_at b.log k).w (account_at m s b k)
  unfolding account_at
  account_more b k = refl

  -- an account rests on the opening and the records before it alone
  pub account_same : (b d : Book) → d.opened ≡ b.opened → d.points ≡ b.points → d.vertices ≡ b.vertices →
      (k : ℕ) → ((i : ℕ) → i < k → record_at d.log i ≡ record_at b.log i) → account_at m s d k ≡ account_at m s b k
  unfolding account_at
  account_same b d p q r zero agree = cc
  account_same b d p q r (suc k) agree =
      let e : account_at m s d k ≡ account_at m s b k = account_same b d p q r k (λ i l. agree i (omega arith)) in
      let f : record_at d.log k ≡ record_at b.log k = agree k (omega arith) in
      rw (e, f)

  module _ (b : Book) (u w : ℕ) (placed : b.position ≤ length b.log) where
    abbrev r : Record
    r = record { u = u; w = w }

    kept_below : (i : ℕ) → i < b.position → record_at (noted b u w).log i ≡ record_at b.log i
    kept_below i l = sym (cut_below b.log b.position r placed i l)

    pub surface_back : surface_now (placed_at (noted b u w) b.position) ≡ surface_now b
    surface_back = sym (same_stage b.opened b.log (noted b u w).log b.position (cut_below b.log b.position r placed) b.position (omega arith))

    pub account_back : account_now m s (placed_at (noted b u w) b.position) ≡ account_now m s b
    account_back = account_same b (placed_at (noted b u w) b.position) refl refl refl b.position kept_below

    pub surface_next : surface_now (noted b u w) ≡ collapse (surface_now b) u w
    surface_next =
        let a : record_at (noted b u w).log b.position ≡ r = cut_at b.log b.position r placed in
        ap (surface_at (noted b u w)) (add-one b.position) ∙ surface_more (noted b u w) b.position ∙ rw (surface_back, a)

    pub account_next : account_now m s (noted b u w) ≡ changed (m.merged s) m.blank u w (account_now m s b)
    account_next =
        let a : record_at (noted b u w).log b.position ≡ r = cut_at b.log b.position r placed in
        let e : account_at m s (noted b u w) b.position ≡ account_now m s b = account_same b (noted b u w) refl refl refl b.position kept_below in
        ap (account_at m s (noted b u w)) (add-one b.position) ∙ account_more (noted b u w) b.position ∙ rw (e, a)

-- a permitted collapse names two of the opened vertices
pub two_of : (b : Book) (K : Sensible b) (k : ℕ) → k ≤ length b.log → (u w : ℕ) → Permitted (surface_at b k) b.points u w → TwoOf b.vertices u w
two_of b K k l u w p =
    let C = closed_at b K k l in
    let (h, c, t) = p.side in
    (C.proper h u w c t, (within_at b K k).vertices u (C.known h u w c t), (within_at b K k).vertices w (C.known (next h) w c u (spin t)))

module _ {G C E S : Type 0} (m : Ghosts G C E S)
    (long : (s : S) (X : Surface) (P : ℕ → Vector) (n : ℕ) → length (m.opening s X P n) ≡ n)
    (begun : (s : S) (X : Surface) (P : ℕ → Vector) (n k : ℕ) → k < n → m.sound (get_or (m.opening s X P n) k m.blank))
    (grows : (s : S) (x y : E) → m.sound x → m.sound y → m.sound (m.merged s x y))
    (back : (s : S) (x y : E) → m.sound x → m.sound y → m.parted s x (m.merged s x y) ≡ y)
    (s : S) (b : Book) where
  -- there is one entry for each opened vertex
  pub account_long : (k : ℕ) → length (account_at m s b k) ≡ b.vertices
  unfolding account_at
  account_long zero = long s b.opened b.points b.vertices
  account_long (suc k) = simp length-set (account_long k)

  module _ (K : Sensible b) where
    two_at : (k : ℕ) → k < length b.log → TwoOf b.vertices (record_at b.log k).u (record_at b.log k).w
    two_at k l =
        two_of b K k (omega arith) (record_at b.log k).u (record_at b.log k).w
        (permitted_found (surface_at b k) (closed_at b K k (omega arith)) b.points (record_at b.log k).u (record_at b.log k).w (K.permitted k l))

    pub account_sound : (k : ℕ) → k ≤ length b.log → (i : ℕ) → i < b.vertices → m.sound (get_or (account_at m s b k) i m.blank)
    unfolding account_at
    account_sound zero l i j = begun s b.opened b.points b.vertices i j
    account_sound (suc k) l i j = go (ℕ_discrete i w) (account_sound k (omega arith))
      where
        u : ℕ
        u = (record_at b.log k).u

        w : ℕ
        w = (record_at b.log k).w

        go : Dec (i ≡ w) → ((i : ℕ) → i < b.vertices → m.sound (get_or (account_at m s b k) i m.blank)) → m.sound (get_or (changed (m.merged s) m.blank u w (account_at m s b k)) i m.blank)
        go (no n) f = rw (get_or-set_other (account_at m s b k) w i (m.merged s (get_or (account_at m s b k) u m.blank) (get_or (account_at m s b k) w m.blank)) m.blank n) (f i j)
        go (yes e) f =
            let (d, p, q) = two_at k (omega arith) in
            let a = account_long k in
            rw (e, get_or-set_same (account_at m s b k) w (m.merged s (get_or (account_at m s b k) u m.blank) (get_or (account_at m s b k) w m.blank)) m.blank (omega arith))
            (grows s (get_or (account_at m s b k) u m.blank) (get_or (account_at m s b k) w m.blank) (f u p) (f w q))

    -- parting two vertices that were merged gives the account back
    pub parted_back : (k u w : ℕ) → k ≤ length b.log → TwoOf b.vertices u w →
        changed (m.parted s) m.blank u w (changed (m.merged s) m.blank u w (account_at m s b k)) ≡ account_at m s b k
    parted_back k u w l (d, p, q) =
        let xs = account_at m s b k in
        let x = get_or xs u m.blank in
        let y = get_or xs w m.blank in
        let v = m.merged s x y in
        let a = account_long k in
        let same : get_or (set xs w v) w m.blank ≡ v = get_or-set_same xs w v m.blank (omega arith) in
        let other : get_or (set xs w v) u m.blank ≡ x = get_or-set_other xs w u v m.blank d in
        set-set xs w v (m.parted s (get_or (set xs w v) u m.blank) (get_or (set xs w v) w m.blank))
        ∙ ap (set xs w) (ap (λ e. m.parted s e (get_or (set xs w v) w m.blank)) other ∙ ap (m.parted s x) same ∙ back s x y (account_sound k l u p) (account_sound k l w q))
        ∙ set-get_or xs w m.blank

    pub followed : (u w : ℕ) → PermittedNow b u w → Followed m s b u w
    followed u w p =
        record {
          surface_next = surface_next m s b u w K.placed;
          account_next = account_next m s b u w K.placed;
          surface_back = surface_back m s b u w K.placed;
          account_back = account_back m s b u w K.placed;
          account_parted = rw (account_next m s b u w K.placed) (parted_back b.position u w K.placed (two_of b K b.position K.placed u w p));
        }
