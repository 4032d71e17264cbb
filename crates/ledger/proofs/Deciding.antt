-- Of a closed surface within bounds it can be told whether a collapse is permitted, and which rule it breaks.
use Rattle.std.proofs.Common.{◌≡◌, ℕ, ◌+◌, ◌*◌, ◌/◌, ◌<◌, Bool, true, false, not, T as Is, ◌⊎◌, ℤ, pos, ◌≤ℤ◌, ◌<ℤ◌, arith}
use native.Mathlib.Decide.{ℕ_discrete, map_dec}
use lib.Signed.{lt_z, lt_z_yes, lt_z_no, clash_ℤ}
use Rattle.surface.specs.Surface.{Surface, prev, next, Tri, Side, Within}
use Rattle.surface.specs.Closed.{Closed}
use Rattle.surface.specs.Collapse.{collapse, Holds, Moved}
use Rattle.surface.specs.Euler.{leads}
use Rattle.surface.specs.Geometry.{Vector, dot, normal_at}
use Rattle.surface.specs.Permitted.{Upright, Permitted, Three, HasThree, Link}
use Rattle.surface.proofs.LocalTest.{local_test}
use Rattle.surface.proofs.Sides.{leads_tri, tri_leads}
use Rattle.surface.proofs.Tris.{spin}
use Rattle.ledger.specs.Book.{surface_now}
use Rattle.ledger.specs.Folded.{Folded}
use Rattle.ledger.specs.Laws.{FoldsInWords}
use Rattle.ledger.proofs.Preserves.{closed_at, within_at}
use Rattle.ledger.proofs.Finite.{flag?, told?, both?, either?, then?, not?, all?, some?}

above? : (z : ℤ) → Dec (pos 0 <ℤ z)
above? z = map_dec lt_z_yes (λ h. h.lt) (told? (lt_z (pos 0) z))

is_not : (x : Bool) → (Is x → ⊥) → Is (not x)
is_not true n = absurd (n tt)
is_not false n = tt

not_above : (z : ℤ) → (pos 0 <ℤ z → ⊥) → z ≤ℤ pos 0
not_above z n = lt_z_no (is_not (lt_z (pos 0) z) (λ t. n (lt_z_yes t)))

module _ (S : Surface) (C : Closed S) (T V : ℕ) (W : Within S T V) where
  pub low : {h a b c : ℕ} → Tri S h a b c → h < 3 * T
  low {h} t = let p : h / 3 < T = W.triangles (h / 3) t.lives in omega arith

  end_low : (v n : ℕ) → Side S v n → n < V
  end_low v n (h, c, t) = W.vertices n (C.known (next h) n c v (spin t))

  pub side? : (a b : ℕ) → Dec (Side S a b)
  side? a b =
      map_dec (λ (h, l, p). (h, S.corner (prev h), leads_tri S a b h p)) (λ (h, c, t). (h, low t, tri_leads S t))
      (some? (λ h. leads S a b h ≡ true) (λ h. flag? (leads S a b h)) (3 * T))

  -- what is asked of the neighbours of v
  around? : (v : ℕ) (P : ℕ → Type 0) → ((n : ℕ) → Dec (P n)) → Dec ((n : ℕ) → Side S v n → P n)
  around? v P d = map_dec (λ f n e. f n (end_low v n e) e) (λ f n l e. f n e) (all? (λ n. Side S v n → P n) (λ n. then? (side? v n) (d n)) V)

  three? : (v x y z : ℕ) → Dec (Three S v x y z)
  three? v x y z =
      map_dec
      (λ (i, (j, (k, ((p, (q, r)), o)))). record { first = i; second = j; third = k; apart = (p, q, r); only = o })
      (λ t. (t.first, (t.second, (t.third, ((t.apart.0, (t.apart.1, t.apart.2)), t.only)))))
      (both? (side? v x) (both? (side? v y) (both? (side? v z) (both?
      (both? (not? (ℕ_discrete x y)) (both? (not? (ℕ_discrete y z)) (not? (ℕ_discrete z x))))
      (around? v (λ n. (n ≡ x) ⊎ ((n ≡ y) ⊎ (n ≡ z))) (λ n. either? (ℕ_discrete n x) (either? (ℕ_discrete n y) (ℕ_discrete n z))))))))

  has_three? : (v : ℕ) → Dec (HasThree S v)
  has_three? v =
      map_dec
      (λ (x, k, (y, l, (z, n, t))). (x, y, z, t))
      (λ (x, y, z, t). (x, end_low v x t.first, (y, end_low v y t.second, (z, end_low v z t.third, t))))
      (some? _ (λ x. some? _ (λ y. some? _ (λ z. three? v x y z) V) V) V)

  link? : (u w a b : ℕ) → Dec (Link S u w a b)
  link? u w a b =
      map_dec (λ (c, l). record { common = c; large = l }) (λ k. (k.common, k.large))
      (both? (around? u (λ c. Side S w c → (c ≡ a) ⊎ (c ≡ b)) (λ c. then? (side? w c) (either? (ℕ_discrete c a) (ℕ_discrete c b))))
      (then? (has_three? u) (not? (has_three? w))))

  pub closed? : (u w : ℕ) → Side S u w → Dec (Closed (collapse S u w))
  closed? u w (e, a, te) =
      let (f, b, tf) = C.matched e u w a te in
      let t = local_test S C e f u w a b te tf in
      map_dec t.1 t.0 (link? u w a b)

  holds? : (t v : ℕ) → Dec (Holds S t v)
  holds? t v = either? (ℕ_discrete (S.corner (3 * t)) v) (either? (ℕ_discrete (S.corner (3 * t + 1)) v) (ℕ_discrete (S.corner (3 * t + 2)) v))

  moved? : (u w t : ℕ) → Dec (Moved S u w t)
  moved? u w t =
      map_dec (λ (l, (h, f)). record { lives = l; held = h; free = f }) (λ m. (m.lives, (m.held, m.free)))
      (both? (flag? (S.alive t)) (both? (holds? t u) (not? (holds? t w))))

  pub upright? : (P : ℕ → Vector) (u w : ℕ) → Dec (Upright S P u w)
  upright? P u w =
      map_dec (λ f t m. f t (W.triangles t m.lives) m) (λ f t l m. f t m)
      (all? (λ t. Moved S u w t → pos 0 <ℤ dot (normal_at S P t) (normal_at (collapse S u w) P t)) (λ t. then? (moved? u w t) (above? _)) T)

  pub permitted? : (P : ℕ → Vector) (u w : ℕ) → Dec (Permitted S P u w)
  permitted? P u w = from_side (side? u w)
    where
      from_closed : Side S u w → Dec (Closed (collapse S u w)) → Dec (Upright S P u w) → Dec (Permitted S P u w)
      from_closed e (no n) d = no (λ p. n p.closed)
      from_closed e (yes c) (no n) = no (λ p. n p.upright)
      from_closed e (yes c) (yes k) = yes (record { side = e; closed = c; upright = k })

      from_side : Dec (Side S u w) → Dec (Permitted S P u w)
      from_side (no n) = no (λ p. n p.side)
      from_side (yes e) = from_closed e (closed? u w e) (upright? P u w)

  folded : (P : ℕ → Vector) (u w : ℕ) → (Upright S P u w → ⊥) → Folded S P u w
  folded P u w n = go (some? (λ t. Moved S u w t × (pos 0 <ℤ side t → ⊥)) (λ t. both? (moved? u w t) (not? (above? (side t)))) T)
    where
      side : ℕ → ℤ
      side t = dot (normal_at S P t) (normal_at (collapse S u w) P t)

      stays : (t : ℕ) → (Moved S u w t → (pos 0 <ℤ side t → ⊥) → ⊥) → Moved S u w t → Dec (pos 0 <ℤ side t) → pos 0 <ℤ side t
      stays t f m (yes p) = p
      stays t f m (no q) = absurd (f m q)

      go : Dec ((t : ℕ) × (t < T) × (Moved S u w t × (pos 0 <ℤ side t → ⊥))) → Folded S P u w
      go (yes (t, l, (m, q))) = (t, m, not_above (side t) q)
      go (no f) = absurd (n (λ t m. stays t (λ k q. f (t, W.triangles t k.lives, (k, q))) m (above? (side t))))

pub folds_in_words : FoldsInWords
folds_in_words b u w K = (
  folded (surface_now b) (closed_at b K b.position K.placed) b.triangles b.vertices (within_at b K b.position) b.points u w,
  λ (t, m, l) k. clash_ℤ (k t m) l,
)
