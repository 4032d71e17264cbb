-- After a pinch that passes the local test, the third corners at a side differ.
use Rattle.std.proofs.Common.{◌≡◌, ℕ, ◌≢◌, ◌⊎◌, sym, refl, ap, ◌∙◌, inl, inr}
use Rattle.surface.specs.Surface.{Surface, next, prev, Tri}
use Rattle.surface.specs.Permitted.{HasThree, Link}
use Rattle.surface.proofs.Tris.{spin, spin2, moved, same_to, same_third, renumber}
use Rattle.surface.proofs.Sealed.{Round, here, turn, Sealed, one_third}
use Rattle.surface.proofs.Threes.{Only}
use Rattle.surface.proofs.Pinch.{Pinch, swap, w≢a, a≢b}
use Rattle.surface.proofs.Local.{common_swap, kept_ua, kept_aw, touch, single', Across, same, aw, ua, bu, wb, across}

pub link_swap : {S : Surface} {u w a b : ℕ} → Link S u w a b → Link S w u b a
link_swap A = record { common = common_swap A.common; large = λ p q. A.large q p }

-- three triangles round u: it has no other neighbours
data Cycle (x y z q r : ℕ) : Type 0 where
  c0 : q ≡ x → r ≡ y → Cycle x y z q r
  c1 : q ≡ y → r ≡ z → Cycle x y z q r
  c2 : q ≡ z → r ≡ x → Cycle x y z q r

module _ {S : Surface} (K : Sealed S) {u x y z i j k : ℕ} (ti : Tri S i u x y) (tj : Tri S j u y z) (tk : Tri S k u z x) where
  cycle_next : {h q r s : ℕ} → Cycle x y z q r → Tri S h u r s → Cycle x y z r s
  cycle_next (c0 p q) t = c1 q (one_third K (moved refl q refl t) tj)
  cycle_next (c1 p q) t = c2 q (one_third K (moved refl q refl t) tk)
  cycle_next (c2 p q) t = c0 q (one_third K (moved refl q refl t) ti)

  cycle_same : {q r q' r' : ℕ} → q ≡ q' → r ≡ r' → Cycle x y z q r → Cycle x y z q' r'
  cycle_same p q (c0 m n) = c0 (sym p ∙ m) (sym q ∙ n)
  cycle_same p q (c1 m n) = c1 (sym p ∙ m) (sym q ∙ n)
  cycle_same p q (c2 m n) = c2 (sym p ∙ m) (sym q ∙ n)

  cycle_round : {g h q r q' r' : ℕ} → Cycle x y z q r → Tri S g u q r → Round S u g h → Tri S h u q' r' → Cycle x y z q' r'
  cycle_round c t here s = cycle_same (same_to t s) (same_third t s) c
  cycle_round c t (turn t' n rest) s = cycle_round (cycle_next (cycle_same (same_to t t') (same_third t t') c) n) n rest s

  only_three : Only S u x y z
  only_three n (h, c, t) = elim (cycle_round (c0 refl refl) ti (K.ring ti t) t) [ c0 p q ↦ inl p | c1 p q ↦ inr (inl p) | c2 p q ↦ inr (inr p) ]

  pub has_three : HasThree S u
  has_three = (
    x,
    y,
    z,
    record {
      first = (i, y, ti);
      second = (j, z, tj);
      third = (k, x, tk);
      apart = (K.proper (spin ti), K.proper (spin tj), K.proper (spin tk));
      only = only_three;
    },
  )

module _ {S N : Surface} {φ : ℕ → ℕ} (K : Sealed S) where
  module _ {e f u w a b : ℕ} (P : Pinch S N φ e f u w a b) (A : Link S u w a b) where
    three : {h g : ℕ} → Tri S h a b u → Tri S g b a w → ⊥
    three th tg = A.large (has_three K P.te (spin2 th) (spin P.tf)) (has_three K P.tf (spin2 tg) (spin P.te))

    -- no triangles with u and with w at one side
    pinched : {h g p q : ℕ} → Tri S h p q u → Tri S g q p w → ⊥
    pinched {h} {g} {p} {q} th tg = go (A.common p (prev h, q, spin2 th) (K.matched (spin tg))) (A.common q (K.matched (spin th)) (prev g, p, spin2 tg))
      where
        go : (p ≡ a) ⊎ (p ≡ b) → (q ≡ a) ⊎ (q ≡ b) → ⊥
        go (inl i) (inl j) = K.proper th (i ∙ sym j)
        go (inl i) (inr j) = three (moved i j refl th) (moved j i refl tg)
        go (inr i) (inl j) = w≢a K P (sym (one_third K (moved refl i j (spin2 th)) (spin P.tf)))
        go (inr i) (inr j) = K.proper th (i ∙ sym j)

    facing : {h g r s : ℕ} → Tri S h a w r → Tri S g u a s → φ r ≢ φ s
    facing {h} {g} {r} {s} th tg m = go (P.J.split r s m)
      where
        go : (r ≡ s) ⊎ (((r ≡ u) × (s ≡ w)) ⊎ ((r ≡ w) × (s ≡ u))) → ⊥
        go (inl i) =
            elim (A.common r (K.matched (moved (sym i) refl refl (spin2 tg))) (next h, a, spin th)) [
              | inl j ↦ K.proper (spin2 th) j
              | inr j ↦ three (moved refl (sym i ∙ j) refl (spin tg)) (moved j refl refl (spin2 th))
            ]
        go (inr (inl (i, j))) = a≢b K P (one_third K (moved refl i refl (spin th)) P.tf)
        go (inr (inr (i, j))) = K.proper (spin th) (sym i)

    apart_aw : {h g p q r z : ℕ} → p ≡ a → q ≡ w → Tri S h p q r → Tri N g (φ q) (φ p) z → φ r ≢ z
    apart_aw i j th tg m =
        let (k, s, tk) = K.matched (spin2 P.te) in
        let nk = moved (touch K P refl j) (ap φ (sym i)) refl (P.I.up tk (kept_ua K P tk)) in
        facing (moved i j refl th) tk (m ∙ sym (same_third (renumber (single' K P A.common nk tg) nk) tg))

    apart_ua : {h g p q r z : ℕ} → p ≡ u → q ≡ a → Tri S h p q r → Tri N g (φ q) (φ p) z → φ r ≢ z
    apart_ua i j th tg m =
        let (k, s, tk) = K.matched (spin P.te) in
        let nk = moved (ap φ (sym j)) (sym (touch K P i refl)) refl (P.I.up tk (kept_aw K P tk)) in
        facing tk (moved i j refl th) (same_third (renumber (single' K P A.common nk tg) nk) tg ∙ sym m)

  pub apart' : {e f u w a b : ℕ} (P : Pinch S N φ e f u w a b) (A : Link S u w a b) {h g x y z z' : ℕ} → Tri N h x y z → Tri N g y x z' → z ≢ z'
  apart' {u = u} {w = w} P A {h} {g} {x} {y} {z} {z'} t s m =
      let (p, q, r, th, i, j, k) = P.I.down t in
      go th (moved (sym j) (sym i) refl s) (k ∙ m) (across K P th t.lives)
    where
      pair : {g₀ p q r s : ℕ} → Tri S h p q r → Tri S g₀ q p s → (r ≡ s) ⊎ (((r ≡ u) × (s ≡ w)) ⊎ ((r ≡ w) × (s ≡ u))) → ⊥
      pair th tg (inl i) = K.apart th tg i
      pair th tg (inr (inl (i, j))) = pinched P A (moved refl refl i th) (moved refl refl j tg)
      pair th tg (inr (inr (i, j))) = pinched P A (moved refl refl j tg) (moved refl refl i th)

      go : {p q r : ℕ} → Tri S h p q r → Tri N g (φ q) (φ p) z' → φ r ≡ z' → Across K P h p q r → ⊥
      go {p} {q} {r} th tg m (same g₀ s₀ tg₀ l) =
          let n = P.I.up tg₀ l in
          pair th tg₀ (P.J.split r s₀ (m ∙ sym (same_third (renumber (single' K P A.common n tg) n) tg)))
      go th tg m (aw i j) = apart_aw P A i j th tg m
      go th tg m (ua i j) = apart_ua P A i j th tg m
      go th tg m (bu i j) = apart_aw (swap P) (link_swap A) i j th tg m
      go th tg m (wb i j) = apart_ua (swap P) (link_swap A) i j th tg m
