-- A closed surface by rings is one by ways round.
use Rattle.std.proofs.Common.{◌≡◌, ℕ, zero, suc, ◌-◌, ◌<◌, ◌≤◌, ◌⊎◌, List, length, get_or, sym, refl, ◌∙◌, subst, inl, inr, arith}
use native.Mathlib.Decide.{ℕ_discrete, dec_lt}
use Rattle.surface.specs.Surface.{Surface, next, Tri}
use Rattle.surface.specs.Ring.{Turn, Ring}
use Rattle.surface.specs.Closed.{Closed}
use Rattle.surface.proofs.Tris.{spin, moved, same_third}
use Rattle.surface.proofs.Sealed.{Round, here, turn, then, Sealed}

turn_by : {S : Surface} {v h g k : ℕ} → Turn S v h g → Round S v g k → Round S v h k
turn_by (a, b, c, s, t) r = turn s t r

module _ {S : Surface} (R : Closed S) where
  turn_one : {v h g k : ℕ} → Turn S v h g → Turn S v h k → g ≡ k
  turn_one (a, b, c, s, t) (a', b', c', s', t') = R.single _ _ _ _ _ _ t (moved refl (same_third s' s) refl t')

  module _ {v : ℕ} {l : List ℕ} (G : Ring S v l) where
    upto : (i j : ℕ) → i ≤ j → j < length l → Round S v (get_or l i 0) (get_or l j 0)
    upto i zero p q = let z : i ≡ 0 = omega arith in rw z here
    upto i (suc j) p q = go (ℕ_discrete i (suc j)) (λ k. upto i j k (omega arith))
      where
        go : Dec (i ≡ suc j) → (i ≤ j → Round S v (get_or l i 0) (get_or l j 0)) → Round S v (get_or l i 0) (get_or l (suc j) 0)
        go (yes k) f = rw k here
        go (no k) f = then (f (omega arith)) (turn_by (G.turns j q) here)

    round_all : (i j : ℕ) → i < length l → j < length l → Round S v (get_or l i 0) (get_or l j 0)
    round_all i j p q = then (upto i (length l - 1) (omega arith) (omega (arith, G.three))) (turn_by G.closing (upto 0 j (omega arith) q))

    -- the place after place i
    after : (i : ℕ) → i < length l → (j : ℕ) × (j < length l) × Turn S v (get_or l i 0) (get_or l j 0) × ((j ≡ suc i) ⊎ ((suc i ≡ length l) × (j ≡ 0)))
    after i p = go (dec_lt (suc i) (length l))
      where
        go : Dec (suc i < length l) → (j : ℕ) × (j < length l) × Turn S v (get_or l i 0) (get_or l j 0) × ((j ≡ suc i) ⊎ ((suc i ≡ length l) × (j ≡ 0)))
        go (yes q) = (suc i, q, G.turns i q, inl refl)
        go (no q) =
            let k : i ≡ length l - 1 = omega arith in
            (0, omega arith, subst (λ n. Turn S v (get_or l n 0) (get_or l 0 0)) (sym k) G.closing, inr (omega arith, refl))

    no_two : {h g : ℕ} → Turn S v h g → Turn S v g h → ⊥
    no_two {h} {g} s t =
        let (a, b, c, th, tg) = s in
        let (i, p, x) = G.full h a b th in
        let (j, q, m, o) = after i p in
        let (k, r, n, o') = after j q in
        let y : get_or l j 0 ≡ g = turn_one (subst (λ z. Turn S v z (get_or l j 0)) x m) s in
        let z : get_or l k 0 ≡ h = turn_one (subst (λ z. Turn S v z (get_or l k 0)) y n) t in
        let e : k ≡ i = G.distinct k i r p (z ∙ sym x) in
        omega (arith, G.three, o, o')

  pub sealed : Sealed S
  sealed =
      record {
        proper = λ {h} {a} {b} {c} t. R.proper h a b c t;
        single = λ {h} {g} {a} {b} {c} {d} s t. R.single h g a b c d s t;
        matched = λ {h} {a} {b} {c} t. R.matched h a b c t;
        apart = λ {h} {g} {a} {b} {c} {d} s t i.
            let (l, G) = R.ring a (R.known _ _ _ _ s) in
            let n : Tri S (next g) a c b = moved refl (sym i) refl (spin t) in
            no_two G (b, c, b, s, n) (c, b, c, n, s);
        ring = λ {h} {g} {v} {a} {b} {c} {d} s t.
            let (l, G) = R.ring v (R.known _ _ _ _ s) in
            let (i, p, x) = G.full h a b s in
            let (j, q, y) = G.full g c d t in
            subst (λ n. Round S v n g) x (subst (λ n. Round S v (get_or l i 0) n) y (round_all G i j p q));
        used = λ {v} p.
            let (l, G) = R.ring v p in
            let (a, b, c, s, t) = G.closing in
            (b, (get_or l 0 0, c, t));
        known = λ {h} {a} {b} {c} t. R.known h a b c t;
      }
