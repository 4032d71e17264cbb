-- A test that a surface within bounds is closed. To each half-edge h a half-edge o h is given that should lie across.
use Rattle.std.proofs.Common.{◌≡◌, ℕ, zero, suc, ◌*◌, ◌/◌, Bool, true, not, ◌&&◌, ◌||◌, eqb, ◌≢◌, ◌⊎◌, sym, refl, ap, ◌∙◌, subst, inl, inr}
use Rattle.std.proofs.lemmas.Bool.{eqb-true, eqb-false, eq-eqb, or_cases, and_parts, not-true}
use Rattle.surface.specs.Surface.{Surface, next, prev, Tri, Side, Within}
use Rattle.surface.specs.Closed.{Closed}
use Rattle.surface.specs.Euler.{any}
use Rattle.surface.proofs.Counting.{any_at}
use Rattle.surface.proofs.Tris.{spin2}
use Rattle.surface.proofs.Sealed.{Round, here, turn, Sealed}
use Rattle.surface.proofs.ToRings.{closed}
use Rattle.examples.proofs.Every.{every, every_at, if_so}
use Rattle.examples.proofs.Sided.{along, along_at}

-- within n turns one comes from h to g
unfoldable pub walks : (ℕ → ℕ) → ℕ → ℕ → ℕ → Bool
walks o zero h g = eqb h g
walks o (suc n) h g = eqb h g || walks o n (o (prev h)) g

-- h is a proper side, met by o h, with another third corner, and its beginning is live
unfoldable pub side_fine : Surface → (ℕ → ℕ) → ℕ → Bool
side_fine S o h =
    not (eqb (S.corner h) (S.corner (next h)))
    && (S.alive (o h / 3)
    && (eqb (S.corner (o h)) (S.corner (next h))
    && (eqb (S.corner (next (o h))) (S.corner h)
    && (not (eqb (S.corner (prev h)) (S.corner (prev (o h))))
    && S.present (S.corner h)))))

-- where h and g begin at one vertex, n turns lead from h to g, and they are one or end at two vertices
unfoldable pub pair_fine : Surface → (ℕ → ℕ) → ℕ → ℕ → ℕ → Bool
pair_fine S o n h g = not (eqb (S.corner h) (S.corner g)) || (walks o n h g && (eqb h g || not (eqb (S.corner (next h)) (S.corner (next g)))))

-- a live half-edge begins at v
unfoldable pub used : Surface → ℕ → ℕ → Bool
used S T v = any (λ h. S.alive (h / 3) && eqb (S.corner h) v) (3 * T)

-- n being the most triangles at a vertex
unfoldable pub seals : Surface → (ℕ → ℕ) → ℕ → ℕ → ℕ → Bool
seals S o n T V = along S T (side_fine S o) && (along S T (λ h. along S T (pair_fine S o n h)) && every (λ v. not (S.present v) || used S T v) V)

record Fine (S : Surface) (o : ℕ → ℕ) (h : ℕ) : Type 0 where
  proper : S.corner h ≢ S.corner (next h)
  lives : S.alive (o h / 3) ≡ true
  from : S.corner (o h) ≡ S.corner (next h)
  to : S.corner (next (o h)) ≡ S.corner h
  apart : S.corner (prev h) ≢ S.corner (prev (o h))
  known : S.present (S.corner h) ≡ true

fine : (S : Surface) (o : ℕ → ℕ) (h : ℕ) → side_fine S o h ≡ true → Fine S o h
unfolding side_fine
fine S o h p =
    let (a, p1) = and_parts _ _ p in
    let (b, p2) = and_parts _ _ p1 in
    let (c, p3) = and_parts _ _ p2 in
    let (d, p4) = and_parts _ _ p3 in
    let (e, f) = and_parts _ _ p4 in
    record {
      proper = eqb-false _ _ (not-true _ a);
      lives = b;
      from = eqb-true _ _ c;
      to = eqb-true _ _ d;
      apart = eqb-false _ _ (not-true _ e);
      known = f;
    }

module _ (S : Surface) (o : ℕ → ℕ) (n T V : ℕ) (W : Within S T V) (ok : seals S o n T V ≡ true) where
  parts : (along S T (side_fine S o) ≡ true) × (along S T (λ h. along S T (pair_fine S o n h)) ≡ true) × (every (λ v. not (S.present v) || used S T v) V ≡ true)
  unfolding seals
  parts = let (a, p) = and_parts _ _ ok in let (b, c) = and_parts _ _ p in (a, b, c)

  side : {h a b c : ℕ} → Tri S h a b c → Fine S o h
  side {h} t = fine S o h (along_at S T V W (side_fine S o) parts.0 t)

  across : {h a b c : ℕ} → Tri S h a b c → (d : ℕ) × Tri S (o h) b a d
  across {h} t = let f = side t in (S.corner (prev (o h)), record { lives = f.lives; from = f.from ∙ t.to; to = f.to ∙ t.from; third = refl })

  walked : (k : ℕ) {h g v a b : ℕ} → Tri S h v a b → walks o k h g ≡ true → Round S v h g
  unfolding walks
  walked zero {h} {g} {v} t p = subst (λ x. Round S v h x) (eqb-true h g p) here
  walked (suc k) {h} {g} {v} {a} {b} t p = let (d, s) = across (spin2 t) in go (or_cases _ _ p) s (λ q. walked k s q)
    where
      go : {d : ℕ} → (eqb h g ≡ true) ⊎ (walks o k (o (prev h)) g ≡ true) → Tri S (o (prev h)) v b d → (walks o k (o (prev h)) g ≡ true → Round S v (o (prev h)) g) → Round S v h g
      go (inl i) s r = subst (λ x. Round S v h x) (eqb-true h g i) here
      go (inr i) s r = turn t s (r i)

  two_sides : {h g v a b c d : ℕ} → Tri S h v a b → Tri S g v c d → (walks o n h g ≡ true) × ((h ≡ g) ⊎ (a ≢ c))
  unfolding pair_fine
  two_sides {h} {g} {v} {a} {b} {c} {d} t s =
      let q = along_at S T V W (pair_fine S o n h) (along_at S T V W (λ h. along S T (pair_fine S o n h)) parts.1 t) s in
      let (x, y) = and_parts _ _ (if_so _ _ q (eq-eqb _ _ (t.from ∙ sym s.from))) in
      (x, elim (or_cases _ _ y) [ inl i ↦ inl (eqb-true h g i) | inr i ↦ inr (λ j. eqb-false _ _ (not-true _ i) (t.to ∙ j ∙ sym s.to)) ])

  single : {h g a b c d : ℕ} → Tri S h a b c → Tri S g a b d → h ≡ g
  single t s = elim (two_sides t s).1 [ inl i ↦ i | inr i ↦ absurd (i refl) ]

  begins : {v : ℕ} → S.present v ≡ true → (a : ℕ) × Side S v a
  unfolding used
  begins {v} p =
      let u = if_so (S.present v) (used S T v) (every_at (λ v. not (S.present v) || used S T v) V parts.2 v (W.vertices v p)) p in
      let (h, l, q) = any_at (λ h. S.alive (h / 3) && eqb (S.corner h) v) (3 * T) u in
      let (l, i) = and_parts (S.alive (h / 3)) _ q in
      (S.corner (next h), (h, S.corner (prev h), record { lives = l; from = eqb-true _ _ i; to = refl; third = refl }))

  sealed : Sealed S
  sealed =
      record {
        proper = λ {h} {a} {b} {c} t i. (side t).proper (t.from ∙ i ∙ sym t.to);
        single = single;
        matched = λ {h} {a} {b} {c} t. let (d, s) = across t in (o h, d, s);
        apart = λ {h} {g} {a} {b} {c} {d} t s i.
            let (x, r) = across t in
            (side t).apart (t.third ∙ i ∙ sym s.third ∙ ap (λ k. S.corner (prev k)) (single s r));
        ring = λ {h} {g} {v} {a} {b} {c} {d} t s. walked n t (two_sides t s).0;
        used = begins;
        known = λ {h} {a} {b} {c} t. ap S.present (sym t.from) ∙ (side t).known;
      }

  pub closed_told : (h : ℕ) → S.alive (h / 3) ≡ true → Closed S
  closed_told h l = closed sealed (h, S.corner h, S.corner (next h), S.corner (prev h), record { lives = l; from = refl; to = refl; third = refl })
