-- What a pinch leaves: each side is single and matched.
use Rattle.std.proofs.Common.{◌≡◌, ℕ, ◌/◌, true, ◌≢◌, ◌⊎◌, sym, refl, ap, ◌∙◌, inl, inr}
use Rattle.surface.specs.Surface.{Surface, next, Tri, Side}
use Rattle.surface.proofs.Tris.{next_triangle, spin, spin2, moved}
use Rattle.surface.proofs.Sealed.{Sealed, one_third}
use Rattle.surface.proofs.Pinch.{Image, Pinch, swap, Gone, uwa, wau, auw, wub, ubw, bwu, u≢w, w≢a, a≢u, u≢b, a≢b, fate}

abbrev pub Lives : Surface → ℕ → Type 0
Lives N h = N.alive (h / 3) ≡ true

pub lives_next : (N : Surface) (h : ℕ) → Lives N h → Lives N (next h)
lives_next N h l = ap N.alive (next_triangle h) ∙ l

module _ {S N : Surface} {φ : ℕ → ℕ} (I : Image S N φ) where
  pub far2 : {h x y z : ℕ} → Tri S h x y z → Lives N h → φ y ≢ φ z
  far2 {h} t l = I.differ (spin t) (lives_next N h l)

  pub far3 : {h x y z : ℕ} → Tri S h x y z → Lives N h → φ z ≢ φ x
  far3 {h} t l = I.differ (spin2 t) (lives_next N (next h) (lives_next N h l))

  pub proper' : {h x y z : ℕ} → Tri N h x y z → x ≢ y
  proper' t p = let (a, b, c, s, i, j, k) = I.down t in I.differ s t.lives (i ∙ p ∙ sym j)

-- the only common neighbours of u and w are a and b
abbrev pub Common : Surface → ℕ → ℕ → ℕ → ℕ → Type 0
Common S u w a b = (c : ℕ) → Side S u c → Side S w c → (c ≡ a) ⊎ (c ≡ b)

pub common_swap : {S : Surface} {u w a b : ℕ} → Common S u w a b → Common S w u b a
common_swap L c p q = elim (L c q p) [ inl i ↦ inr i | inr i ↦ inl i ]

module _ {S N : Surface} {φ : ℕ → ℕ} (K : Sealed S) where
  module _ {e f u w a b : ℕ} (P : Pinch S N φ e f u w a b) where
    -- the sides across from (a, u) and (w, a) stay
    pub kept_ua : {h z : ℕ} → Tri S h u a z → Lives N h
    kept_ua {h} {z} t = go (fate K P t)
      where
        go : Lives N h ⊎ Gone u w a b u a z → Lives N h
        go (inl l) = l
        go (inr (uwa i j k)) = absurd (w≢a K P (sym j))
        go (inr (wau i j k)) = absurd (u≢w K P i)
        go (inr (auw i j k)) = absurd (a≢u K P j)
        go (inr (wub i j k)) = absurd (u≢w K P i)
        go (inr (ubw i j k)) = absurd (a≢b K P j)
        go (inr (bwu i j k)) = absurd (u≢b K P i)

    pub kept_aw : {h z : ℕ} → Tri S h a w z → Lives N h
    kept_aw {h} {z} t = go (fate K P t)
      where
        go : Lives N h ⊎ Gone u w a b a w z → Lives N h
        go (inl l) = l
        go (inr (uwa i j k)) = absurd (a≢u K P i)
        go (inr (wau i j k)) = absurd (w≢a K P j)
        go (inr (auw i j k)) = absurd (u≢w K P (sym j))
        go (inr (wub i j k)) = absurd (u≢w K P (sym j))
        go (inr (ubw i j k)) = absurd (a≢u K P i)
        go (inr (bwu i j k)) = absurd (a≢b K P i)

    pub touch : {x y : ℕ} → x ≡ u → y ≡ w → φ x ≡ φ y
    touch i j = ap φ i ∙ P.J.join ∙ sym (ap φ j)

  module _ {e f u w a b : ℕ} (P : Pinch S N φ e f u w a b) (L : Common S u w a b) where
    -- no two live sides lead from one vertex to u and to w, or back
    no_in : {h g p r s : ℕ} → Tri S h p u r → Lives N h → Tri S g p w s → Lives N g → ⊥
    no_in {p = p} th lh tg lg =
        elim (L p (K.matched th) (K.matched tg)) [
          | inl i ↦ far2 P.I th lh (touch P refl (one_third K (moved i refl refl th) (spin2 P.te)))
          | inr i ↦ far2 P.I tg lg (sym (touch P (one_third K (moved i refl refl tg) (spin2 P.tf)) refl))
        ]

    no_out : {h g q r s : ℕ} → Tri S h u q r → Lives N h → Tri S g w q s → Lives N g → ⊥
    no_out {h} {g} {q} {r} {s} th lh tg lg =
        elim (L q (h, r, th) (g, s, tg)) [
          | inl i ↦ far3 P.I tg lg (touch P (one_third K (moved refl i refl tg) (spin P.te)) refl)
          | inr i ↦ far3 P.I th lh (sym (touch P refl (one_third K (moved refl i refl th) (spin P.tf))))
        ]

    pub single' : {h g x y z z' : ℕ} → Tri N h x y z → Tri N g x y z' → h ≡ g
    single' {h} {g} t s =
        let (p, q, r, th, i, j, k) = P.I.down t in
        let (p', q', r', tg, i', j', k') = P.I.down s in
        go th tg t.lives s.lives (P.J.split p p' (i ∙ sym i')) (P.J.split q q' (j ∙ sym j'))
      where
        go : {p q r p' q' r' : ℕ} → Tri S h p q r → Tri S g p' q' r' → Lives N h → Lives N g →
            (p ≡ p') ⊎ (((p ≡ u) × (p' ≡ w)) ⊎ ((p ≡ w) × (p' ≡ u))) →
            (q ≡ q') ⊎ (((q ≡ u) × (q' ≡ w)) ⊎ ((q ≡ w) × (q' ≡ u))) → h ≡ g
        go th tg lh lg (inl i) (inl j) = K.single (moved i j refl th) tg
        go th tg lh lg (inl i) (inr (inl (j, k))) = absurd (no_in (moved i j refl th) lh (moved refl k refl tg) lg)
        go th tg lh lg (inl i) (inr (inr (j, k))) = absurd (no_in (moved refl k refl tg) lg (moved i j refl th) lh)
        go th tg lh lg (inr (inl (i, k))) (inl j) = absurd (no_out (moved i j refl th) lh (moved k refl refl tg) lg)
        go th tg lh lg (inr (inr (i, k))) (inl j) = absurd (no_out (moved k refl refl tg) lg (moved i j refl th) lh)
        go th tg lh lg (inr (inl (i, k))) (inr (inl (j, l))) = absurd (K.proper th (i ∙ sym j))
        go th tg lh lg (inr (inl (i, k))) (inr (inr (j, l))) = absurd (P.I.differ th lh (touch P i j))
        go th tg lh lg (inr (inr (i, k))) (inr (inl (j, l))) = absurd (P.I.differ th lh (sym (touch P j i)))
        go th tg lh lg (inr (inr (i, k))) (inr (inr (j, l))) = absurd (K.proper th (i ∙ sym j))

  -- a live side keeps the side across from it, or gets another in its place
  pub data Across {e f u w a b : ℕ} (P : Pinch S N φ e f u w a b) (h p q r : ℕ) : Type 0 where
    same : (g s : ℕ) → Tri S g q p s → Lives N g → Across P h p q r
    aw : p ≡ a → q ≡ w → Across P h p q r
    ua : p ≡ u → q ≡ a → Across P h p q r
    bu : p ≡ b → q ≡ u → Across P h p q r
    wb : p ≡ w → q ≡ b → Across P h p q r

  pub across : {e f u w a b : ℕ} (P : Pinch S N φ e f u w a b) {h p q r : ℕ} → Tri S h p q r → Lives N h → Across P h p q r
  across {u = u} {w = w} {a = a} {b = b} P {h} {p} {q} {r} t l = let (g, s, tg) = K.matched t in go g s tg (fate K P tg)
    where
      go : (g s : ℕ) → Tri S g q p s → Lives N g ⊎ Gone u w a b q p s → Across P h p q r
      go g s tg (inl m) = same g s tg m
      go g s tg (inr (uwa i j k)) = absurd (P.I.differ t l (sym (touch P i j)))
      go g s tg (inr (wau i j k)) = aw j i
      go g s tg (inr (auw i j k)) = ua j i
      go g s tg (inr (wub i j k)) = absurd (P.I.differ t l (touch P j i))
      go g s tg (inr (ubw i j k)) = bu j i
      go g s tg (inr (bwu i j k)) = wb j i

  module _ {e f u w a b : ℕ} (P : Pinch S N φ e f u w a b) where
    -- the new sides across from (a, w) and (u, a)
    pub new_aw : {p q : ℕ} → p ≡ a → q ≡ w → Side N (φ q) (φ p)
    new_aw i j = let (g, s, tg) = K.matched (spin2 P.te) in (g, φ s, moved (touch P refl j) (ap φ (sym i)) refl (P.I.up tg (kept_ua P tg)))

    pub new_ua : {p q : ℕ} → p ≡ u → q ≡ a → Side N (φ q) (φ p)
    new_ua i j = let (g, s, tg) = K.matched (spin P.te) in (g, φ s, moved (ap φ (sym j)) (sym (touch P i refl)) refl (P.I.up tg (kept_aw P tg)))

  pub matched' : {e f u w a b : ℕ} (P : Pinch S N φ e f u w a b) {h x y z : ℕ} → Tri N h x y z → Side N y x
  matched' P {h} {x} {y} {z} t =
      let (p, q, r, th, i, j, k) = P.I.down t in
      let new : Side N (φ q) (φ p) = go (across P th t.lives) in
      (new.0, new.1, moved j i refl new.2)
    where
      go : {p q r : ℕ} → Across P h p q r → Side N (φ q) (φ p)
      go (same g s tg l) = (g, φ s, P.I.up tg l)
      go (aw i j) = new_aw P i j
      go (ua i j) = new_ua P i j
      go (bu i j) = new_aw (swap P) i j
      go (wb i j) = new_ua (swap P) i j
