-- The twins of half-edges, beside a surface, after a collapse and back.
use Rattle.std.proofs.Common.{◌≡◌, ℕ, ◌/◌, true, false, cond, eqb, ◌≢◌, ◌⊎◌, sym, refl, ap, ◌∙◌, inl, inr}
use native.Mathlib.Decide.{ℕ_discrete}
use Rattle.std.proofs.lemmas.Bool.{cases_Bool, both_ways, eq-eqb, ne_eqb, cond-true, cond-false}
use Rattle.surface.specs.Surface.{Surface, next, prev, Tri}
use Rattle.surface.proofs.Tris.{next_triangle, spin, spin2, moved, same_from, same_to, renumber}
use Rattle.surface.proofs.Sealed.{Sealed}
use Rattle.surface.proofs.Pinch.{Pinch, swap, Gone, uwa, wau, auw, wub, ubw, bwu, u≢w, w≢a, a≢u, u≢b, b≢w, a≢b, fate}
use Rattle.surface.proofs.Local.{Lives, kept_ua, kept_aw, touch}

-- o gives the half-edge opposite to each live one
abbrev pub Opposites : Surface → (ℕ → ℕ) → Type 0
Opposites S o = (h a b c : ℕ) → Tri S h a b c → (d : ℕ) × Tri S (o h) b a d

-- o with x at k
unfoldable pub put : (ℕ → ℕ) → ℕ → ℕ → ℕ → ℕ
put o k x h = cond (eqb h k) x (o h)

-- o with h and g opposite to each other
unfoldable pub pair : (ℕ → ℕ) → ℕ → ℕ → ℕ → ℕ
pair o h g = put (put o h g) g h

-- A opposite to B, and C to D
unfoldable pub cross : (ℕ → ℕ) → ℕ → ℕ → ℕ → ℕ → ℕ → ℕ
cross o A B C D = pair (pair o A B) C D

-- x, y, z and t at A, B, C and D
unfoldable pub lay : (ℕ → ℕ) → ℕ → ℕ → ℕ → ℕ → ℕ → ℕ → ℕ → ℕ → ℕ → ℕ
lay o A x B y C z D t = put (put (put (put o A x) B y) C z) D t

pub put_hit : (o : ℕ → ℕ) (k x h : ℕ) → h ≡ k → put o k x h ≡ x
unfolding put
put_hit o k x h i = cond-true (eqb h k) x (o h) (eq-eqb h k i)

pub put_miss : (o : ℕ → ℕ) (k x h : ℕ) → h ≢ k → put o k x h ≡ o h
unfolding put
put_miss o k x h n = cond-false (eqb h k) x (o h) (ne_eqb h k n)

-- half-edges that begin at different vertices differ
pub starts : {S : Surface} {h g a b c x y z : ℕ} → Tri S h a b c → Tri S g x y z → a ≢ x → h ≢ g
starts s t n p = n (same_from (renumber p s) t)

-- the half-edges across from the sides (w, a), (a, u), (u, b) and (b, w)
pub record Four (S : Surface) (u w a b A B C D : ℕ) : Type 0 where
  pub t_a : (d : ℕ) × Tri S A a w d
  pub t_b : (d : ℕ) × Tri S B u a d
  pub t_c : (d : ℕ) × Tri S C b u d
  pub t_d : (d : ℕ) × Tri S D w b d

module _ {S N : Surface} {φ : ℕ → ℕ} (K : Sealed S) {e f u w a b : ℕ} (P : Pinch S N φ e f u w a b) where
  pub dead_e : Lives N e → ⊥
  dead_e l = P.I.differ P.te l P.J.join

  pub dead_f : Lives N f → ⊥
  dead_f l = P.I.differ P.tf l (sym P.J.join)

  pub lives_back : (h : ℕ) → Lives N (next h) → Lives N h
  lives_back h l = ap N.alive (sym (next_triangle h)) ∙ l

  module _ {A B C D : ℕ} (F : Four S u w a b A B C D) where
    d_ab : A ≢ B
    d_ab = starts F.t_a.1 F.t_b.1 (a≢u K P)

    d_ac : A ≢ C
    d_ac = starts F.t_a.1 F.t_c.1 (a≢b K P)

    d_ad : A ≢ D
    d_ad = starts F.t_a.1 F.t_d.1 (λ i. w≢a K P (sym i))

    d_bc : B ≢ C
    d_bc = starts F.t_b.1 F.t_c.1 (u≢b K P)

    d_bd : B ≢ D
    d_bd = starts F.t_b.1 F.t_d.1 (u≢w K P)

    d_cd : C ≢ D
    d_cd = starts F.t_c.1 F.t_d.1 (b≢w K P)

    pub l_a : Lives N A
    l_a = kept_aw K P F.t_a.1

    pub l_b : Lives N B
    l_b = kept_ua K P F.t_b.1

    pub l_c : Lives N C
    l_c = kept_aw K (swap P) F.t_c.1

    pub l_d : Lives N D
    l_d = kept_ua K (swap P) F.t_d.1

    -- none of the four is in a triangle that dies
    apart : (h : ℕ) → (Lives N h → ⊥) → (h ≢ A) × (h ≢ B) × (h ≢ C) × (h ≢ D)
    apart h n = (λ i. n (at i l_a), λ i. n (at i l_b), λ i. n (at i l_c), λ i. n (at i l_d))
      where
        at : {g : ℕ} → h ≡ g → Lives N g → Lives N h
        at i l = ap (λ k. N.alive (k / 3)) i ∙ l

    -- what is across from a half-edge that is none of the four lives on with it
    stays_across : {h g p q r d : ℕ} → Tri S h p q r → Lives N h → h ≢ A → h ≢ B → h ≢ C → h ≢ D → Tri S g q p d → Lives N g
    stays_across {h} {g} {p} {q} {r} {d} th lh nA nB nC nD tg = go (fate K P tg)
      where
        go : Lives N g ⊎ Gone u w a b q p d → Lives N g
        go (inl l) = l
        go (inr (uwa k m n)) = absurd (P.I.differ th lh (sym (touch K P k m)))
        go (inr (wau k m n)) = absurd (nA (K.single (moved m k refl th) F.t_a.1))
        go (inr (auw k m n)) = absurd (nB (K.single (moved m k refl th) F.t_b.1))
        go (inr (wub k m n)) = absurd (P.I.differ th lh (touch K P m k))
        go (inr (ubw k m n)) = absurd (nC (K.single (moved m k refl th) F.t_c.1))
        go (inr (bwu k m n)) = absurd (nD (K.single (moved m k refl th) F.t_d.1))

    module _ (o : ℕ → ℕ) where
      cross_a : cross o A B C D A ≡ B
      unfolding cross pair
      cross_a = put_miss _ D C A d_ad ∙ put_miss _ C D A d_ac ∙ put_miss _ B A A d_ab ∙ put_hit o A B A refl

      cross_b : cross o A B C D B ≡ A
      unfolding cross pair
      cross_b = put_miss _ D C B d_bd ∙ put_miss _ C D B d_bc ∙ put_hit _ B A B refl

      cross_c : cross o A B C D C ≡ D
      unfolding cross pair
      cross_c = put_miss _ D C C d_cd ∙ put_hit _ C D C refl

      cross_d : cross o A B C D D ≡ C
      unfolding cross pair
      cross_d = put_hit _ D C D refl

      cross_else : (h : ℕ) → h ≢ A → h ≢ B → h ≢ C → h ≢ D → cross o A B C D h ≡ o h
      unfolding cross pair
      cross_else h a b c d = put_miss _ D C h d ∙ put_miss _ C D h c ∙ put_miss _ B A h b ∙ put_miss o A B h a

      -- the half-edges of dead triangles keep their twins
      pub cross_dead : (h : ℕ) → (Lives N h → ⊥) → cross o A B C D h ≡ o h
      cross_dead h n = let (i, j, k, l) = apart h n in cross_else h i j k l

      -- after the collapse
      pub crossed : Opposites S o → Opposites N (cross o A B C D)
      crossed O h x y z t =
          let (p, q, r, th, i, j, k) = P.I.down t in
          go th i j (ℕ_discrete h A) (ℕ_discrete h B) (ℕ_discrete h C) (ℕ_discrete h D)
        where
          across : {p q s t : ℕ} → φ p ≡ x → φ q ≡ y → (g : ℕ) → cross o A B C D h ≡ g → (d : ℕ) → Tri S g s t d → Lives N g → φ s ≡ φ q → φ t ≡ φ p →
              (d : ℕ) × Tri N (cross o A B C D h) y x d
          across i j g n d tg l m k = (φ d, renumber (sym n) (moved (m ∙ j) (k ∙ i) refl (P.I.up tg l)))

          go : {p q r : ℕ} → Tri S h p q r → φ p ≡ x → φ q ≡ y → Dec (h ≡ A) → Dec (h ≡ B) → Dec (h ≡ C) → Dec (h ≡ D) → (d : ℕ) × Tri N (cross o A B C D h) y x d
          go th i j (yes n) _ _ _ =
              let p = same_from (renumber n th) F.t_a.1 in
              let q = same_to (renumber n th) F.t_a.1 in
              across i j B (ap (cross o A B C D) n ∙ cross_a) F.t_b.0 F.t_b.1 l_b (touch K P refl q) (ap φ (sym p))
          go th i j (no nA) (yes n) _ _ =
              let p = same_from (renumber n th) F.t_b.1 in
              let q = same_to (renumber n th) F.t_b.1 in
              across i j A (ap (cross o A B C D) n ∙ cross_b) F.t_a.0 F.t_a.1 l_a (ap φ (sym q)) (sym (touch K P p refl))
          go th i j (no nA) (no nB) (yes n) _ =
              let p = same_from (renumber n th) F.t_c.1 in
              let q = same_to (renumber n th) F.t_c.1 in
              across i j D (ap (cross o A B C D) n ∙ cross_c) F.t_d.0 F.t_d.1 l_d (sym (touch K P q refl)) (ap φ (sym p))
          go th i j (no nA) (no nB) (no nC) (yes n) =
              let p = same_from (renumber n th) F.t_d.1 in
              let q = same_to (renumber n th) F.t_d.1 in
              across i j C (ap (cross o A B C D) n ∙ cross_d) F.t_c.0 F.t_c.1 l_c (ap φ (sym q)) (touch K P refl p)
          go {p} {q} {r} th i j (no nA) (no nB) (no nC) (no nD) =
              let (d, tg) = O h p q r th in
              across i j (o h) (cross_else h nA nB nC nD) d tg (stays_across th t.lives nA nB nC nD tg) refl refl

      lay_a : (x y z t : ℕ) → lay o A x B y C z D t A ≡ x
      unfolding lay
      lay_a x y z t = put_miss _ D t A d_ad ∙ put_miss _ C z A d_ac ∙ put_miss _ B y A d_ab ∙ put_hit o A x A refl

      lay_b : (x y z t : ℕ) → lay o A x B y C z D t B ≡ y
      unfolding lay
      lay_b x y z t = put_miss _ D t B d_bd ∙ put_miss _ C z B d_bc ∙ put_hit _ B y B refl

      lay_c : (x y z t : ℕ) → lay o A x B y C z D t C ≡ z
      unfolding lay
      lay_c x y z t = put_miss _ D t C d_cd ∙ put_hit _ C z C refl

      lay_d : (x y z t : ℕ) → lay o A x B y C z D t D ≡ t
      unfolding lay
      lay_d x y z t = put_hit _ D t D refl

      lay_else : (x y z t h : ℕ) → h ≢ A → h ≢ B → h ≢ C → h ≢ D → lay o A x B y C z D t h ≡ o h
      unfolding lay
      lay_else x y z t h a b c d = put_miss _ D t h d ∙ put_miss _ C z h c ∙ put_miss _ B y h b ∙ put_miss o A x h a

      pub lay_dead : (x y z t h : ℕ) → (Lives N h → ⊥) → lay o A x B y C z D t h ≡ o h
      lay_dead x y z t h n = let (i, j, k, l) = apart h n in lay_else x y z t h i j k l

      -- the way back: o gives the opposites in N, and in S for the half-edges of the two triangles that died
      pub laid : Sealed N → Opposites N o → ((h x y z : ℕ) → Tri S h x y z → (Lives N h → ⊥) → (d : ℕ) × Tri S (o h) y x d) →
          Opposites S (lay o A (next e) B (prev e) C (next f) D (prev f))
      laid M O Q h p q r th = go (ℕ_discrete h A) (ℕ_discrete h B) (ℕ_discrete h C) (ℕ_discrete h D) (cases_Bool (N.alive (h / 3)))
        where
          new : ℕ → ℕ
          new x = lay o A (next e) B (prev e) C (next f) D (prev f) x

          is : (g d : ℕ) → new h ≡ g → Tri S g q p d → (d : ℕ) × Tri S (new h) q p d
          is g d n tg = (d, renumber (sym n) tg)

          go : Dec (h ≡ A) → Dec (h ≡ B) → Dec (h ≡ C) → Dec (h ≡ D) → (N.alive (h / 3) ≡ true) ⊎ (N.alive (h / 3) ≡ false) →
              (d : ℕ) × Tri S (lay o A (next e) B (prev e) C (next f) D (prev f) h) q p d
          go (yes n) _ _ _ _ =
              let i = same_from (renumber n th) F.t_a.1 in
              let j = same_to (renumber n th) F.t_a.1 in
              is (next e) u (ap new n ∙ lay_a (next e) (prev e) (next f) (prev f)) (moved (sym j) (sym i) refl (spin P.te))
          go (no nA) (yes n) _ _ _ =
              let i = same_from (renumber n th) F.t_b.1 in
              let j = same_to (renumber n th) F.t_b.1 in
              is (prev e) w (ap new n ∙ lay_b (next e) (prev e) (next f) (prev f)) (moved (sym j) (sym i) refl (spin2 P.te))
          go (no nA) (no nB) (yes n) _ _ =
              let i = same_from (renumber n th) F.t_c.1 in
              let j = same_to (renumber n th) F.t_c.1 in
              is (next f) w (ap new n ∙ lay_c (next e) (prev e) (next f) (prev f)) (moved (sym j) (sym i) refl (spin P.tf))
          go (no nA) (no nB) (no nC) (yes n) _ =
              let i = same_from (renumber n th) F.t_d.1 in
              let j = same_to (renumber n th) F.t_d.1 in
              is (prev f) u (ap new n ∙ lay_d (next e) (prev e) (next f) (prev f)) (moved (sym j) (sym i) refl (spin2 P.tf))
          go (no nA) (no nB) (no nC) (no nD) (inr l) =
              let (d, tg) = Q h p q r th (λ m. both_ways _ l m) in
              is (o h) d (lay_else (next e) (prev e) (next f) (prev f) h nA nB nC nD) tg
          go (no nA) (no nB) (no nC) (no nD) (inl l) =
              let (g, s, tg) = K.matched th in
              let lg = stays_across th l nA nB nC nD tg in
              let (d, to) = O h (φ p) (φ q) (φ r) (P.I.up th l) in
              is g s (lay_else (next e) (prev e) (next f) (prev f) h nA nB nC nD ∙ M.single to (P.I.up tg lg)) tg
