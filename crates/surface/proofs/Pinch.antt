-- Two surfaces, the second of which is the first with the ends u and w of a side made one by φ.
-- The relation is symmetric in the two ends: what is proved of one is used of both.
use Rattle.std.proofs.Common.{◌≡◌, ℕ, ◌/◌, true, ◌≢◌, ◌⊎◌, ◌↔◌, sym, refl, inl, inr}
use native.Mathlib.Decide.{ℕ_discrete}
use Rattle.surface.specs.Surface.{Surface, Tri}
use Rattle.surface.proofs.Tris.{spin, spin2, moved}
use Rattle.surface.proofs.Sealed.{Sealed, one_third}

-- φ makes u and w one, and nothing else
pub record Joins (φ : ℕ → ℕ) (u w : ℕ) : Type 0 where
  pub join : φ u ≡ φ w
  pub split : (x y : ℕ) → φ x ≡ φ y → (x ≡ y) ⊎ (((x ≡ u) × (y ≡ w)) ⊎ ((x ≡ w) × (y ≡ u)))

pub joins_swap : {φ : ℕ → ℕ} {u w : ℕ} → Joins φ u w → Joins φ w u
joins_swap {φ} {u} {w} J = record { join = sym J.join; split = λ x y p. flip (J.split x y p) }
  where
    flip : {x y : ℕ} → (x ≡ y) ⊎ (((x ≡ u) × (y ≡ w)) ⊎ ((x ≡ w) × (y ≡ u))) → (x ≡ y) ⊎ (((x ≡ w) × (y ≡ u)) ⊎ ((x ≡ u) × (y ≡ w)))
    flip (inl p) = inl p
    flip (inr (inl p)) = inr (inr p)
    flip (inr (inr p)) = inr (inl p)

-- N is S under φ: what would have a corner twice is dead
pub record Image (S N : Surface) (φ : ℕ → ℕ) : Type 0 where
  pub up : {h a b c : ℕ} → Tri S h a b c → N.alive (h / 3) ≡ true → Tri N h (φ a) (φ b) (φ c)
  pub down : {h x y z : ℕ} → Tri N h x y z → (a : ℕ) × (b : ℕ) × (c : ℕ) × Tri S h a b c × (φ a ≡ x) × (φ b ≡ y) × (φ c ≡ z)
  pub differ : {h a b c : ℕ} → Tri S h a b c → N.alive (h / 3) ≡ true → φ a ≢ φ b
  pub stay : {h a b c : ℕ} → Tri S h a b c → φ a ≢ φ b → φ b ≢ φ c → φ c ≢ φ a → N.alive (h / 3) ≡ true
  pub vertex : (v : ℕ) → (N.present v ≡ true) ↔ ((x : ℕ) × (S.present x ≡ true) × (φ x ≡ v))

-- the side (u, w), with its two triangles, and the surface without it
pub record Pinch (S N : Surface) (φ : ℕ → ℕ) (e f u w a b : ℕ) : Type 0 where
  pub te : Tri S e u w a
  pub tf : Tri S f w u b
  pub J : Joins φ u w
  pub I : Image S N φ

pub swap : {S N : Surface} {φ : ℕ → ℕ} {e f u w a b : ℕ} → Pinch S N φ e f u w a b → Pinch S N φ f e w u b a
swap P = record { te = P.tf; tf = P.te; J = joins_swap P.J; I = P.I }

-- the six sides of the two triangles
pub data Gone (u w a b x y z : ℕ) : Type 0 where
  uwa : x ≡ u → y ≡ w → z ≡ a → Gone u w a b x y z
  wau : x ≡ w → y ≡ a → z ≡ u → Gone u w a b x y z
  auw : x ≡ a → y ≡ u → z ≡ w → Gone u w a b x y z
  wub : x ≡ w → y ≡ u → z ≡ b → Gone u w a b x y z
  ubw : x ≡ u → y ≡ b → z ≡ w → Gone u w a b x y z
  bwu : x ≡ b → y ≡ w → z ≡ u → Gone u w a b x y z

module _ {S N : Surface} {φ : ℕ → ℕ} (K : Sealed S) where
  module _ {e f u w a b : ℕ} (P : Pinch S N φ e f u w a b) where
    pub u≢w : u ≢ w
    u≢w = K.proper P.te

    pub w≢a : w ≢ a
    w≢a = K.proper (spin P.te)

    pub a≢u : a ≢ u
    a≢u = K.proper (spin2 P.te)

    pub u≢b : u ≢ b
    u≢b = K.proper (spin P.tf)

    pub b≢w : b ≢ w
    b≢w = K.proper (spin2 P.tf)

    pub a≢b : a ≢ b
    a≢b = K.apart P.te P.tf

    -- a triangle with the side (u, w) or (w, u) is one of the two
    uw_third : {h x y z : ℕ} → Tri S h x y z → x ≡ u → y ≡ w → z ≡ a
    uw_third t p q = one_third K (moved p q refl t) P.te

    wu_third : {h x y z : ℕ} → Tri S h x y z → x ≡ w → y ≡ u → z ≡ b
    wu_third t p q = one_third K (moved p q refl t) P.tf

    pub fate : {h x y z : ℕ} → Tri S h x y z → (N.alive (h / 3) ≡ true) ⊎ Gone u w a b x y z
    fate {h} {x} {y} {z} t = first (ℕ_discrete (φ x) (φ y))
      where
        pair : {g p q r : ℕ} → Tri S g p q r → φ p ≡ φ q → ((p ≡ u) × (q ≡ w) × (r ≡ a)) ⊎ ((p ≡ w) × (q ≡ u) × (r ≡ b))
        pair {g} {p} {q} {r} s k = go (P.J.split p q k)
          where
            go : (p ≡ q) ⊎ (((p ≡ u) × (q ≡ w)) ⊎ ((p ≡ w) × (q ≡ u))) → ((p ≡ u) × (q ≡ w) × (r ≡ a)) ⊎ ((p ≡ w) × (q ≡ u) × (r ≡ b))
            go (inl i) = absurd (K.proper s i)
            go (inr (inl (i, j))) = inl (i, j, uw_third s i j)
            go (inr (inr (i, j))) = inr (i, j, wu_third s i j)

        third : φ x ≢ φ y → φ y ≢ φ z → Dec (φ z ≡ φ x) → (N.alive (h / 3) ≡ true) ⊎ Gone u w a b x y z
        third n m (no k) = inl (P.I.stay t n m k)
        third n m (yes k) = elim (pair (spin2 t) k) [ inl (i, j, l) ↦ inr (wau j l i) | inr (i, j, l) ↦ inr (ubw j l i) ]

        second : φ x ≢ φ y → Dec (φ y ≡ φ z) → (N.alive (h / 3) ≡ true) ⊎ Gone u w a b x y z
        second n (no m) = third n m (ℕ_discrete (φ z) (φ x))
        second n (yes k) = elim (pair (spin t) k) [ inl (i, j, l) ↦ inr (auw l i j) | inr (i, j, l) ↦ inr (bwu l i j) ]

        first : Dec (φ x ≡ φ y) → (N.alive (h / 3) ≡ true) ⊎ Gone u w a b x y z
        first (no n) = second n (ℕ_discrete (φ y) (φ z))
        first (yes k) = elim (pair t k) [ inl (i, j, l) ↦ inr (uwa i j l) | inr (i, j, l) ↦ inr (wub i j l) ]
