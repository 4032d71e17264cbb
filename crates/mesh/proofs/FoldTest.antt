-- The normals of the moved triangles, as a walk round the vertex finds them.
use Rattle.std.proofs.Common.{◌≡◌, ℕ, ◌+◌, ◌*◌, ◌/◌, Bool, true, false, T, ◌≢◌, ◌⊎◌, [], ◌∷◌, get_or, ℤ, pos, ◌-ℤ◌, ◌*ℤ◌, ◌<ℤ◌, sym, refl, ap, ◌∙◌, subst, inl, inr, arith, lit<, w64, to_z, of_z}
use lib.Signed.{lt_z}
use Rattle.surface.specs.Surface.{Surface, next, prev, Tri}
use Rattle.surface.specs.Closed.{Closed}
use Rattle.surface.specs.Collapse.{rename, collapse, Holds}
use Rattle.surface.specs.Geometry.{Vector, dot, normal, normal_at}
use Rattle.surface.specs.Permitted.{Upright}
use Rattle.surface.proofs.Tris.{spin, spin2, moved, second_is, third_is, from_first, first_of, next_triangle, tri_at}
use Rattle.surface.proofs.Collapse.{rename_hit, rename_miss, falls_once, alive_from, corners_are}
use Rattle.geometry.specs.Values.{Bounded}
use Rattle.geometry.proofs.Bounds.{same_64}
use Rattle.mesh.specs.Reads.{Stands, Exactly}
use Rattle.mesh.specs.Model.{held}
use Rattle.mesh.specs.declared.halfedges.HalfEdges.{HalfEdges}
use Rattle.mesh.proofs.Round.{closed_held}
use Rattle.mesh.proofs.LinkTest.{exactly_from}
use Rattle.mesh.proofs.Polynomials.{Exp, var, less, times, solve}

-- the determinant of the differences to the first point is that of the differences to the second
abbrev minor : ℕ → ℕ → ℕ → ℕ → ℕ → ℕ → Exp
minor a a' b b' c c' = less (times (less (var b) (var a)) (less (var c') (var a'))) (times (less (var b') (var a')) (less (var c) (var a)))

minor_turned : (a a' b b' c c' : ℤ) → (b -ℤ a) *ℤ (c' -ℤ a') -ℤ (b' -ℤ a') *ℤ (c -ℤ a) ≡ (c -ℤ b) *ℤ (a' -ℤ b') -ℤ (c' -ℤ b') *ℤ (a -ℤ b)
minor_turned a a' b b' c c' = solve (λ v. get_or (a ∷ a' ∷ b ∷ b' ∷ c ∷ c' ∷ []) v (pos 0)) (minor 0 1 2 3 4 5) (minor 2 3 4 5 0 1) refl

same_vector : (p q : Vector) → p.x ≡ q.x → p.y ≡ q.y → p.z ≡ q.z → p ≡ q
same_vector p q i j k = λ n. record { x = i n; y = j n; z = k n }

-- the normal is the same from each corner on
normal_turned : (a b c : Vector) → normal a b c ≡ normal b c a
normal_turned a b c =
    same_vector (normal a b c) (normal b c a)
    (minor_turned a.y a.z b.y b.z c.y c.z)
    (minor_turned a.z a.x b.z b.x c.z c.x)
    (minor_turned a.x a.y b.x b.y c.x c.y)

corners_first : {S : Surface} (t : ℕ) {a b c : ℕ} → Tri S (3 * t) a b c → (S.corner (3 * t) ≡ a) × (S.corner (3 * t + 1) ≡ b) × (S.corner (3 * t + 2) ≡ c)
corners_first {S} t k = (k.from, ap S.corner (sym (second_is t)) ∙ k.to, ap S.corner (sym (third_is t)) ∙ k.third)

-- the corners of the triangle of h
holds_one : {S : Surface} {h a b c v : ℕ} → Tri S h a b c → Holds S (h / 3) v → (a ≡ v) ⊎ ((b ≡ v) ⊎ (c ≡ v))
holds_one {S} {h} {a} {b} {c} {v} t p = go (from_first t)
  where
    of : {x y z : ℕ} → Tri S (3 * (h / 3)) x y z → (x ≡ v) ⊎ ((y ≡ v) ⊎ (z ≡ v))
    of k =
        let (i, j, l) = corners_first (h / 3) k in
        elim p [ inl q ↦ inl (sym i ∙ q) | inr (inl q) ↦ inr (inl (sym j ∙ q)) | inr (inr q) ↦ inr (inr (sym l ∙ q)) ]

    go : Tri S (3 * (h / 3)) a b c ⊎ (Tri S (3 * (h / 3)) b c a ⊎ Tri S (3 * (h / 3)) c a b) → (a ≡ v) ⊎ ((b ≡ v) ⊎ (c ≡ v))
    go (inl k) = of k
    go (inr (inl k)) = elim (of k) [ inl q ↦ inr (inl q) | inr (inl q) ↦ inr (inr q) | inr (inr q) ↦ inl q ]
    go (inr (inr k)) = elim (of k) [ inl q ↦ inr (inr q) | inr (inl q) ↦ inl q | inr (inr q) ↦ inr (inl q) ]

holds_from : {S : Surface} {h a b c : ℕ} → Tri S h a b c → Holds S (h / 3) a
holds_from {S} {h} {a} {b} {c} t = go (from_first t)
  where
    go : Tri S (3 * (h / 3)) a b c ⊎ (Tri S (3 * (h / 3)) b c a ⊎ Tri S (3 * (h / 3)) c a b) → Holds S (h / 3) a
    go (inl k) = inl (corners_first (h / 3) k).0
    go (inr (inl k)) = inr (inr (corners_first (h / 3) k).2)
    go (inr (inr k)) = inr (inl (corners_first (h / 3) k).1)

module _ (P : ℕ → Vector) where
  normal_first : {S : Surface} (t : ℕ) {a b c : ℕ} → Tri S (3 * t) a b c → normal_at S P t ≡ normal (P a) (P b) (P c)
  normal_first t k = let (i, j, l) = corners_first t k in rw (i, j, l)

  normal_of_tri : {S : Surface} {h a b c : ℕ} → Tri S h a b c → normal_at S P (h / 3) ≡ normal (P a) (P b) (P c)
  normal_of_tri {S} {h} {a} {b} {c} k = go (from_first k)
    where
      go : Tri S (3 * (h / 3)) a b c ⊎ (Tri S (3 * (h / 3)) b c a ⊎ Tri S (3 * (h / 3)) c a b) → normal_at S P (h / 3) ≡ normal (P a) (P b) (P c)
      go (inl i) = normal_first (h / 3) i
      go (inr (inl i)) = normal_first (h / 3) i ∙ sym (normal_turned (P a) (P b) (P c))
      go (inr (inr i)) = normal_first (h / 3) i ∙ normal_turned (P c) (P a) (P b)

-- the scalar product of the normals of a, b, c and d, b, c is above zero
abbrev By : (ℕ → Vector) → ℕ → ℕ → ℕ → ℕ → Type 0
By P a b c d = pos 0 <ℤ dot (normal (P a) (P b) (P c)) (normal (P d) (P b) (P c))

module _ {S : Surface} (R : Closed S) (P : ℕ → Vector) {u w : ℕ} (u≢w : u ≢ w) where
  -- a triangle at u without w, after the collapse
  after : {h x y : ℕ} → Tri S h u x y → x ≢ w → y ≢ w → Tri (collapse S u w) h w x y
  after {h} {x} {y} t n m =
      let x≢u : x ≢ u = λ i. R.proper _ _ _ _ t (sym i) in
      let y≢u : y ≢ u = R.proper _ _ _ _ (spin2 t) in
      let i = rename_miss u w x x≢u in
      let j = rename_miss u w y y≢u in
      let stays = (falls_once S u w t).1 (λ _ q. n (sym i ∙ q), λ p _. n (sym i ∙ p), λ p _. m (sym j ∙ p)) in
      moved (rename_hit u w _ t.from) (ap (rename u w) t.to ∙ i) (ap (rename u w) t.third ∙ j) (corners_are S u w h (alive_from S u w (h / 3) t.lives stays))

  -- its normals, by its corners
  products : {h x y : ℕ} → Tri S h u x y → x ≢ w → y ≢ w →
      dot (normal_at S P (h / 3)) (normal_at (collapse S u w) P (h / 3)) ≡ dot (normal (P u) (P x) (P y)) (normal (P w) (P x) (P y))
  products {h} {x} {y} t n m =
      ap (λ v. dot v (normal_at (collapse S u w) P (h / 3))) (normal_of_tri P t) ∙ ap (dot (normal (P u) (P x) (P y))) (normal_of_tri P (after t n m))

  stands_from : Upright S P u w → {h x y : ℕ} → Tri S h u x y → Stands S P w h
  stands_from U {h} t n m =
      let k : Tri S h u (S.corner (next h)) (S.corner (prev h)) = record { lives = t.lives; from = t.from; to = refl; third = refl } in
      let free : Holds S (h / 3) w → ⊥ = λ p. elim (holds_one k p) [ inl i ↦ u≢w i | inr (inl i) ↦ n i | inr (inr i) ↦ m i ] in
      let above = U (h / 3) (record { lives = t.lives; held = holds_from k; free = free }) in
      subst (λ v. By P v (S.corner (next h)) (S.corner (prev h)) w) (sym t.from) (subst (λ z. pos 0 <ℤ z) (products k n m) above)

  upright_from : ((h x y : ℕ) → Tri S h u x y → Stands S P w h) → Upright S P u w
  upright_from f t M =
      let k = first_of S t M.lives in
      elim M.held [
        | inl i ↦ near (moved i refl refl k) (omega arith) (λ j. M.free (inr (inl j))) (λ j. M.free (inr (inr j)))
        | inr (inl i) ↦ near (moved i refl refl (spin k)) (next_triangle (3 * t) ∙ third_of t) (λ j. M.free (inr (inr j))) (λ j. M.free (inl j))
        | inr (inr i) ↦ near (moved i refl refl (spin2 k)) (next_triangle (next (3 * t)) ∙ next_triangle (3 * t) ∙ third_of t) (λ j. M.free (inl j)) (λ j. M.free (inr (inl j)))
      ]
    where
      third_of : (t : ℕ) → (3 * t) / 3 ≡ t
      third_of t = omega arith

      near : {h x y : ℕ} → Tri S h u x y → h / 3 ≡ t → x ≢ w → y ≢ w → pos 0 <ℤ dot (normal_at S P t) (normal_at (collapse S u w) P t)
      near {h} {x} {y} k p n m =
          let l : Tri S h u (S.corner (next h)) (S.corner (prev h)) = record { lives = k.lives; from = k.from; to = refl; third = refl } in
          let n' : S.corner (next h) ≢ w = λ i. n (sym k.to ∙ i) in
          let m' : S.corner (prev h) ≢ w = λ i. m (sym k.third ∙ i) in
          let above = f h x y k n' m' in
          subst (λ q. pos 0 <ℤ dot (normal_at S P q) (normal_at (collapse S u w) P q)) p
          (subst (λ z. pos 0 <ℤ z) (sym (products l n' m')) (subst (λ v. By P v (S.corner (next h)) (S.corner (prev h)) w) k.from above))

-- the sign of a product in machine integers
test_true : (b : Bool) → T b → b ≡ true
test_true true p = refl
test_true false p = absurd p

above_told : (d : ℤ) → Exactly (lt_z (pos 0) d) (pos 0 <ℤ d)
above_told d = exactly_from (lt_z (pos 0) d) (λ i. record { lt = subst T (sym i) tt }) (λ p. test_true (lt_z (pos 0) d) p.lt)

pub sign_told : (r d : ℤ) → r ≡ d → Bounded 50739007500 r → Exactly (lt_z (pos 0) (to_z w64 (of_z w64 r))) (pos 0 <ℤ d)
sign_told r d i b = subst (λ z. Exactly (lt_z (pos 0) z) (pos 0 <ℤ d)) (sym (same_64 50739007500 r b (lit< tt) ∙ i)) (above_told d)

carried : (P : ℕ → Vector) {a b c d a' b' c' d' : ℕ} → a ≡ a' → b ≡ b' → c ≡ c' → d ≡ d' → By P a b c d → By P a' b' c' d'
carried P {a} {b} {c} {d} {a'} {b'} {c'} {d'} i j k l x =
    subst (λ n. By P n b' c' d') i (subst (λ n. By P a n c' d') j (subst (λ n. By P a b n d') k (subst (λ n. By P a b c n) l x)))

-- the triangle of h by the numbers that are read
pub stands_told : (S : Surface) (P : ℕ → Vector) (h : ℕ) {w a b c d : ℕ} → a ≡ S.corner h → b ≡ S.corner (next h) → c ≡ S.corner (prev h) → d ≡ w → b ≢ w → c ≢ w →
    (r : Bool) → Exactly r (By P a b c d) → Exactly r (Stands S P w h)
stands_told S P h i j k l n m true x = λ _ _. carried P i j k l x
stands_told S P h i j k l n m false x = λ f. x (carried P (sym i) (sym j) (sym k) (sym l) (f (λ e. n (j ∙ e)) (λ e. m (k ∙ e))))

-- the walk round the vertex at which o begins, w being where o ends
module _ (e : HalfEdges) (P : ℕ → Vector) (o : ℕ) (live : (held e).alive (o / 3) ≡ true) {w : ℕ} (to : w ≡ (held e).corner (next o)) where
  differ : (held e).corner o ≢ w
  differ i = (closed_held e).proper _ _ _ _ (tri_at (held e) o live) (i ∙ to)

  pub upright_walked : ((h x y : ℕ) → Tri (held e) h ((held e).corner o) x y → Stands (held e) P w h) → Upright (held e) P ((held e).corner o) ((held e).corner (next o))
  upright_walked f = subst (λ v. Upright (held e) P ((held e).corner o) v) to (upright_from (closed_held e) P differ f)

  pub upright_met : Upright (held e) P ((held e).corner o) ((held e).corner (next o)) → {h x y : ℕ} → Tri (held e) h ((held e).corner o) x y → Stands (held e) P w h
  upright_met U t = stands_from (closed_held e) P differ (subst (λ v. Upright (held e) P ((held e).corner o) v) (sym to) U) t
