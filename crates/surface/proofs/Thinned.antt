-- A collapse with a closed outcome takes two triangles and one vertex, and keeps the Euler number.
use Rattle.std.proofs.Common.{◌≡◌, ℕ, ◌+◌, ◌*◌, ◌/◌, true, ◌≢◌, ◌⊎◌, pos, ◌+ℤ◌, ◌-ℤ◌, sym, refl, ap, ◌∙◌, inl, inr, arith}
use Rattle.std.proofs.lemmas.Int.{ints}
use Rattle.surface.specs.Surface.{Surface, next, Tri, Within}
use Rattle.surface.specs.Collapse.{rename, collapse}
use Rattle.surface.specs.Euler.{triangles, vertices, edges, euler}
use Rattle.surface.specs.Laws.{EulerKept}
use Rattle.surface.proofs.Counting.{count_less, count_less_two}
use Rattle.surface.proofs.Flags.{flag_same, flag_false}
use Rattle.surface.proofs.Tris.{next_triangle, spin, spin2, moved, shares, first_of}
use Rattle.surface.proofs.Sealed.{Sealed}
use Rattle.surface.proofs.Pinch.{Pinch, Gone, uwa, wau, auw, wub, ubw, bwu, fate, u≢w, w≢a, a≢u}
use Rattle.surface.proofs.Local.{Lives}
use Rattle.surface.proofs.Collapse.{alive_parts, present_parts, present_from}
use Rattle.surface.proofs.Pinched.{pinch}
use Rattle.surface.proofs.FromRings.{sealed}
use Rattle.surface.proofs.Sides.{sides_counted_of}

module _ {S N : Surface} {φ : ℕ → ℕ} (K : Sealed S) {e f u w a b : ℕ} (P : Pinch S N φ e f u w a b) where
  -- the two triangles at the side are two
  pub other : e / 3 ≢ f / 3
  other p =
      elim (shares P.te P.tf (sym p)) [
        | inl (i, j) ↦ u≢w K P (sym i)
        | inr (inl (i, j)) ↦ a≢u K P (sym j)
        | inr (inr (i, j)) ↦ w≢a K P i
      ]

  gone_is : {h x y z : ℕ} → Tri S h x y z → Gone u w a b x y z → (h / 3 ≡ e / 3) ⊎ (h / 3 ≡ f / 3)
  gone_is t (uwa i j k) = inl (ap (λ n. n / 3) (K.single (moved i j refl t) P.te))
  gone_is t (wau i j k) = inl (ap (λ n. n / 3) (K.single (moved i j refl t) (spin P.te)) ∙ next_triangle e)
  gone_is t (auw i j k) = inl (ap (λ n. n / 3) (K.single (moved i j refl t) (spin2 P.te)) ∙ next_triangle (next e) ∙ next_triangle e)
  gone_is t (wub i j k) = inr (ap (λ n. n / 3) (K.single (moved i j refl t) P.tf))
  gone_is t (ubw i j k) = inr (ap (λ n. n / 3) (K.single (moved i j refl t) (spin P.tf)) ∙ next_triangle f)
  gone_is t (bwu i j k) = inr (ap (λ n. n / 3) (K.single (moved i j refl t) (spin2 P.tf)) ∙ next_triangle (next f) ∙ next_triangle f)

  -- a triangle that is neither of the two stays
  pub stays : (t : ℕ) → t ≢ e / 3 → t ≢ f / 3 → S.alive t ≡ true → N.alive t ≡ true
  stays t i j l = go (fate K P (first_of S t l))
    where
      p : (3 * t) / 3 ≡ t
      p = omega arith

      go : Lives N (3 * t) ⊎ Gone u w a b (S.corner (3 * t)) (S.corner (3 * t + 1)) (S.corner (3 * t + 2)) → N.alive t ≡ true
      go (inl m) = ap N.alive (sym p) ∙ m
      go (inr g) = elim (gone_is (first_of S t l) g) [ inl k ↦ absurd (i (sym p ∙ k)) | inr k ↦ absurd (j (sym p ∙ k)) ]

-- the Euler numbers, from the counts
same_euler : (F F' E E' V V' : ℕ) → F' + 2 ≡ F → V' + 1 ≡ V → 2 * E ≡ 3 * F → 2 * E' ≡ 3 * F' →
    (pos V' -ℤ pos E') +ℤ pos F' ≡ (pos V -ℤ pos E) +ℤ pos F
same_euler F F' E E' V V' f v e e' = let d : E' + 3 ≡ E = omega arith in omega (arith, ints)

module _ {S : Surface} (K : Sealed S) (T V : ℕ) (W : Within S T V) {e f u w a b : ℕ} (P : Pinch S (collapse S u w) (rename u w) e f u w a b) where
  pub within_kept : Within (collapse S u w) T V
  within_kept = record { triangles = λ t l. W.triangles t (alive_parts S u w t l).0; vertices = λ v p. W.vertices v (present_parts S u w v p).0 }

  pub two_taken : triangles (collapse S u w) T + 2 ≡ triangles S T
  two_taken =
      count_less_two S.alive (collapse S u w).alive (e / 3) (f / 3) T P.te.lives P.tf.lives
      (flag_false _ (λ l. P.I.differ P.te l P.J.join)) (flag_false _ (λ l. P.I.differ P.tf l (sym P.J.join))) (other K P)
      (λ t i j. flag_same (S.alive t) ((collapse S u w).alive t) (stays K P t i j) (λ l. (alive_parts S u w t l).0))
      (W.triangles (e / 3) P.te.lives) (W.triangles (f / 3) P.tf.lives)

  pub one_taken : vertices (collapse S u w) V + 1 ≡ vertices S V
  one_taken =
      count_less S.present (collapse S u w).present u V (K.known P.te) (flag_false _ (λ l. (present_parts S u w u l).1 refl))
      (λ t i. flag_same (S.present t) ((collapse S u w).present t) (λ l. present_from S u w t l i) (λ l. (present_parts S u w t l).0))
      (W.vertices u (K.known P.te))

pub euler_kept : EulerKept
unfolding euler
euler_kept S C T V W u w (e, a, te) D =
    let K : Sealed S = sealed C in
    let (f, b, tf) = K.matched te in
    let P : Pinch S (collapse S u w) (rename u w) e f u w a b = pinch K te tf in
    let N : Surface = collapse S u w in
    let two : triangles N T + 2 ≡ triangles S T = two_taken K T V W P in
    let one : vertices N V + 1 ≡ vertices S V = one_taken K T V W P in
    record {
      triangles_taken = two;
      vertices_taken = one;
      euler_kept = same_euler (triangles S T) (triangles N T) (edges S T V) (edges N T V) (vertices S V) (vertices N V) two one
          (sides_counted_of K T V W) (sides_counted_of (sealed D) T V (within_kept K T V W P));
    }
