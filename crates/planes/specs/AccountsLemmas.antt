-- The sums of quadrics in the account.
use Rattle.std.specs.Prelude.{◌≡◌, ℕ, zero, suc, ◌+◌, ◌*◌, ◌/◌, ◌<◌, ◌≤◌, Bool, true, false, cond, ◌&&◌, ◌⊎◌, List, length, get_or, take, ◌==◌, ◌≢◌, slice_index_or, slice_set}
use Rattle.std.proofs.Common.{sym, subst, ◌∙◌, inl, inr, arith}
use Rattle.std.proofs.Math.Path.{ap}
use Rattle.std.proofs.Math.Numerals.{add-one}
use Rattle.std.proofs.lemmas.List.{length-set, get_or-set_same, get_or-set_other, get_or-take, length-take-le}
use Rattle.std.proofs.lemmas.List.FromFn.{get_or-map-range_with_len, fill_by_all}
use Rattle.std.proofs.lemmas.Bool.{cases_eq, eq-eqb, ne_eqb, cond-true, cond-false}
use Rattle.surface.specs.Surface.{Surface, next, prev}
use Rattle.surface.specs.Geometry.{Vector}
use Rattle.surface.proofs.Tris.{second_is, third_is}
use Rattle.planes.specs.declared.quadric.Quadric.{Quadric}
use Rattle.planes.specs.Quadrics as quadrics
use Rattle.planes.specs.Quadrics.{quadric, plus, Sound}
use Rattle.planes.specs.Accounts.{quadric_at, gathered, opening, Gathered}

-- coefficients stay below 2 ^ 64
pub plus_sound : (q r : Quadric) → Sound (plus q r)
unfolding plus
plus_sound q r =
    record {
      xx = omega arith;
      yy = omega arith;
      zz = omega arith;
      xy = omega arith;
      xz = omega arith;
      yz = omega arith;
      x = omega arith;
      y = omega arith;
      z = omega arith;
      one = omega arith;
    }

zero_sound : Sound quadrics.zero
zero_sound =
    record {
      xx = omega arith;
      yy = omega arith;
      zz = omega arith;
      xy = omega arith;
      xz = omega arith;
      yz = omega arith;
      x = omega arith;
      y = omega arith;
      z = omega arith;
      one = omega arith;
    }

module _ (S : Surface) (P : ℕ → Vector) where
  gathered_sound : (c H : ℕ) → Sound (gathered S P c H)
  unfolding gathered
  gathered_sound c zero = zero_sound
  gathered_sound c (suc h) = go (S.alive (h / 3) && S.corner h == c) (gathered_sound c h)
    where
      go : (b : Bool) → Sound (gathered S P c h) → Sound (cond b (plus (gathered S P c h) (quadric_at S P (h / 3))) (gathered S P c h))
      go true s = plus_sound (gathered S P c h) (quadric_at S P (h / 3))
      go false s = s

  pub opening_sound : (n k : ℕ) → k < n → Sound (slice_index_or (opening S P n) k quadrics.zero)
  opening_sound n k l = subst Sound (sym (get_or-map-range_with_len (λ c. gathered S P c 6144) 0 n k k quadrics.zero l (omega arith))) (gathered_sound k 6144)

  -- one more corner
  module _ (t h g : ℕ) (of : h / 3 ≡ t) (next : g ≡ h + 1) where
    more : (c : ℕ) → gathered S P c g ≡ cond (S.alive t && S.corner h == c) (plus (gathered S P c h) (quadric_at S P t)) (gathered S P c h)
    unfolding gathered
    more c = ap (gathered S P c) (next ∙ add-one h) ∙ ap (λ (k : ℕ). cond (S.alive k && S.corner h == c) (plus (gathered S P c h) (quadric_at S P k)) (gathered S P c h)) of

    dead : S.alive t ≡ false → (c : ℕ) → gathered S P c g ≡ gathered S P c h
    dead d c = more c ∙ ap (λ (b : Bool). cond (b && S.corner h == c) (plus (gathered S P c h) (quadric_at S P t)) (gathered S P c h)) d

    live : S.alive t ≡ true → (c : ℕ) → gathered S P c g ≡ cond (S.corner h == c) (plus (gathered S P c h) (quadric_at S P t)) (gathered S P c h)
    live d c = more c ∙ ap (λ (b : Bool). cond (b && S.corner h == c) (plus (gathered S P c h) (quadric_at S P t)) (gathered S P c h)) d

    -- the quadric is added to the entry of the corner
    pub gathered_more : S.alive t ≡ true → (v : ℕ) (q : Quadric) (xs ys : List Quadric) → v ≡ S.corner h → q ≡ quadric_at S P t →
        ys ≡ slice_set xs v (plus (slice_index_or xs v quadrics.zero) q) → Gathered S P h xs → Gathered S P g ys
    gathered_more d v q xs ys is made put old c l = go (cases_eq c v)
      where
        low : c < length xs
        low = omega (arith, ap length put, length-set xs v (plus (slice_index_or xs v quadrics.zero) q))

        go : (c ≡ v) ⊎ (c ≢ v) → slice_index_or ys c quadrics.zero ≡ gathered S P c g
        go (inl e) =
            ap (λ zs. get_or zs c quadrics.zero) put
            ∙ ap (λ k. get_or (slice_set xs k (plus (slice_index_or xs k quadrics.zero) q)) c quadrics.zero) (sym e)
            ∙ get_or-set_same xs c (plus (slice_index_or xs c quadrics.zero) q) quadrics.zero low
            ∙ ap (λ x. plus x q) (old c low)
            ∙ ap (plus (gathered S P c h)) made
            ∙ sym (live d c ∙ cond-true (S.corner h == c) _ _ (eq-eqb (S.corner h) c (sym is ∙ sym e)))
        go (inr n) =
            ap (λ zs. get_or zs c quadrics.zero) put
            ∙ get_or-set_other xs v c (plus (slice_index_or xs v quadrics.zero) q) quadrics.zero n
            ∙ old c low
            ∙ sym (live d c ∙ cond-false (S.corner h == c) _ _ (ne_eqb (S.corner h) c (λ e. n (sym e ∙ sym is))))

  -- a dead triangle adds nothing
  pub gathered_dead : (t : ℕ) (xs : List Quadric) → S.alive t ≡ false → Gathered S P (3 * t) xs → Gathered S P (3 * t + 3) xs
  gathered_dead t xs d old c l =
      old c l
      ∙ sym (dead t (3 * t + 2) (3 * t + 3) (omega arith) (omega arith) d c ∙ dead t (3 * t + 1) (3 * t + 2) (omega arith) (omega arith) d c ∙ dead t (3 * t) (3 * t + 1) (omega arith) (omega arith) d c)

  -- a live triangle adds its quadric to the entries of its three corners
  module _ (t : ℕ) (lives : S.alive t ≡ true) (a b c : ℕ) (p q r : Vector) (k : Quadric) (ws xs ys zs : List Quadric) where
    pub gathered_triangle : a ≡ S.corner (3 * t) → b ≡ S.corner (next (3 * t)) → c ≡ S.corner (prev (3 * t)) → p ≡ P a → q ≡ P b → r ≡ P c → k ≡ quadric p q r →
        xs ≡ slice_set ws a (plus (slice_index_or ws a quadrics.zero) k) → ys ≡ slice_set xs b (plus (slice_index_or xs b quadrics.zero) k) → zs ≡ slice_set ys c (plus (slice_index_or ys c quadrics.zero) k) →
        Gathered S P (3 * t) ws → Gathered S P (3 * t + 3) zs
    unfolding quadric_at
    gathered_triangle i j l pi pj pl made x y z old =
        let j' : b ≡ S.corner (3 * t + 1) = j ∙ ap S.corner (second_is t) in
        let l' : c ≡ S.corner (3 * t + 2) = l ∙ ap S.corner (third_is t) in
        let is : k ≡ quadric_at S P t =
        made ∙ ap (λ v. quadric v q r) (pi ∙ ap P i) ∙ ap (λ v. quadric (P (S.corner (3 * t))) v r) (pj ∙ ap P j') ∙ ap (quadric (P (S.corner (3 * t))) (P (S.corner (3 * t + 1)))) (pl ∙ ap P l') in
        let one = gathered_more t (3 * t) (3 * t + 1) (omega arith) (omega arith) lives a k ws xs i is x old in
        let two = gathered_more t (3 * t + 1) (3 * t + 2) (omega arith) (omega arith) lives b k xs ys j' is y one in
        gathered_more t (3 * t + 2) (3 * t + 3) (omega arith) (omega arith) lives c k ys zs l' is z two

  pub gathered_none : (xs : List Quadric) → ((c : ℕ) → c < length xs → slice_index_or xs c quadrics.zero ≡ quadrics.zero) → Gathered S P 0 xs
  unfolding gathered
  gathered_none xs all = all

  -- the opened entries
  pub gathered_opening : (n : ℕ) (xs : List Quadric) → n ≤ length xs → Gathered S P 6144 xs → take n xs ≡ opening S P n
  gathered_opening n xs l all =
      fill_by_all (λ c. gathered S P c 6144) (take n xs) n quadrics.zero (length-take-le n xs l) (λ k m. get_or-take n xs k quadrics.zero m ∙ all k (omega arith))
