-- A collapse of a side is a pinch.
use Rattle.std.proofs.Common.{◌≡◌, ℕ, ◌/◌, true, ◌≢◌, ◌⊎◌, ◌↔◌, sym, refl, ap, ◌∙◌, subst, inl, inr}
use native.Mathlib.Decide.{ℕ_discrete}
use Rattle.surface.specs.Surface.{Surface, next, prev, Tri}
use Rattle.surface.specs.Collapse.{rename, collapse}
use Rattle.surface.proofs.Tris.{moved, tri_at}
use Rattle.surface.proofs.Sealed.{Sealed}
use Rattle.surface.proofs.Pinch.{Joins, Image, Pinch}
use Rattle.surface.proofs.Collapse.{rename_hit, rename_miss, rename_to, falls_once, alive_parts, alive_from, corners_are, present_parts, present_from}

rename_joins : (u w : ℕ) → u ≢ w → Joins (rename u w) u w
rename_joins u w n =
    record {
      join = rename_hit u w u refl ∙ sym (rename_to u w w refl);
      split = λ x y p. go x y p (ℕ_discrete x u) (ℕ_discrete y u);
    }
  where
    go : (x y : ℕ) → rename u w x ≡ rename u w y → Dec (x ≡ u) → Dec (y ≡ u) → (x ≡ y) ⊎ (((x ≡ u) × (y ≡ w)) ⊎ ((x ≡ w) × (y ≡ u)))
    go x y p (yes i) (yes j) = inl (i ∙ sym j)
    go x y p (yes i) (no j) = inr (inl (i, sym (rename_miss u w y j) ∙ sym p ∙ rename_hit u w x i))
    go x y p (no i) (yes j) = inr (inr (sym (rename_miss u w x i) ∙ p ∙ rename_hit u w y j, j))
    go x y p (no i) (no j) = inl (sym (rename_miss u w x i) ∙ p ∙ rename_miss u w y j)

module _ {S : Surface} (K : Sealed S) (u w : ℕ) where
  differ : u ≢ w → {h a b c : ℕ} → Tri S h a b c → (collapse S u w).alive (h / 3) ≡ true → rename u w a ≢ rename u w b
  differ n {h} {a} {b} {c} t l p = go ((rename_joins u w n).split a b p)
    where
      once : rename u w a ≡ w → rename u w b ≡ w → ⊥
      once = ((falls_once S u w t).0 (alive_parts S u w (h / 3) l).1).0

      go : (a ≡ b) ⊎ (((a ≡ u) × (b ≡ w)) ⊎ ((a ≡ w) × (b ≡ u))) → ⊥
      go (inl i) = K.proper t i
      go (inr (inl (i, j))) = once (rename_hit u w a i) (rename_to u w b j)
      go (inr (inr (i, j))) = once (rename_to u w a i) (rename_hit u w b j)

  vertices : u ≢ w → S.present w ≡ true → (v : ℕ) → ((collapse S u w).present v ≡ true) ↔ ((x : ℕ) × (S.present x ≡ true) × (rename u w x ≡ v))
  vertices n pw v = (there, back)
    where
      there : (collapse S u w).present v ≡ true → (x : ℕ) × (S.present x ≡ true) × (rename u w x ≡ v)
      there p = let (i, j) = present_parts S u w v p in (v, i, rename_miss u w v j)

      by : (x : ℕ) → S.present x ≡ true → Dec (x ≡ u) → (collapse S u w).present (rename u w x) ≡ true
      by x i (yes j) = rw (rename_hit u w x j) (present_from S u w w pw (λ k. n (sym k)))
      by x i (no j) = rw (rename_miss u w x j) (present_from S u w x i j)

      back : (x : ℕ) × (S.present x ≡ true) × (rename u w x ≡ v) → (collapse S u w).present v ≡ true
      back (x, i, j) = subst (λ k. (collapse S u w).present k ≡ true) j (by x i (ℕ_discrete x u))

  image : u ≢ w → S.present w ≡ true → Image S (collapse S u w) (rename u w)
  image n pw =
      record {
        up = λ {h} {a} {b} {c} t l. moved (ap (rename u w) t.from) (ap (rename u w) t.to) (ap (rename u w) t.third) (corners_are S u w h l);
        down = λ {h} {x} {y} {z} t.
            let (i, j) = alive_parts S u w (h / 3) t.lives in
            let k = corners_are S u w h t.lives in (
              S.corner h,
              S.corner (next h),
              S.corner (prev h),
              tri_at S h i,
              sym k.from ∙ t.from,
              sym k.to ∙ t.to,
              sym k.third ∙ t.third,
            );
        differ = differ n;
        stay = λ {h} {a} {b} {c} t i j k.
            alive_from S u w (h / 3) t.lives ((falls_once S u w t).1 (λ p q. i (p ∙ sym q), λ p q. j (p ∙ sym q), λ p q. k (p ∙ sym q)));
        vertex = vertices n pw;
      }

pub pinch : {S : Surface} → Sealed S → {e f u w a b : ℕ} → Tri S e u w a → Tri S f w u b → Pinch S (collapse S u w) (rename u w) e f u w a b
pinch K {u = u} {w = w} te tf = let n : u ≢ w = K.proper te in record { te = te; tf = tf; J = rename_joins u w n; I = image K u w n (K.known tf) }
