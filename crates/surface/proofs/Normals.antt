-- A permitted collapse makes no normal zero.
use Rattle.std.proofs.Common.{◌≡◌, ℕ, ◌+◌, ◌*◌, ◌/◌, true, ◌≢◌, ◌⊎◌, pos, ◌<ℤ◌, sym, ap, ◌∙◌, subst, inl, inr, arith}
use native.Mathlib.Decide.{ℕ_discrete}
use lib.IntN.{*ℤ-zero}
use Rattle.std.proofs.lemmas.Int.{ints}
use Rattle.surface.specs.Surface.{Surface}
use Rattle.surface.specs.Collapse.{rename, collapse, Holds, Moved}
use Rattle.surface.specs.Geometry.{Vector, dot, normal_at, null}
use Rattle.surface.specs.Laws.{NormalsKept}
use Rattle.surface.proofs.Tris.{first_of}
use Rattle.surface.proofs.Collapse.{rename_hit, rename_miss, rename_to, first_once, alive_parts, corner_is}

dot_null : (n : Vector) → dot n null ≡ pos 0
dot_null n = rw (*ℤ-zero n.x, *ℤ-zero n.y, *ℤ-zero n.z)

not_above : pos 0 <ℤ pos 0 → ⊥
not_above h = omega (arith, ints)

-- x and y are not both w, with w for u
abbrev Not : ℕ → ℕ → ℕ → ℕ → Type 0
Not u w x y = rename u w x ≡ w → rename u w y ≡ w → ⊥

-- a triangle that stays does not hold both u and w
pub not_two : (S : Surface) (u w t : ℕ) → u ≢ w → (collapse S u w).alive t ≡ true → Holds S t u → Holds S t w → ⊥
not_two S u w t n l p q =
    let (lives, stays) = alive_parts S u w t l in
    let (i, j, k) = (first_once S u w t _ _ _ (first_of S t lives)).0 stays in
    go p q i j k
  where
    meet : {x y : ℕ} → Not u w x y → x ≡ u → y ≡ w → ⊥
    meet {x} {y} f i j = f (rename_hit u w x i) (rename_to u w y j)

    meet' : {x y : ℕ} → Not u w y x → x ≡ u → y ≡ w → ⊥
    meet' {x} {y} f i j = f (rename_to u w y j) (rename_hit u w x i)

    go : {a b c : ℕ} → (a ≡ u) ⊎ ((b ≡ u) ⊎ (c ≡ u)) → (a ≡ w) ⊎ ((b ≡ w) ⊎ (c ≡ w)) → Not u w a b → Not u w b c → Not u w c a → ⊥
    go (inl p) (inl q) i j k = n (sym p ∙ q)
    go (inl p) (inr (inl q)) i j k = meet i p q
    go (inl p) (inr (inr q)) i j k = meet' k p q
    go (inr (inl p)) (inl q) i j k = meet' i p q
    go (inr (inl p)) (inr (inl q)) i j k = n (sym p ∙ q)
    go (inr (inl p)) (inr (inr q)) i j k = meet j p q
    go (inr (inr p)) (inl q) i j k = meet k p q
    go (inr (inr p)) (inr (inl q)) i j k = meet' j p q
    go (inr (inr p)) (inr (inr q)) i j k = n (sym p ∙ q)

-- a corner that stays and is not u is left
pub corner_left : (S : Surface) (u w t h : ℕ) → h / 3 ≡ t → (collapse S u w).alive t ≡ true → S.corner h ≢ u → (collapse S u w).corner h ≡ S.corner h
corner_left S u w t h p l n = corner_is S u w h (ap (collapse S u w).alive p ∙ l) ∙ rename_miss u w (S.corner h) n

pub normals_kept : NormalsKept
normals_kept S C P u w M nonzero t l z = go (ℕ_discrete (S.corner (3 * t)) u) (ℕ_discrete (S.corner (3 * t + 1)) u) (ℕ_discrete (S.corner (3 * t + 2)) u)
  where
    u≢w : u ≢ w
    u≢w = let (h, a, s) = M.side in C.proper h u w a s

    held : Holds S t u → ⊥
    held k =
        let m : Moved S u w t = record { lives = (alive_parts S u w t l).0; held = k; free = not_two S u w t u≢w l k } in
        not_above (subst (λ x. pos 0 <ℤ x) (ap (dot (normal_at S P t)) z ∙ dot_null (normal_at S P t)) (M.upright t m))

    left : S.corner (3 * t) ≢ u → S.corner (3 * t + 1) ≢ u → S.corner (3 * t + 2) ≢ u → normal_at S P t ≡ normal_at (collapse S u w) P t
    left i j k =
        let p : (collapse S u w).corner (3 * t) ≡ S.corner (3 * t) = corner_left S u w t (3 * t) (omega arith) l i in
        let q : (collapse S u w).corner (3 * t + 1) ≡ S.corner (3 * t + 1) = corner_left S u w t (3 * t + 1) (omega arith) l j in
        let r : (collapse S u w).corner (3 * t + 2) ≡ S.corner (3 * t + 2) = corner_left S u w t (3 * t + 2) (omega arith) l k in
        rw (p, q, r)

    go : Dec (S.corner (3 * t) ≡ u) → Dec (S.corner (3 * t + 1) ≡ u) → Dec (S.corner (3 * t + 2) ≡ u) → ⊥
    go (yes i) _ _ = held (inl i)
    go (no i) (yes j) _ = held (inr (inl j))
    go (no i) (no j) (yes k) = held (inr (inr k))
    go (no i) (no j) (no k) = nonzero t (alive_parts S u w t l).0 (left i j k ∙ z)
