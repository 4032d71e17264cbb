-- A collapse keeps the stars of the vertices away from it, and whether a collapse is permitted is told from two stars.
use Rattle.std.proofs.Common.{◌≡◌, ℕ, ◌/◌, false, ◌≢◌, ◌↔◌, pos, ◌<ℤ◌, sym, refl, ap, ◌∙◌, subst, subst₂}
use Rattle.surface.specs.Surface.{Surface, Tri, Side}
use Rattle.surface.specs.Closed.{Closed}
use Rattle.surface.specs.Geometry.{Vector, dot}
use Rattle.surface.specs.Collapse.{rename, falls, collapse, Moved}
use Rattle.surface.specs.Permitted.{Upright, Permitted, Three, HasThree, Link}
use Rattle.surface.specs.Changes.{SameStar, StarKept, PermittedLocal}
use Rattle.surface.proofs.Tris.{spin, spin2, moved, tri_at}
use Rattle.surface.proofs.Collapse.{rename_hit, rename_miss, falls_once, alive_parts, alive_from, corners_are}
use Rattle.surface.proofs.LocalTest.{local_test}
use Rattle.surface.proofs.Alike.{same_star_swap, Alike, alike, alike_swap, alike_holds, alike_normal, alike_after}

pub star_kept : StarKept
star_kept S C u w _ x nu nw far = record { there = λ h a b t. there t; back = λ h a b t. back t }
  where
    same : {v : ℕ} → v ≢ u → rename u w v ≡ v
    same {v} n = rename_miss u w v n

    -- the other corners are not u
    second : {h a b : ℕ} → Tri S h x a b → a ≢ u
    second {h} {a} {b} t i = far (subst (λ v. Side S v x) i (C.matched h x a b t))

    third : {h a b : ℕ} → Tri S h x a b → b ≢ u
    third {h} {a} {b} t i = far (subst (λ v. Side S v x) i (_, _, spin2 t))

    there : {h a b : ℕ} → Tri S h x a b → Tri (collapse S u w) h x a b
    there {h} {a} {b} t =
        let ra : rename u w a ≡ a = same (second t) in
        let rb : rename u w b ≡ b = same (third t) in
        let stays : falls S u w (h / 3) ≡ false =
        (falls_once S u w t).1 (λ i j. nw (sym (same nu) ∙ i), λ i j. C.proper _ _ _ _ (spin t) (sym ra ∙ i ∙ sym j ∙ rb), λ i j. nw (sym (same nu) ∙ j)) in
        let k = corners_are S u w h (alive_from S u w (h / 3) t.lives stays) in
        moved (ap (rename u w) t.from ∙ same nu) (ap (rename u w) t.to ∙ ra) (ap (rename u w) t.third ∙ rb) k

    back : {h a b : ℕ} → Tri (collapse S u w) h x a b → Tri S h x a b
    back {h} {a} {b} t =
        let k = corners_are S u w h t.lives in
        let first : S.corner h ≢ u = λ i. nw (sym t.from ∙ k.from ∙ rename_hit u w (S.corner h) i) in
        let s = moved (sym (same first) ∙ sym k.from ∙ t.from) refl refl (tri_at S h (alive_parts S u w (h / 3) t.lives).0) in
        moved refl (sym (same (second s)) ∙ sym k.to ∙ t.to) (sym (same (third s)) ∙ sym k.third ∙ t.third) s

side_there : {S N : Surface} {x : ℕ} → SameStar S N x → {y : ℕ} → Side S x y → Side N x y
side_there Q {y} (h, c, t) = (h, c, Q.there h y c t)

pub side_local : {S N : Surface} {x : ℕ} → SameStar S N x → (y : ℕ) → Side S x y ↔ Side N x y
side_local Q y = (side_there Q, side_there (same_star_swap Q))

has_three : {S N : Surface} {x : ℕ} → SameStar S N x → HasThree S x → HasThree N x
has_three {N = N} {x = x} Q (i, j, k, T) =
    let there : Three N x i j k =
    record {
      first = side_there Q T.first;
      second = side_there Q T.second;
      third = side_there Q T.third;
      apart = T.apart;
      only = λ n s. T.only n (side_there (same_star_swap Q) s);
    } in
    (i, j, k, there)

link_there : {S N : Surface} {x y a b : ℕ} → SameStar S N x → SameStar S N y → Link S x y a b → Link N x y a b
link_there Q R L =
    record {
      common = λ c s t. L.common c (side_there (same_star_swap Q) s) (side_there (same_star_swap R) t);
      large = λ s t. L.large (has_three (same_star_swap Q) s) (has_three (same_star_swap R) t);
    }

closed_there : (S N : Surface) → Closed S → Closed N → (x y : ℕ) → SameStar S N x → SameStar S N y → Side S x y → Closed (collapse S x y) → Closed (collapse N x y)
closed_there S N C D x y Q R (e, a, te) K =
    let (f, b, tf) = C.matched e x y a te in
    let L : Link S x y a b = (local_test S C e f x y a b te tf).0 K in
    (local_test N D e f x y a b (Q.there e y a te) (R.there f x b tf)).1 (link_there Q R L)

-- whether the outcome is closed is told from the two stars
pub closed_local : (S N : Surface) → Closed S → Closed N → (x y : ℕ) → SameStar S N x → SameStar S N y → Side S x y → Closed (collapse S x y) ↔ Closed (collapse N x y)
closed_local S N C D x y Q R s = (closed_there S N C D x y Q R s, closed_there N S D C x y (same_star_swap Q) (same_star_swap R) (side_there Q s))

upright_there : (S N : Surface) (P : ℕ → Vector) (x y : ℕ) → SameStar S N x → Upright S P x y → Upright N P x y
upright_there S N P x y Q U t m =
    let A : Alike N S t = alike N S x t (same_star_swap Q) m.lives m.held in
    let k : Moved S x y t = record { lives = A.two; held = alike_holds A x m.held; free = λ o. m.free (alike_holds (alike_swap A) y o) } in
    subst₂ (λ n o. pos 0 <ℤ dot n o) (sym (alike_normal A P)) (sym (alike_after A P x y)) (U t k)

-- and whether the moved triangles stay upright, from the star of x
pub upright_local : (S N : Surface) (P : ℕ → Vector) (x y : ℕ) → SameStar S N x → Upright S P x y ↔ Upright N P x y
upright_local S N P x y Q = (upright_there S N P x y Q, upright_there N S P x y (same_star_swap Q))

permitted_there : (S N : Surface) → Closed S → Closed N → (P : ℕ → Vector) (x y : ℕ) → SameStar S N x → SameStar S N y → Permitted S P x y → Permitted N P x y
permitted_there S N C D P x y Q R M =
    record {
      side = (side_local Q y).0 M.side;
      closed = (closed_local S N C D x y Q R M.side).0 M.closed;
      upright = (upright_local S N P x y Q).0 M.upright;
    }

pub permitted_local : PermittedLocal
permitted_local S N C D P x y Q R = (permitted_there S N C D P x y Q R, permitted_there N S D C P x y (same_star_swap Q) (same_star_swap R))
