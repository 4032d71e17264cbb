-- The collapse of u to w.
use Rattle.std.specs.Prelude.{◌≡◌, ℕ, ◌+◌, ◌*◌, ◌/◌, Bool, true, cond, not, ◌&&◌, ◌||◌, ◌⊎◌, ◌==◌, nat_eq}
use Rattle.surface.specs.Surface.{Surface}

-- w for u
unfoldable pub rename : ℕ → ℕ → ℕ → ℕ
rename u w x = cond (x == u) w x

-- with w for u, triangle t holds w twice
unfoldable pub falls : Surface → ℕ → ℕ → ℕ → Bool
falls S u w t =
    let x : Bool = nat_eq (rename u w (S.corner (3 * t))) w in
    let y : Bool = nat_eq (rename u w (S.corner (3 * t + 1))) w in
    let z : Bool = nat_eq (rename u w (S.corner (3 * t + 2))) w in
    (x && y) || ((y && z) || (z && x))

-- the live triangles get w for u; those that would then hold w twice become dead and keep their corners; u becomes dead
unfoldable pub collapse : Surface → ℕ → ℕ → Surface
collapse S u w =
    record {
      corner = λ h. cond (S.alive (h / 3) && not (falls S u w (h / 3))) (rename u w (S.corner h)) (S.corner h);
      alive = λ t. S.alive t && not (falls S u w t);
      present = λ v. S.present v && not (v == u);
    }

-- v is a corner of triangle t
abbrev pub Holds : Surface → ℕ → ℕ → Type 0
Holds S t v = (S.corner (3 * t) ≡ v) ⊎ ((S.corner (3 * t + 1) ≡ v) ⊎ (S.corner (3 * t + 2) ≡ v))

-- triangle t is live, and holds u and not w
pub record Moved (S : Surface) (u w t : ℕ) : Type 0 where
  pub lives : S.alive t ≡ true
  pub held : Holds S t u
  pub free : Holds S t w → ⊥
