-- Six-volumes: each corner may come first.
use Rattle.std.proofs.Common.{◌≡◌, ℕ, [], ◌∷◌, get_or, pos, refl}
use Rattle.surface.specs.Geometry.{Vector, six_volume}
use Rattle.mesh.proofs.Polynomials.{Exp, var, plus, less, times, solve}

-- the six-volume in the numbers of twelve coordinates
abbrev minor : ℕ → ℕ → ℕ → ℕ → ℕ → ℕ → Exp
minor a a' b b' c c' = less (times (less (var b) (var a)) (less (var c') (var a'))) (times (less (var b') (var a')) (less (var c) (var a)))

abbrev volume : ℕ → ℕ → ℕ → ℕ → ℕ → ℕ → ℕ → ℕ → ℕ → ℕ → ℕ → ℕ → Exp
volume a a' a'' b b' b'' c c' c'' p p' p'' =
    plus (plus (times (minor a' a'' b' b'' c' c'') (less (var p) (var a))) (times (minor a'' a b'' b c'' c) (less (var p') (var a')))) (times (minor a a' b b' c c') (less (var p'') (var a'')))

pub volume_turned : (a b c p : Vector) → six_volume a b c p ≡ six_volume b c a p
volume_turned a b c p =
    solve (λ v. get_or (a.x ∷ a.y ∷ a.z ∷ b.x ∷ b.y ∷ b.z ∷ c.x ∷ c.y ∷ c.z ∷ p.x ∷ p.y ∷ p.z ∷ []) v (pos 0))
    (volume 0 1 2 3 4 5 6 7 8 9 10 11) (volume 3 4 5 6 7 8 0 1 2 9 10 11) refl
