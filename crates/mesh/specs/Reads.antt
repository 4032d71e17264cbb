-- What is read from half-edges, S being the surface that they hold.
use Rattle.std.specs.Prelude.{◌≡◌, ℕ, Bool, true, false, ◌≢◌, ◌⊎◌, pos, ◌<ℤ◌, Some, None, Option}
use Rattle.surface.specs.Surface.{Surface, next, prev, Tri, Side}
use Rattle.surface.specs.Geometry.{Vector, dot, normal}

-- a half-edge that begins at v; there is none just where v is no live vertex
abbrev pub Outgoing : Surface → ℕ → Option ℕ → Type 0
Outgoing S v None = S.present v ≡ true → ⊥
Outgoing S v (Some h) = (a : ℕ) × (b : ℕ) × Tri S h v a b

-- the half-edge from u to w; there is none just where (u, w) is no side
abbrev pub Leads : Surface → ℕ → ℕ → Option ℕ → Type 0
Leads S u w None = Side S u w → ⊥
Leads S u w (Some e) = (c : ℕ) × Tri S e u w c

-- u and w have no common neighbours but a and b
abbrev pub OnlyCommon : Surface → ℕ → ℕ → ℕ → ℕ → Type 0
OnlyCommon S u w a b = (c : ℕ) → Side S u c → Side S w c → (c ≡ a) ⊎ (c ≡ b)

-- the half-edge h leads to no neighbour of w but a and b
abbrev pub Clear : Surface → ℕ → ℕ → ℕ → ℕ → Type 0
Clear S w a b h = Side S w (S.corner (next h)) → (S.corner (next h) ≡ a) ⊎ (S.corner (next h) ≡ b)

-- an answer that is true just where P holds
abbrev pub Exactly : Bool → Type 0 → Type 0
Exactly true P = P
Exactly false P = P → ⊥

-- the triangle of h holds w, or has a normal whose scalar product with the normal that it gets is above zero, where its corner
-- at h moves to w; P gives the points of the vertices
abbrev pub Stands : Surface → (ℕ → Vector) → ℕ → ℕ → Type 0
Stands S P w h =
    S.corner (next h) ≢ w → S.corner (prev h) ≢ w →
    pos 0 <ℤ dot (normal (P (S.corner h)) (P (S.corner (next h))) (P (S.corner (prev h)))) (normal (P w) (P (S.corner (next h))) (P (S.corner (prev h))))
