-- The outcome of a collapse is closed just where the local test passes.
use Rattle.std.proofs.Common.{ℕ}
use Rattle.surface.specs.Surface.{Surface, Tri}
use Rattle.surface.specs.Collapse.{rename, collapse}
use Rattle.surface.specs.Laws.{LocalTest}
use Rattle.surface.proofs.Tris.{spin}
use Rattle.surface.proofs.Sealed.{Sealed}
use Rattle.surface.proofs.Pinch.{Pinch}
use Rattle.surface.proofs.Local.{kept_aw}
use Rattle.surface.proofs.Both.{closes, link}
use Rattle.surface.proofs.Pinched.{pinch}
use Rattle.surface.proofs.FromRings.{sealed}
use Rattle.surface.proofs.ToRings.{closed}

-- the triangle across from the side (w, a) lives on
pub some_left : {S N : Surface} {φ : ℕ → ℕ} (K : Sealed S) {e f u w a b : ℕ} (P : Pinch S N φ e f u w a b) → (h : ℕ) × (x : ℕ) × (y : ℕ) × (z : ℕ) × Tri N h x y z
some_left {φ = φ} K {w = w} {a = a} P = let (h, z, t) = K.matched (spin P.te) in (h, φ a, φ w, φ z, P.I.up t (kept_aw K P t))

pub local_test : LocalTest
local_test S C e f u w a b te tf =
    let K : Sealed S = sealed C in
    let P : Pinch S (collapse S u w) (rename u w) e f u w a b = pinch K te tf in
    (λ D. link K P (sealed D), λ A. closed (closes K P A) (some_left K P))
