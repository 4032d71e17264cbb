-- Every opened surface is consistent.
use Rattle.std.proofs.Common.{Ok}
use mathlib.Core.Logic.{∥∥₁_elim, ∥∥₁_map}
use mathlib.Core.HLevel.{⊥_prop}
use Rattle.std.specs.Coded.{Coded-set, coded_ℕ, coded_ℤ}
use Rattle.judging.specs.Verdict.{JudgedSurface}
use Rattle.judging.specs.declared.verdict.Counts.{Counts}
use Rattle.mesh.specs.Laws.{triangle_slots, vertex_slots}
use Rattle.mesh.specs.Model.{opening, points}
use Rattle.mesh.specs.declared.mesh.Mesh.{Mesh}
use Rattle.order.specs.declared.Ordered.{Ghosts as Order}
use Rattle.gauge.specs.declared.Gauge.{Ghosts}
use Rattle.opened_surface.specs.Consistent.{Consistent}
use Rattle.opened_surface.specs.declared.opened.Opened.{Opened}
use Rattle.opened_surface.proofs.Books.{sensible}
use Rattle.opened_surface.proofs.PiecesFound.{pieces_found}

abbrev JudgedOpen : Mesh → Counts → Type 0
JudgedOpen mesh n = JudgedSurface (opening mesh) (points mesh) (triangle_slots mesh) (vertex_slots mesh) (Ok n)

-- from the bare fact that the surface was accepted with its counts to all that this says
judged_found : (mesh : Mesh) (n : Counts) → ∥ JudgedOpen mesh n ∥₁ → JudgedOpen mesh n
judged_found mesh n s =
    let K = sensible mesh in (
      K.closed,
      (λ t f. ∥∥₁_elim s ⊥_prop (λ J. J.1 t f)),
      record {
        vertices_are = ∥∥₁_elim s (Coded-set coded_ℕ _ _) (λ J. J.2.vertices_are);
        triangles_are = ∥∥₁_elim s (Coded-set coded_ℕ _ _) (λ J. J.2.triangles_are);
        euler_is = ∥∥₁_elim s (Coded-set coded_ℤ _ _) (λ J. J.2.euler_is);
        pieces_are = pieces_found (opening mesh) (triangle_slots mesh) (vertex_slots mesh) n.pieces K.closed.known K.within (∥∥₁_map s (λ J. J.2.pieces_are));
      },
    )

pub consistent : {G C E Z : Type 0} {m : Ghosts G C E Z} {o : Order C} (x : Opened G C E Z m o) → Consistent m o x
consistent x = record { tied = x.tied; judged = judged_found x.thinning.mesh x.counts x.judged }
