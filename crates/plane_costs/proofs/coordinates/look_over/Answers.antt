use Rattle.std.proofs.Common.{ℕ, List, vec_items, ap, ◌∙◌, subst}
use Rattle.geometry.specs.declared.Position.{Position}
use Rattle.gathering.specs.Model.{point_of}
use Rattle.mesh.specs.declared.mesh.Mesh.{Mesh}
use Rattle.planes.specs.Exact.{Bytes}
use Rattle.plane_costs.proofs.coordinates.look_over.Goals as goal

pub returns : goal.returns
returns c =
    let same = c.positions.ensures.value ∙ ap (λ (m : Mesh). vec_items m.positions) c.mesh.ensures.value in
    record { bytes = subst (λ (ps : List Position). (v : ℕ) → Bytes (point_of ps v)) same c.look_at.ensures.bytes }
