-- Along the log the surface stays closed, with one Euler number and one number of pieces.
use Rattle.std.proofs.Common.{ℕ, zero, suc, ◌≤◌, List, length, vec_items, sym, refl, ◌∙◌, subst, arith}
use Rattle.surface.specs.Surface.{Surface, Within}
use Rattle.surface.specs.Closed.{Closed}
use Rattle.surface.specs.Geometry.{Vector}
use Rattle.surface.proofs.Found.{closed_found, permitted_found}
use Rattle.surface.proofs.Normals.{normals_kept}
use Rattle.surface.proofs.PiecesKept.{pieces_kept}
use Rattle.surface.proofs.Thinned.{euler_kept}
use Rattle.mesh.specs.Laws.{Kin, AlwaysKin, triangle_slots, vertex_slots}
use Rattle.mesh.specs.Model.{opening, points}
use Rattle.mesh.specs.Stages.{record_at, stage, AllPermitted}
use Rattle.mesh.specs.declared.record.Record.{Record}
use Rattle.mesh.proofs.Along.{stage_closed, stage_within, whole_within}
use Rattle.mesh.proofs.Meshes.{now_is}

module _ (S : Surface) (log : List Record) (P : ℕ → Vector) (C : ∥ Closed S ∥₁) (A : AllPermitted S P log) (T V : ℕ) (W : Within S T V) where
  pub stage_kin : (k : ℕ) → k ≤ length log → Kin S (stage S log k) P T V
  unfolding stage
  stage_kin zero p = record { closed = closed_found S C; euler_same = refl; pieces_same = λ n. (λ x. x, λ x. x); normals = λ x. x }
  stage_kin (suc k) p =
      let K = stage_closed S log P C A k (omega arith) in
      let u = (record_at log k).u in
      let w = (record_at log k).w in
      let Q = permitted_found (stage S log k) K P u w (A k (omega arith)) in
      let R = stage_kin k (omega arith) in
      record {
        closed = Q.closed;
        euler_same = (euler_kept (stage S log k) K T V (stage_within S log T V k W) u w Q.side Q.closed).euler_kept ∙ R.euler_same;
        pieces_same = λ n. let (f, g) = pieces_kept (stage S log k) K u w Q.side Q.closed n in let (a, b) = R.pieces_same n in (λ x. f (a x), λ x. b (g x));
        normals = λ z. normals_kept (stage S log k) K P u w Q (R.normals z);
      }

pub always_kin : AlwaysKin
always_kin m =
    let S = opening m in
    let L = vec_items m.log in
    let T = triangle_slots m in
    let V = vertex_slots m in
    let p : m.position ≤ length L = let a = m.placed in let b = m.log.ok.0 in omega arith in
    subst (λ (N : Surface). Kin S N (points m) T V) (sym (now_is m))
    (stage_kin S L (points m) m.begun m.permitted T V (whole_within (vec_items m.opened) (length (vec_items m.positions))) m.position p)
