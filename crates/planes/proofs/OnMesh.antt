-- The done records of a mesh send each vertex away at most once, and none that is still live.
use Rattle.std.proofs.Common.{◌≡◌, ℕ, suc, ◌/◌, ◌≤◌, true, List, length, vec_items, sym, subst, arith}
use Rattle.surface.specs.Surface.{Surface, Within, Side}
use Rattle.surface.specs.Closed.{Closed}
use Rattle.surface.specs.Geometry.{Vector}
use Rattle.surface.proofs.Collapse.{present_parts}
use Rattle.surface.proofs.Found.{permitted_found}
use Rattle.mesh.specs.Model.{opening, points}
use Rattle.mesh.specs.Stages.{stage, record_at, AllPermitted}
use Rattle.mesh.specs.declared.record.Record.{Record}
use Rattle.mesh.proofs.Along.{stage_closed, stage_within, whole_within, present_down}
use Rattle.mesh.proofs.Meshes.{now_is}
use Rattle.gauge.specs.Accounts.{TwoOf}
use Rattle.planes.specs.Exact.{Stays, Orderly, ExactOnMesh}
use Rattle.planes.proofs.Exact.{exact_sum}

module _ (S : Surface) (log : List Record) (P : ℕ → Vector) (C : ∥ Closed S ∥₁) (A : AllPermitted S P log) (T n : ℕ) (W : Within S T n) where
  -- who is live at stage k was not sent away before
  pub stays : (k v : ℕ) → (stage S log k).present v ≡ true → Stays log k v
  unfolding stage
  stays k v l i p e =
      let a : (stage S log (suc i)).present v ≡ true = present_down S log (suc i) k v (omega arith) l in
      (present_parts (stage S log i) (record_at log i).u (record_at log i).w v a).1 (sym e)

  -- the ends of a side of stage k are two live vertices
  pub two_ends : (k u w : ℕ) → k ≤ length log → Side (stage S log k) u w →
      TwoOf n u w × ((stage S log k).present u ≡ true) × ((stage S log k).present w ≡ true)
  two_ends k u w p (h, c, t) =
      let K = stage_closed S log P C A k p in
      let (g, d, r) = K.matched h u w c t in
      let a = K.known h u w c t in
      let b = K.known g w u d r in
      let V = stage_within S log T n k W in
      ((K.proper h u w c t, V.vertices u a, V.vertices w b), a, b)

  pub orderly : (k : ℕ) → k ≤ length log → Orderly n log k
  orderly k p i l =
      let u = (record_at log i).u in
      let w = (record_at log i).w in
      let K = stage_closed S log P C A i (omega arith) in
      let Q = permitted_found (stage S log i) K P u w (A i (omega arith)) in
      let (t, a, b) = two_ends i u w (omega arith) Q.side in
      (t, stays i u a)

pub exact_on_mesh : ExactOnMesh
exact_on_mesh m B u w s =
    let S = opening m in
    let L = vec_items m.log in
    let P = points m in
    let n = length (vec_items m.positions) in
    let T = length (vec_items m.opened) / 3 in
    let W = whole_within (vec_items m.opened) n in
    let k = m.position in
    let p : k ≤ length L = let a = m.placed in let b = m.log.ok.0 in omega arith in
    let (t, a, b) = two_ends S L P m.begun m.permitted T n W k u w p (subst (λ (N : Surface). Side N u w) (now_is m) s) in
    exact_sum S P B n L k (orderly S L P m.begun m.permitted T n W k p) u w t (stays S L P m.begun m.permitted T n W k u a) (stays S L P m.begun m.permitted T n W k w b)
