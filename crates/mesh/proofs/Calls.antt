-- What the calls on a mesh need of it.
use Rattle.std.proofs.Common.{◌≡◌, ℕ, ◌<◌, length, get_or, vec_items, vec_len, sym, ap, ◌∙◌, subst, arith}
use Rattle.std.proofs.lemmas.List.{get_or_read}
use Rattle.surface.specs.Surface.{Surface, next, Tri, Side}
use Rattle.surface.specs.Geometry.{Vector}
use Rattle.surface.specs.Permitted.{Permitted}
use Rattle.surface.proofs.Found.{closed_found, permitted_found}
use Rattle.mesh.specs.Model.{held, opening, points}
use Rattle.mesh.specs.Stages.{stage, record_at}
use Rattle.mesh.specs.declared.mesh.Mesh.{Mesh}
use Rattle.mesh.specs.declared.record.Record.{Record}
use Rattle.mesh.proofs.Meshes.{now_is, closed_at}

-- what is permitted for u and w is permitted for the ends of their half-edge
pub permitted_along : (S : Surface) (P : ℕ → Vector) (u w e c : ℕ) → Tri S e u w c → Permitted S P u w → Permitted S P (S.corner e) (S.corner (next e))
permitted_along S P u w e c t p = subst (λ (x : ℕ). Permitted S P x (S.corner (next e))) (sym t.from) (subst (λ (y : ℕ). Permitted S P u y) (sym t.to) p)

-- the next record ahead is a side
pub side_ahead : (m : Mesh) → m.position < vec_len m.log → Side (held m.edges) (record_at (vec_items m.log) m.position).u (record_at (vec_items m.log) m.position).w
side_ahead m l =
    let S = opening m in
    let L = vec_items m.log in
    let k = m.position in
    let i : k < length L = let q = m.log.ok.0 in omega arith in
    let K = closed_found (stage S L k) (closed_at m k (omega arith)) in
    let p = permitted_found (stage S L k) K (points m) (record_at L k).u (record_at L k).w (m.permitted k i) in
    subst (λ (T : Surface). Side T (record_at L k).u (record_at L k).w) (sym (now_is m)) p.side

-- a record is told by its two vertices
pub record_is : (a b : ℕ) (r : Record) → a ≡ r.u → b ≡ r.w → ◌≡◌ {A = Record} (record { u = a; w = b }) r
record_is a b r p q = ap (λ (x : ℕ). record { u = x; w = b }) p ∙ ap (λ (y : ℕ). record { u = r.u; w = y }) q

-- the record read at the position
pub record_read : (m : Mesh) (r : Record) → m.position < vec_len m.log → r ≡ get_or (vec_items m.log) m.position r → r ≡ record_at (vec_items m.log) m.position
record_read m r l e = get_or_read (vec_items m.log) m.position r (let q = m.log.ok.0 in omega arith) e (record { u = 0; w = 0 })
