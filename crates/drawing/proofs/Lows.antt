-- The numbers of live triangles and vertices stand within the lists of the half-edges.
use Rattle.std.proofs.Common.{◌≡◌, ℕ, ◌*◌, ◌/◌, ◌<◌, ◌≤◌, true, List, [], ◌∷◌, get_or, is_some, Some, None, Option, vec_items, vec_len, sym, ap, ◌∙◌, arith}
use Rattle.surface.specs.Surface.{next, prev}
use Rattle.surface.specs.Read.{read}
use Rattle.surface.proofs.Flags.{flag_false}
use Rattle.surface.proofs.Tris.{tri_at, next_triangle, second_is, third_is}
use Rattle.mesh.specs.Laws.{vertex_slots, triangle_slots}
use Rattle.mesh.specs.Model.{held}
use Rattle.mesh.specs.Reads.{Outgoing}
use Rattle.mesh.specs.declared.halfedges.HalfEdges.{HalfEdges}
use Rattle.mesh.specs.declared.mesh.Mesh.{Mesh}
use Rattle.mesh.proofs.Reading.{set_within}
use Rattle.mesh.proofs.Held.{present_low}
use Rattle.mesh.proofs.Round.{closed_held}
use Rattle.drawing.specs.Places.{place, Numbering, corners_at}

module _ (e : HalfEdges) where
  pub slots : vec_len e.corners / 3 ≡ vec_len e.triangles
  slots = let t = e.threes in omega arith

  pub few_triangles : vec_len e.triangles ≤ 2048
  few_triangles = let t = e.threes in let f = e.few in omega arith

  pub live_low : (t : ℕ) → (held e).alive t ≡ true → t < vec_len e.triangles
  unfolding read
  live_low t l = let p = set_within (vec_items e.triangles) t l in let q = e.triangles.ok.0 in omega arith

  pub vertex_low : (v : ℕ) → (held e).present v ≡ true → v < vec_len e.vertices
  vertex_low v l = let p = present_low e v l in let q = e.vertices.ok.0 in omega arith

  -- a vertex is live just where a half-edge begins there
  pub live_told : (v : ℕ) (o : Option ℕ) → Outgoing (held e) v o → is_some o ≡ (held e).present v
  live_told v None n = sym (flag_false ((held e).present v) n)
  live_told v (Some h) (a, b, t) = sym ((closed_held e).known _ _ _ _ t)

  -- a corner of a live triangle is a live vertex
  corner_low : (h : ℕ) → (held e).alive (h / 3) ≡ true → (held e).corner h < vec_len e.vertices
  corner_low h l = vertex_low _ ((closed_held e).known h _ _ _ (tri_at (held e) h l))

  module _ (t : ℕ) (l : (held e).alive t ≡ true) where
    pub first_low : (held e).corner (3 * t) < vec_len e.vertices
    first_low = let i : 3 * t / 3 ≡ t = omega arith in corner_low (3 * t) (ap (held e).alive i ∙ l)

    pub second_low : (held e).corner (next (3 * t)) < vec_len e.vertices
    second_low = let i : next (3 * t) / 3 ≡ t = omega (arith, next_triangle (3 * t)) in corner_low (next (3 * t)) (ap (held e).alive i ∙ l)

    pub third_low : (held e).corner (prev (3 * t)) < vec_len e.vertices
    third_low = let i : prev (3 * t) / 3 ≡ t = omega (arith, next_triangle (3 * t), next_triangle (next (3 * t))) in corner_low (prev (3 * t)) (ap (held e).alive i ∙ l)

    pub corners_read : (ps : List ℕ) → Numbering (held e) (vec_len e.vertices) ps →
        (a b c : ℕ) → a ≡ (held e).corner (3 * t) → b ≡ (held e).corner (next (3 * t)) → c ≡ (held e).corner (prev (3 * t)) →
        (get_or ps a 0 ∷ get_or ps b 0 ∷ get_or ps c 0 ∷ []) ≡ corners_at (held e) t
    corners_read ps N a b c p q r =
        let x = N _ first_low in
        let y = N _ second_low in
        let z = N _ third_low in
        let i = ap (λ h. place (held e) ((held e).corner h)) (second_is t) in
        let j = ap (λ h. place (held e) ((held e).corner h)) (third_is t) in
        cc

module _ (m : Mesh) where
  pub vertex_slots_lem : vec_len m.edges.vertices ≡ vertex_slots m
  vertex_slots_lem = let p = m.vertices_long in let q = m.positions.ok.0 in omega arith

  pub triangle_slots_lem : vec_len m.edges.triangles ≡ triangle_slots m
  triangle_slots_lem = let p = m.corners_long in let q = m.opened.ok.0 in let r = m.edges.threes in omega arith
