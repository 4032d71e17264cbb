-- What is read of a consistent opened surface.
use Rattle.std.proofs.Common.{◌≡◌, ℕ, ◌<◌, length, get_or, Some, None, vec_len, Option, sym, ap, ◌∙◌, MatchOption}
use Rattle.surface.specs.Surface.{Surface, Side}
use Rattle.surface.specs.Geometry.{Vector}
use Rattle.judging.specs.Verdict.{Counted}
use Rattle.mesh.specs.Laws.{triangle_slots, vertex_slots}
use Rattle.mesh.specs.Model.{surface, points, held}
use Rattle.mesh.specs.declared.halfedges.HalfEdges.{HalfEdges}
use Rattle.mesh.proofs.Kinship.{always_kin}
use Rattle.drawing.specs.Places.{place, triangle_place}
use Rattle.drawing.proofs.Lows.{vertex_slots_lem, triangle_slots_lem}
use Rattle.order.specs.declared.Ordered.{Ghosts as Order}
use Rattle.gauge.specs.Near.{near}
use Rattle.gauge.specs.declared.Gauge.{Ghosts}
use Rattle.ledger.specs.Book.{cost_now}
use Rattle.opened_surface.specs.Parts.{gauge_of, mesh_of}
use Rattle.opened_surface.specs.Tied.{book_of}
use Rattle.opened_surface.specs.declared.opened.Opened.{Opened}
use Rattle.opened_surface.proofs.Consistents.{consistent}
use Rattle.opened_surface.proofs.Outcomes.{unpriced, price_now}
use Rattle.opened_surface.proofs.Ties.{accounted_by}

module _ {G C E Z : Type 0} (m : Ghosts G C E Z) (o : Order C) (x : Opened G C E Z m o) where
  -- live vertices and triangles as they are counted now, with the Euler number and the pieces of the opening
  pub counted_now : (e : HalfEdges) → e ≡ (mesh_of x).edges → (v t : ℕ) → v ≡ place (held e) (vec_len e.vertices) → t ≡ triangle_place (held e) (vec_len e.triangles) →
      Counted (surface (mesh_of x)) (triangle_slots (mesh_of x)) (vertex_slots (mesh_of x)) (record { vertices = v; triangles = t; euler = x.counts.euler; pieces = x.counts.pieces })
  counted_now e i v t p q =
      let n = (consistent x).judged.2 in
      let kin = always_kin (mesh_of x) in
      record {
        vertices_are = p ∙ ap (λ k. place (held k) (vec_len k.vertices)) i ∙ ap (place (surface (mesh_of x))) (vertex_slots_lem (mesh_of x));
        triangles_are = q ∙ ap (λ k. triangle_place (held k) (vec_len k.triangles)) i ∙ ap (triangle_place (surface (mesh_of x))) (triangle_slots_lem (mesh_of x));
        euler_is = n.euler_is ∙ sym kin.euler_same;
        pieces_are = (kin.pieces_same x.counts.pieces).0 n.pieces_are;
      }

  -- a price as it is asked now is the cost by the ledger
  module _ (long : (s : Z) (X : Surface) (P : ℕ → Vector) (n : ℕ) → length (m.opening s X P n) ≡ n)
      (begun : (s : Z) (X : Surface) (P : ℕ → Vector) (n k : ℕ) → k < n → m.sound (get_or (m.opening s X P n) k m.blank))
      (grows : (s : Z) (a b : E) → m.sound a → m.sound b → m.sound (m.merged s a b))
      (back : (s : Z) (a b : E) → m.sound a → m.sound b → m.parted s a (m.merged s a b) ≡ b) (u w : ℕ) where
    abbrev S : Type 0
    S = Side (surface (mesh_of x)) u w

    abbrev Here : Type 0
    Here = S → u < length (m.account (gauge_of x)) → w < length (m.account (gauge_of x)) → ⊥

    abbrev priced : C
    priced =
        m.price (m.setting (gauge_of x)) u w (get_or (m.account (gauge_of x)) u m.blank) (get_or (m.account (gauge_of x)) w m.blank) (points (mesh_of x) u) (points (mesh_of x) w) (near (surface (mesh_of x)) (points (mesh_of x)) u w)

    pub cost_now_lem : (r : Option C) → MatchOption r Here (λ k. S × (u < length (m.account (gauge_of x))) × (w < length (m.account (gauge_of x))) × (k ≡ priced)) →
        MatchOption r (S → ⊥) (λ k. S × (k ≡ cost_now m (m.setting (gauge_of x)) (book_of (mesh_of x)) u w))
    cost_now_lem None n = unpriced m (mesh_of x) (gauge_of x) u w (accounted_by m o long begun grows back (mesh_of x) (gauge_of x) x.tied.account) n
    cost_now_lem (Some k) (s, p, q, i) = (s, i ∙ price_now m (mesh_of x) (gauge_of x) x.tied.account u w)
