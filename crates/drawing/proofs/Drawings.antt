-- What was drawn, from what was written; e are the half-edges of the mesh m.
use Rattle.std.proofs.Common.{◌≡◌, ℕ, ◌<◌, ◌≤◌, ◌⊎◌, List, [], length, vec_items, vec_len, refl, ap, ◌∙◌, subst, inl, inr, arith}
use Rattle.surface.specs.Euler.{vertices, triangles}
use Rattle.mesh.specs.Model.{held, surface}
use Rattle.mesh.specs.Laws.{vertex_slots, triangle_slots}
use Rattle.mesh.specs.declared.halfedges.HalfEdges.{HalfEdges}
use Rattle.mesh.specs.declared.mesh.Mesh.{Mesh}
use Rattle.drawing.specs.Places.{place, triangle_place}
use Rattle.drawing.specs.Drawn.{Pointed, Cornered, Drawn, Short}
use Rattle.drawing.specs.declared.point.Point.{Point}
use Rattle.drawing.proofs.Lows.{live_low, vertex_low, vertex_slots_lem, triangle_slots_lem}

module _ (m : Mesh) (e : HalfEdges) (is : e ≡ m.edges) (a b : ℕ)
    (counted : a ≡ place (held e) (vec_len e.vertices)) (numbered : b ≡ triangle_place (held e) (vec_len e.triangles))
    (ps : List Point) (ts : List (List ℕ)) where
  pub vertices_are : a ≡ vertices (surface m) (vertex_slots m)
  vertices_are = counted ∙ ap (λ (x : HalfEdges). place (held x) (vec_len x.vertices)) is ∙ ap (place (surface m)) (vertex_slots_lem m)

  pub triangles_are : b ≡ triangles (surface m) (triangle_slots m)
  triangles_are = numbered ∙ ap (λ (x : HalfEdges). triangle_place (held x) (vec_len x.triangles)) is ∙ ap (triangle_place (surface m)) (triangle_slots_lem m)

  pub too_short : (length ps < a) ⊎ (length ts < b) → Short m ps ts ps ts
  too_short s = record { no_room = by s; points_same = refl; triangles_same = refl }
    where
      by : (length ps < a) ⊎ (length ts < b) → (length ps < vertices (surface m) (vertex_slots m)) ⊎ (length ts < triangles (surface m) (triangle_slots m))
      by (inl l) = inl (rw (← vertices_are) l)
      by (inr l) = inr (rw (← triangles_are) l)

  pub all_drawn : a ≤ length ps → b ≤ length ts → (ps' : List Point) (ts' : List (List ℕ)) → length ps' ≡ length ps → length ts' ≡ length ts →
      Pointed (surface m) (vec_items m.positions) (vec_len m.edges.vertices) ps ps' → Cornered (held e) (vec_len e.triangles) ts ts' →
      Drawn m ps ts a b ps' ts'
  all_drawn p q ps' ts' i j P C =
      let D : Cornered (surface m) (vec_len m.edges.triangles) ts ts' = subst (λ (x : HalfEdges). Cornered (held x) (vec_len x.triangles) ts ts') is C in
      record {
        vertices_counted = vertices_are;
        triangles_counted = triangles_are;
        room = (p, q);
        lengths_same = (i, j);
        at_vertex = λ v x l. P.entered v x (vertex_low m.edges v l) l;
        at_triangle = λ t l. D.entered t [] (live_low m.edges t l) l;
        points_beyond = λ k x l. P.beyond k x (omega (arith, vertices_are, ap (place (surface m)) (vertex_slots_lem m)));
        triangles_beyond = λ k l. D.beyond k [] (omega (arith, triangles_are, ap (triangle_place (surface m)) (triangle_slots_lem m)));
      }
