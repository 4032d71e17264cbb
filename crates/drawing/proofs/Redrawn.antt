-- What is drawn into lists of just the right lengths comes back whole. e are the half-edges of the mesh m, of which a vertices and b
-- triangles are live.
use Rattle.std.proofs.Common.{◌≡◌, ℕ, List, length, take, vec_items, vec_len, Result, Ok, Err, Vec, refl, sym, ap, ◌∙◌, subst, inl, inr, arith}
use Rattle.std.proofs.lemmas.List.{take_all}
use Rattle.gathering.specs.declared.gathering.Gathering.{Gathering}
use Rattle.surface.specs.Euler.{vertices, triangles}
use Rattle.mesh.specs.Model.{held, surface}
use Rattle.mesh.specs.Laws.{vertex_slots, triangle_slots}
use Rattle.mesh.specs.declared.halfedges.HalfEdges.{HalfEdges}
use Rattle.mesh.specs.declared.mesh.Mesh.{Mesh}
use Rattle.drawing.specs.Places.{place, triangle_place}
use Rattle.drawing.specs.Drawn.{Drawn, Draws, Short}
use Rattle.drawing.specs.declared.refusal.TooShort.{TooShort}
use Rattle.std.specs.Result.{IsOk}
use Rattle.drawing.specs.Back.{Regathers, ComesBackWhole}
use Rattle.drawing.specs.declared.point.Point.{Point}
use Rattle.drawing.specs.declared.regathering.Unfit.{Unfit}
use Rattle.drawing.proofs.Drawings.{vertices_are, triangles_are}
use Rattle.drawing.proofs.Fitting.{comes_back_whole}

-- a list of just n entries
pub made_long : {X Z : Type 0} (v : Vec X Z) (xs : List X) (n : ℕ) → xs ≡ vec_items v → vec_len v ≡ n → length xs ≡ n
made_long v xs n i l = ap length i ∙ sym v.ok.0 ∙ l

module _ (m : Mesh) (e : HalfEdges) (is : e ≡ m.edges) (a b : ℕ)
    (counted : a ≡ place (held e) (vec_len e.vertices)) (numbered : b ≡ triangle_place (held e) (vec_len e.triangles))
    (ps : List Point) (ts : List (List ℕ)) (p : length ps ≡ a) (q : length ts ≡ b) where
  vertices_all : length ps ≡ vertices (surface m) (vertex_slots m)
  vertices_all = p ∙ vertices_are m e is a b counted numbered ps ts

  triangles_all : length ts ≡ triangles (surface m) (triangle_slots m)
  triangles_all = q ∙ triangles_are m e is a b counted numbered ps ts

  never_short : (ps' : List Point) (ts' : List (List ℕ)) → Short m ps ts ps' ts' → ⊥
  never_short ps' ts' s = elim s.no_room [ inl l ↦ omega (arith, vertices_all) | inr l ↦ omega (arith, triangles_all) ]

  pub just_drawn : (r : Result (ℕ × ℕ) TooShort) (ps' : List Point) (ts' : List (List ℕ)) → Draws m ps ts r ps' ts' → IsOk r
  just_drawn (Ok x) ps' ts' D = refl
  just_drawn (Err e) ps' ts' s = absurd (never_short ps' ts' s)

  pub all_back : (c d : ℕ) (ps' : List Point) (ts' : List (List ℕ)) → Drawn m ps ts c d ps' ts' →
      (qs : List Point) (us : List (List ℕ)) → qs ≡ ps' → us ≡ ts' → (r : Result Gathering Unfit) → Regathers qs us r → ComesBackWhole m r
  all_back c d ps' ts' D qs us i j r R =
      let f : take c ps' ≡ qs = take_all c ps' (omega (arith, D.vertices_counted, vertices_all, D.lengths_same.0)) ∙ sym i in
      let g : take d ts' ≡ us = take_all d ts' (omega (arith, D.triangles_counted, triangles_all, D.lengths_same.1)) ∙ sym j in
      comes_back_whole m ps ts c d ps' ts' D r
      (subst (λ (x : List Point). Regathers x (take d ts') r) (sym f) (subst (λ (x : List (List ℕ)). Regathers qs x r) (sym g) R))
