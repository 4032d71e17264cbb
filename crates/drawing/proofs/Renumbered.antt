-- The triangles of a surface and those of the surface with its numbers closed up.
use Rattle.std.proofs.Common.{◌≡◌, ℕ, ◌+◌, ◌*◌, ◌/◌, ◌%◌, ◌<◌, true, sym, ap, ◌∙◌, arith}
use Rattle.std.proofs.lemmas.Bool.{ltb-true, lt-ltb}
use Rattle.surface.specs.Surface.{Surface, next, prev, Tri, Within}
use Rattle.surface.specs.Euler.{vertices, triangles}
use Rattle.surface.proofs.Tris.{next_cases, next_triangle, tri_at, renumber, same_from, same_to, same_third}
use Rattle.drawing.specs.Places.{place, triangle_place}
use Rattle.drawing.specs.ClosedUp.{ClosedUp}
use Rattle.drawing.proofs.Counts.{count_before, count_one_place, nth, nth_is}

-- the number that half-edge h gets
pub risen : Surface → ℕ → ℕ
risen S h = 3 * triangle_place S (h / 3) + h % 3

-- a triangle of N comes from one of S
pub record Source (S : Surface) (h a b c : ℕ) : Type 0 where
  pub half : ℕ
  pub first : ℕ
  pub second : ℕ
  pub third : ℕ
  pub tri : Tri S half first second third
  pub half_is : risen S half ≡ h
  pub first_is : place S first ≡ a
  pub second_is : place S second ≡ b
  pub third_is : place S third ≡ c

module _ {S N : Surface} {T V : ℕ} (W : Within S T V) (U : ClosedUp S N T V) where
  risen_triangle : (h : ℕ) → risen S h / 3 ≡ triangle_place S (h / 3)
  unfolding risen
  risen_triangle h = omega arith

  risen_next : (h : ℕ) → next (risen S h) ≡ risen S (next h)
  unfolding risen
  risen_next h =
      let e = ap (triangle_place S) (next_triangle h) in
      omega (arith, next_cases h, next_cases (3 * triangle_place S (h / 3) + h % 3))

  risen_corner : (h : ℕ) → S.alive (h / 3) ≡ true → N.corner (risen S h) ≡ place S (S.corner h)
  unfolding risen
  risen_corner h l = let e : 3 * (h / 3) + h % 3 ≡ h = omega arith in U.corners_up (h / 3) (h % 3) l (omega arith) ∙ ap (λ g. place S (S.corner g)) e

  pub up : {h a b c : ℕ} → Tri S h a b c → Tri N (risen S h) (place S a) (place S b) (place S c)
  up {h} t =
      let l = t.lives in
      let low : triangle_place S (h / 3) < triangles S T = count_before S.alive (h / 3) T (W.triangles (h / 3) l) l in
      let l' : S.alive (next h / 3) ≡ true = ap S.alive (next_triangle h) ∙ l in
      let l'' : S.alive (prev h / 3) ≡ true = ap S.alive (next_triangle (next h)) ∙ l' in
      record {
        lives = ap N.alive (risen_triangle h) ∙ U.triangles_up (triangle_place S (h / 3)) ∙ lt-ltb _ _ low;
        from = risen_corner h l ∙ ap (place S) t.from;
        to = ap N.corner (risen_next h) ∙ risen_corner (next h) l' ∙ ap (place S) t.to;
        third = ap N.corner (ap next (risen_next h) ∙ risen_next (next h)) ∙ risen_corner (prev h) l'' ∙ ap (place S) t.third;
      }

  -- the triangle of S at place t
  module _ (t : ℕ) (l : N.alive t ≡ true) where
    pub source_triangle : ℕ
    source_triangle = nth S.alive T t

    low : t < triangles S T
    low = ltb-true _ _ (sym (U.triangles_up t) ∙ l)

    pub source_live : S.alive source_triangle ≡ true
    unfolding source_triangle
    source_live = (nth_is S.alive T t low).1

    pub source_place : triangle_place S source_triangle ≡ t
    unfolding source_triangle
    source_place = (nth_is S.alive T t low).2

  pub down : {h a b c : ℕ} → Tri N h a b c → Source S h a b c
  unfolding risen
  down {h} {a} {b} {c} t =
      let s = source_triangle (h / 3) t.lives in
      let g = 3 * s + h % 3 in
      let i : g / 3 ≡ s = omega arith in
      let j : g % 3 ≡ h % 3 = omega arith in
      let p : triangle_place S (g / 3) ≡ h / 3 = ap (triangle_place S) i ∙ source_place (h / 3) t.lives in
      let is : risen S g ≡ h = omega arith in
      let x = tri_at S g (ap S.alive i ∙ source_live (h / 3) t.lives) in
      let y = renumber is (up x) in
      record { half = g; first = _; second = _; third = _; tri = x; half_is = is; first_is = same_from y t; second_is = same_to y t; third_is = same_third y t }

  -- the vertex of S at place v
  module _ (v : ℕ) (l : N.present v ≡ true) where
    vertex_below : v < vertices S V
    vertex_below = ltb-true _ _ (sym (U.vertices_up v) ∙ l)

    pub source_vertex : (nth S.present V v < V) × (S.present (nth S.present V v) ≡ true) × (place S (nth S.present V v) ≡ v)
    source_vertex = nth_is S.present V v vertex_below

  pub present_up : (v : ℕ) → S.present v ≡ true → N.present (place S v) ≡ true
  present_up v l = U.vertices_up (place S v) ∙ lt-ltb _ _ (count_before S.present v V (W.vertices v l) l)

  pub one_vertex : (v w : ℕ) → S.present v ≡ true → S.present w ≡ true → place S v ≡ place S w → v ≡ w
  one_vertex v w p q i = count_one_place S.present v w p q i
