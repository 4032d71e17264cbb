-- With its numbers closed up a surface keeps its counts, its pieces and its normals.
use Rattle.std.proofs.Common.{◌≡◌, ℕ, ◌+◌, ◌*◌, ◌<◌, Bool, true, ltb, map, get_or, sym, refl, ap, ◌∙◌, arith}
use Rattle.std.proofs.lemmas.List.{length-map, get_or-map}
use Rattle.std.proofs.lemmas.Bool.{ltb-true, lt-ltb}
use Rattle.surface.specs.Surface.{Surface, Within}
use Rattle.surface.specs.Closed.{Closed}
use Rattle.surface.specs.Euler.{count, vertices, triangles, edges, euler}
use Rattle.surface.specs.Pieces.{Chain, end, along, Pieces}
use Rattle.surface.specs.Geometry.{Vector, normal}
use Rattle.surface.proofs.Tris.{spin, spin2, moved, first_of}
use Rattle.surface.proofs.Chains.{chain_from, chain_to}
use Rattle.surface.proofs.Counting.{count_same, count_all}
use Rattle.surface.proofs.Sides.{sides_counted}
use Rattle.mesh.specs.Laws.{NoZeroNormal}
use Rattle.drawing.specs.Places.{place}
use Rattle.drawing.specs.ClosedUp.{ClosedUp, SamePoints, ClosingUp}
use Rattle.drawing.proofs.Counts.{nth}
use Rattle.drawing.proofs.Renumbered.{up, down, source_triangle, source_live, source_place, source_vertex, present_up, one_vertex}
use Rattle.drawing.proofs.Sealing.{closed_up}

-- all numbers below n pass
count_below : (f : ℕ → Bool) (n : ℕ) → ((k : ℕ) → f k ≡ ltb k n) → count f n ≡ n
count_below f n is = count_same f (λ _. true) n (λ k l. is k ∙ lt-ltb k n l) ∙ count_all n

module _ {S N : Surface} {T V : ℕ} (C : Closed S) (W : Within S T V) (U : ClosedUp S N T V) where
  chain_up : {x y : ℕ} → Chain S x y → Chain N (place S x) (place S y)
  chain_up end = end
  chain_up (along t c) = along (up W U t) (chain_up c)

  chain_down : {x y : ℕ} → Chain N x y → (p q : ℕ) → S.present p ≡ true → S.present q ≡ true → place S p ≡ x → place S q ≡ y → Chain S p q
  chain_down end p q l m i j = chain_to (one_vertex W U p q l m (i ∙ sym j)) end
  chain_down (along t c) p q l m i j =
      let s = down W U t in
      let e = one_vertex W U s.first p (C.known _ _ _ _ s.tri) l (s.first_is ∙ sym i) in
      along (moved e refl refl s.tri) (chain_down c s.second q (C.known _ _ _ _ (spin s.tri)) m s.second_is j)

  pieces_up : (n : ℕ) → Pieces S n → Pieces N n
  pieces_up n P =
      let l = P.roots in
      let at : (i : ℕ) → i < n → get_or (map (place S) l) i 0 ≡ place S (get_or l i 0) = λ i k. get_or-map (place S) l i 0 0 (let m = P.many in omega arith) in
      record {
        roots = map (place S) l;
        many = length-map l (place S) ∙ P.many;
        live = λ i k. ap N.present (at i k) ∙ present_up W U _ (P.live i k);
        apart = λ i j k m c. P.apart i j k m (chain_down c _ _ (P.live i k) (P.live j m) (sym (at i k)) (sym (at j m)));
        reached = λ v p.
            let (_, r, e) = source_vertex W U v p in
            let (i, k, c) = P.reached _ r in
            (i, k, chain_from e (chain_to (sym (at i k)) (chain_up c)));
      }

  pieces_down : (n : ℕ) → Pieces N n → Pieces S n
  pieces_down n P =
      let l = P.roots in
      let f = nth S.present V in
      let at : (i : ℕ) → i < n → get_or (map f l) i 0 ≡ f (get_or l i 0) = λ i k. get_or-map f l i 0 0 (let m = P.many in omega arith) in
      let live : (i : ℕ) → i < n → S.present (get_or (map f l) i 0) ≡ true = λ i k. ap S.present (at i k) ∙ (source_vertex W U _ (P.live i k)).1 in
      let is : (i : ℕ) → i < n → place S (get_or (map f l) i 0) ≡ get_or l i 0 = λ i k. ap (place S) (at i k) ∙ (source_vertex W U _ (P.live i k)).2 in
      record {
        roots = map f l;
        many = length-map l f ∙ P.many;
        live = live;
        apart = λ i j k m c. P.apart i j k m (chain_from (is i k) (chain_to (is j m) (chain_up c)));
        reached = λ v p.
            let (i, k, c) = P.reached (place S v) (present_up W U v p) in
            (i, k, chain_down c v _ p (live i k) refl (is i k));
      }

  within_up : Within N (triangles S T) (vertices S V)
  within_up = record { triangles = λ t l. ltb-true _ _ (sym (U.triangles_up t) ∙ l); vertices = λ v l. ltb-true _ _ (sym (U.vertices_up v) ∙ l) }

  vertices_kept : vertices N (vertices S V) ≡ vertices S V
  vertices_kept = count_below N.present (vertices S V) U.vertices_up

  triangles_kept : triangles N (triangles S T) ≡ triangles S T
  triangles_kept = count_below N.alive (triangles S T) U.triangles_up

  edges_kept : edges N (triangles S T) (vertices S V) ≡ edges S T V
  edges_kept = omega (arith, sides_counted S C T V W, sides_counted N (closed_up C W U) (triangles S T) (vertices S V) within_up, triangles_kept)

  euler_up : euler N (triangles S T) (vertices S V) ≡ euler S T V
  unfolding euler
  euler_up = let a = vertices_kept in let b = triangles_kept in let c = edges_kept in cc

  normals_up : (P Q : ℕ → Vector) → SamePoints S P Q → NoZeroNormal S P → NoZeroNormal N Q
  normals_up P Q same none t l zero =
      let s = source_triangle W U t l in
      let m = source_live W U t l in
      let f = first_of S s m in
      let at : (k : ℕ) → k < 3 → S.present (S.corner (3 * s + k)) ≡ true → Q (N.corner (3 * t + k)) ≡ P (S.corner (3 * s + k)) =
      λ k i p. ap (λ n. Q (N.corner (3 * n + k))) (sym (source_place W U t l)) ∙ ap Q (U.corners_up s k m i) ∙ same _ p in
      let z : 3 * s + 0 ≡ 3 * s = omega arith in
      let y : 3 * t + 0 ≡ 3 * t = omega arith in
      let a : Q (N.corner (3 * t)) ≡ P (S.corner (3 * s)) =
      ap (λ n. Q (N.corner n)) (sym y) ∙ at 0 (omega arith) (ap (λ n. S.present (S.corner n)) z ∙ C.known _ _ _ _ f) ∙ ap (λ n. P (S.corner n)) z in
      let b = at 1 (omega arith) (C.known _ _ _ _ (spin f)) in
      let c = at 2 (omega arith) (C.known _ _ _ _ (spin2 f)) in
      none s m (sym (ap (λ x. normal x (Q (N.corner (3 * t + 1))) (Q (N.corner (3 * t + 2)))) a
      ∙ ap (λ x. normal (P (S.corner (3 * s))) x (Q (N.corner (3 * t + 2)))) b ∙ ap (λ x. normal (P (S.corner (3 * s))) (P (S.corner (3 * s + 1))) x) c) ∙ zero)

pub closing_up : ClosingUp
closing_up S N T V C W U =
    record {
      closed = closed_up C W U;
      within = within_up C W U;
      vertices_same = vertices_kept C W U;
      triangles_same = triangles_kept C W U;
      euler_same = euler_up C W U;
      pieces_same = λ n. (pieces_up C W U n, pieces_down C W U n);
      normals = normals_up C W U;
    }
