-- The collapse in place: what it needs, and what its writes make of the lists.
use Rattle.std.proofs.Common.{◌≡◌, ℕ, ◌/◌, ◌<◌, Bool, true, false, cond, not, ◌&&◌, eqb, ◌≢◌, ◌⊎◌, List, length, get_or, set, vec_items, sym, refl, ap, ◌∙◌, subst, inl, inr, arith, length-set}
use native.Mathlib.Decide.{ℕ_discrete}
use Rattle.std.proofs.lemmas.Bool.{cases_Bool, both_ways, cond-true, cond-false}
use Rattle.surface.specs.Surface.{Surface, next, prev, Tri}
use Rattle.surface.specs.Collapse.{rename, collapse}
use Rattle.surface.specs.Read.{read}
use Rattle.surface.proofs.Among.{among, among_place, place_among}
use Rattle.surface.proofs.Tris.{spin, spin2, moved, tri_at}
use Rattle.surface.proofs.Sealed.{Sealed}
use Rattle.surface.proofs.Pinch.{Pinch, Gone, uwa, wau, auw, wub, ubw, bwu, u≢w, a≢u, u≢b, fate}
use Rattle.surface.proofs.Local.{Lives}
use Rattle.surface.proofs.Collapse.{rename_miss, corner_is, present_is, present_parts}
use Rattle.surface.proofs.Pinched.{pinch}
use Rattle.mesh.specs.Held.{TwinsLive, OutLive}
use Rattle.mesh.specs.Kept.{CornersAre, TrianglesAre, VerticesAre}
use Rattle.mesh.specs.Edits.{crossed, mended, Beside, Cornered}
use Rattle.mesh.specs.Model.{held}
use Rattle.mesh.specs.Walks.{Walk, Walkable, Moved}
use Rattle.mesh.specs.declared.halfedges.HalfEdges.{HalfEdges}
use Rattle.mesh.proofs.Held.{sized, sealed_held, tri_low, tri_twin, tri_triangle, present_low}
use Rattle.mesh.proofs.Links.{Opposites, pair, cross, lay, put_hit, put_miss, Four, l_a, l_c, l_d, cross_dead}
use Rattle.mesh.proofs.Links as links
use Rattle.mesh.proofs.Fans.{Fan, fan_at, fan_walk}
use Rattle.mesh.proofs.Puts.{lay_set, cleared, clear_both}
use Rattle.mesh.proofs.Twins.{opposites, twins_live}
use Rattle.mesh.proofs.Written as written

module _ (x : HalfEdges) (e : ℕ) (live : (held x).alive (e / 3) ≡ true) where
  abbrev corners : List ℕ
  corners = vec_items x.corners

  abbrev twin : List ℕ
  twin = vec_items x.twin

  abbrev out : List ℕ
  out = vec_items x.out

  abbrev triangles : List Bool
  triangles = vec_items x.triangles

  abbrev vertices : List Bool
  vertices = vec_items x.vertices

  abbrev S : Surface
  S = held x

  K : Sealed S
  K = sealed_held x

  abbrev u : ℕ
  u = S.corner e

  abbrev w : ℕ
  w = S.corner (next e)

  abbrev a : ℕ
  a = S.corner (prev e)

  abbrev f : ℕ
  f = get_or twin e 0

  abbrev b : ℕ
  b = S.corner (prev f)

  abbrev N : Surface
  N = collapse S u w

  abbrev A : ℕ
  A = get_or twin (next e) 0

  abbrev B : ℕ
  B = get_or twin (prev e) 0

  abbrev C : ℕ
  C = get_or twin (next f) 0

  abbrev D : ℕ
  D = get_or twin (prev f) 0

  te : Tri S e u w a
  te = tri_at S e live

  O : Opposites S (λ h. get_or twin h 0)
  O = opposites S twin x.twins

  tf : Tri S f w u b
  tf = let t = (O e u w a te).1 in record { lives = t.lives; from = t.from; to = t.to; third = refl }

  P : Pinch S N (rename u w) e f u w a b
  P = pinch K te tf

  F : Four S u w a b A B C D
  F = record { t_a = O (next e) w a u (spin te); t_b = O (prev e) a u w (spin2 te); t_c = O (next f) u b w (spin tf); t_d = O (prev f) b w u (spin2 tf) }

  low : {h x y z : ℕ} → Tri S h x y z → h < length twin
  low t = tri_twin x t

  pub beside : Beside twin e f
  beside =
      record {
        few = omega (arith, (sized x).few, (sized x).twin_long);
        e_here = low te;
        f_here = low tf;
        e_next = low (spin te);
        e_prev = low (spin2 te);
        f_next = low (spin tf);
        f_prev = low (spin2 tf);
        behind_e_next = low F.t_a.1;
        behind_e_prev = low F.t_b.1;
        behind_f_next = low F.t_c.1;
        behind_f_prev = low F.t_d.1;
      }

  pub u_low : u < length vertices
  u_low = present_low x u (K.known te)

  pub e_triangle : e / 3 < length triangles
  e_triangle = tri_triangle x te

  pub f_triangle : f / 3 < length triangles
  f_triangle = tri_triangle x tf

  -- f begins where e ends
  pub f_from : S.corner f ≡ w
  f_from = tf.from

  pub cornered : Cornered corners out e f
  unfolding read
  cornered =
      record {
        e_from = omega (arith, (sized x).out_long, u_low);
        f_from = omega (arith, (sized x).out_long, at (S.corner f) (K.known (moved (sym tf.from) refl refl tf)));
        e_third = omega (arith, (sized x).out_long, at a (K.known (spin2 te)));
        f_third = omega (arith, (sized x).out_long, at b (K.known (spin2 tf)));
      }
    where
      at : (v : ℕ) → S.present v ≡ true → v < length vertices
      at v p = present_low x v p

  the_way : (l : List ℕ) × Fan S u (next C) B l
  the_way = written.exists S K e f u w a b te tf B C F.t_b.0 F.t_c.0 F.t_b.1 F.t_c.1

  the_walk : Walk (λ h. get_or twin h 0) (next C) B the_way.0
  the_walk = fan_walk K (λ h. get_or twin h 0) O the_way.1

  pub walkable : Walkable corners twin B (next C) w
  unfolding read
  walkable =
      record {
        way = the_way.0;
        walk = the_walk;
        free = λ i l p. let (g, k, t) = fan_at K the_way.1 (place_among the_way.0 i l) in u≢w K P (sym t.from ∙ p);
        low = λ i l. let (g, k, t) = fan_at K the_way.1 (place_among the_way.0 i l) in tri_low x t;
        linked = (sized x).twin_long;
        few = (sized x).few;
      }

  pub corners_are : (after : List ℕ) → Moved corners twin B (next C) w after → CornersAre N after
  unfolding read
  corners_are after G h =
      at (cases_Bool (among h the_way.0))
      ∙ written.corners S K e f u w a b te tf B C F.t_b.0 F.t_c.0 F.t_b.1 F.t_c.1 the_way.0 the_way.1 h
    where
      at : (among h the_way.0 ≡ true) ⊎ (among h the_way.0 ≡ false) → get_or after h 0 ≡ cond (among h the_way.0) w (get_or corners h 0)
      at (inl m) =
          let (i, l, p) = among_place h the_way.0 m in
          ap (λ x. get_or after x 0) (sym p) ∙ G.there the_way.0 the_walk i l ∙ sym (cond-true (among h the_way.0) w _ m)
      at (inr m) =
          G.elsewhere the_way.0 the_walk h (λ i l p. both_ways _ m (subst (λ x. among x the_way.0 ≡ true) p (place_among the_way.0 i l)))
          ∙ sym (cond-false (among h the_way.0) w _ m)

  pub triangles_are : TrianglesAre N (set (set triangles (e / 3) false) (f / 3) false)
  unfolding read
  triangles_are t =
      cleared (set triangles (e / 3) false) (f / 3) t (rw length-set f_triangle)
      ∙ ap (λ x. x && not (eqb t (f / 3))) (cleared triangles (e / 3) t e_triangle)
      ∙ clear_both (get_or triangles t false) (eqb t (e / 3)) (eqb t (f / 3))
      ∙ written.flags S K e f u w a b te tf B C F.t_b.0 F.t_c.0 F.t_b.1 F.t_c.1 the_way.0 the_way.1 t

  pub vertices_are : VerticesAre N (set vertices u false)
  unfolding read
  vertices_are v = cleared vertices u v u_low ∙ sym (present_is S u w v)

  crossed_is : (h : ℕ) → get_or (crossed twin e f) h 0 ≡ cross (λ i. get_or twin i 0) A B C D h
  unfolding cross pair lay
  crossed_is h = lay_set twin A B B A C D D C h (low F.t_a.1) (low F.t_b.1) (low F.t_c.1) (low F.t_d.1)

  pub twins_are : TwinsLive N (crossed twin e f)
  twins_are =
      twins_live N (crossed twin e f) λ h x y z t.
      let (d, s) = links.crossed K P F (λ i. get_or twin i 0) O h x y z t in
      (d, subst (λ g. Tri N g y x d) (sym (crossed_is h)) s)

  pub twins_kept : (h : ℕ) → N.alive (h / 3) ≡ false → get_or (crossed twin e f) h 0 ≡ get_or twin h 0
  twins_kept h l = crossed_is h ∙ cross_dead K P F (λ i. get_or twin i 0) h (λ m. both_ways _ l m)

  mended_is : (v : ℕ) → get_or (mended out corners twin e f) v 0 ≡ lay (λ i. get_or out i 0) u e (S.corner f) D a A b C v
  unfolding read
  mended_is v = lay_set out u e (S.corner f) D a A b C v cornered.e_from cornered.f_from cornered.e_third cornered.f_third

  mended_else : (v : ℕ) → v ≢ u → v ≢ w → v ≢ a → v ≢ b → get_or (mended out corners twin e f) v 0 ≡ get_or out v 0
  unfolding lay
  mended_else v i j k l = mended_is v ∙ put_miss _ b C v l ∙ put_miss _ a A v k ∙ put_miss _ (S.corner f) D v (λ p. j (p ∙ tf.from)) ∙ put_miss _ u e v i

  pub out_is : get_or (mended out corners twin e f) u 0 ≡ e
  unfolding lay
  out_is =
      mended_is u ∙ put_miss _ b C u (u≢b K P) ∙ put_miss _ a A u (λ p. a≢u K P (sym p)) ∙ put_miss _ (S.corner f) D u (λ p. u≢w K P (p ∙ tf.from))
      ∙ put_hit _ u e u refl

  pub outs_kept : (v : ℕ) → S.present v ≡ false → get_or (mended out corners twin e f) v 0 ≡ get_or out v 0
  outs_kept v n = mended_else v (none (K.known te)) (none (K.known tf)) (none (K.known (spin2 te))) (none (K.known (spin2 tf)))
    where
      none : {x : ℕ} → S.present x ≡ true → v ≢ x
      none p i = both_ways _ n (ap S.present i ∙ p)

  pub outs_are : OutLive N (mended out corners twin e f)
  unfolding lay
  outs_are v p = go (present_parts S u w v p) (ℕ_discrete v w) (ℕ_discrete v a) (ℕ_discrete v b)
    where
      is : (g : ℕ) → get_or (mended out corners twin e f) v 0 ≡ g → v ≢ u → Lives N g → S.corner g ≡ v → (N.alive (get_or (mended out corners twin e f) v 0 / 3) ≡ true) × (N.corner (get_or (mended out corners twin e f) v 0) ≡ v)
      is g i n l q = subst (λ h. (N.alive (h / 3) ≡ true) × (N.corner h ≡ v)) (sym i) (l, corner_is S u w g l ∙ rename_miss u w (S.corner g) (λ k. n (sym q ∙ k)) ∙ q)

      go : (S.present v ≡ true) × (v ≢ u) → Dec (v ≡ w) → Dec (v ≡ a) → Dec (v ≡ b) → (N.alive (get_or (mended out corners twin e f) v 0 / 3) ≡ true) × (N.corner (get_or (mended out corners twin e f) v 0) ≡ v)
      go (q, n) _ _ (yes i) = is C (mended_is v ∙ put_hit _ b C v i) n (l_c K P F) (F.t_c.1.from ∙ sym i)
      go (q, n) _ (yes i) (no l) = is A (mended_is v ∙ put_miss _ b C v l ∙ put_hit _ a A v i) n (l_a K P F) (F.t_a.1.from ∙ sym i)
      go (q, n) (yes i) (no k) (no l) =
          is D (mended_is v ∙ put_miss _ b C v l ∙ put_miss _ a A v k ∙ put_hit _ (S.corner f) D v (i ∙ sym tf.from)) n (l_d K P F) (F.t_d.1.from ∙ sym i)
      go (q, n) (no j) (no k) (no l) =
          let (alive, from) = x.outs v q in
          is (get_or out v 0) (mended_else v n j k l) n (stays (tri_at S (get_or out v 0) alive) from (fate K P (tri_at S (get_or out v 0) alive))) from
        where
          stays : {g x y z : ℕ} → Tri S g x y z → x ≡ v → Lives N g ⊎ Gone u w a b x y z → Lives N g
          stays t i (inl m) = m
          stays t i (inr (uwa p q r)) = absurd (n (sym i ∙ p))
          stays t i (inr (wau p q r)) = absurd (j (sym i ∙ p))
          stays t i (inr (auw p q r)) = absurd (k (sym i ∙ p))
          stays t i (inr (wub p q r)) = absurd (j (sym i ∙ p))
          stays t i (inr (ubw p q r)) = absurd (n (sym i ∙ p))
          stays t i (inr (bwu p q r)) = absurd (l (sym i ∙ p))
