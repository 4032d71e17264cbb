-- The vertex split in place: what it needs, and what its writes make of the lists.
use Rattle.std.proofs.Common.{◌≡◌, ℕ, ◌/◌, ◌<◌, Bool, true, false, cond, ◌||◌, eqb, ◌≢◌, ◌⊎◌, List, length, get_or, set, vec_items, sym, refl, ap, ◌∙◌, subst, inl, inr, arith, length-set}
use native.Mathlib.Decide.{ℕ_discrete}
use Rattle.std.proofs.lemmas.List.{get_or-set_same, get_or-set_other}
use Rattle.std.proofs.lemmas.Bool.{cases_Bool, both_ways, cond-true, cond-false}
use Rattle.surface.specs.Surface.{Surface, next, prev, Tri, Within}
use Rattle.surface.specs.Collapse.{rename, collapse}
use Rattle.surface.proofs.Among.{among, among_place, place_among}
use Rattle.surface.proofs.Found.{closed_found}
use Rattle.surface.proofs.FromRings.{sealed}
use Rattle.surface.proofs.Flags.{flag_false}
use Rattle.surface.proofs.Tris.{spin, spin2}
use Rattle.surface.proofs.Sealed.{Sealed}
use Rattle.surface.proofs.Pinch.{Pinch, u≢w}
use Rattle.surface.proofs.Local.{Lives}
use Rattle.surface.proofs.Collapse.{rename_hit, rename_miss, alive_parts, corner_is, corner_dead, present_from}
use Rattle.surface.proofs.Pinched.{pinch}
use Rattle.mesh.specs.Held.{TwinsLive, OutLive}
use Rattle.mesh.specs.Kept.{CornersAre, TrianglesAre, VerticesAre}
use Rattle.mesh.specs.Edits.{uncrossed, Beside, Taken}
use Rattle.mesh.specs.Model.{held}
use Rattle.mesh.specs.Walks.{Walk, Walkable, Moved}
use Rattle.mesh.specs.declared.halfedges.HalfEdges.{HalfEdges}
use Rattle.mesh.proofs.Held.{sized, sealed_held, read_is}
use Rattle.mesh.proofs.Links.{lay, Four, dead_e, dead_f, lives_back, lay_dead, laid}
use Rattle.mesh.proofs.Fans.{Fan, fan_at, fan_walk}
use Rattle.mesh.proofs.Puts.{lay_set, true_low, raised, raise_both}
use Rattle.mesh.proofs.Twins.{opposites, opposite_tri, twins_live}
use Rattle.mesh.proofs.Unwritten as unwritten

module _ (x : HalfEdges) (S : Surface) (u w : ℕ) (H : Taken S u w x) where
  abbrev corners : List ℕ
  corners = vec_items x.corners

  abbrev twin : List ℕ
  twin = vec_items x.twin

  abbrev out : List ℕ
  out = vec_items x.out

  abbrev triangles : List Bool
  triangles = vec_items x.triangles

  abbrev vertices : List Bool
  vertices = vec_items x.vertices

  abbrev e : ℕ
  e = get_or out u 0

  abbrev N : Surface
  N = collapse S u w

  abbrev a : ℕ
  a = S.corner (prev e)

  abbrev f : ℕ
  f = get_or twin e 0

  abbrev b : ℕ
  b = S.corner (prev f)

  abbrev A : ℕ
  A = get_or twin (next e) 0

  abbrev B : ℕ
  B = get_or twin (prev e) 0

  abbrev C : ℕ
  C = get_or twin (next f) 0

  abbrev D : ℕ
  D = get_or twin (prev f) 0

  K : Sealed S
  K = sealed (closed_found S H.closed)

  held_is : held x ≡ N
  held_is = read_is N corners triangles vertices H.corners_are H.triangles_are H.vertices_are

  M : Sealed N
  M = rw held_is at (sealed_held x)

  X : TwinsLive N twin
  X = rw held_is at x.twins

  Y : OutLive N out
  Y = rw held_is at x.outs

  W : Within S (length triangles) (length vertices)
  W =
      record {
        triangles = λ t l. let p = H.within.triangles t l in let q = x.triangles.ok.0 in omega arith;
        vertices = λ v l. let p = H.within.vertices v l in let q = x.vertices.ok.0 in omega arith;
      }

  te : Tri S e u w a
  te = record { lives = H.out_lives; from = H.out_from; to = H.out_to; third = refl }

  -- across from a half-edge that is dead now
  across : {h x y z : ℕ} → Tri S h x y z → (Lives N h → ⊥) → (d : ℕ) × Tri S (get_or twin h 0) y x d
  across {h} t n = opposite_tri S t (H.twins_before h t.lives (flag_false _ n))

  e_dead : Lives N e → ⊥
  e_dead = let (g, d, t) = K.matched te in dead_e K (pinch K te t)

  tf : Tri S f w u b
  tf = let t = (across te e_dead).1 in record { lives = t.lives; from = t.from; to = t.to; third = refl }

  P : Pinch S N (rename u w) e f u w a b
  P = pinch K te tf

  f_dead : Lives N f → ⊥
  f_dead = dead_f K P

  next_dead : (h : ℕ) → (Lives N h → ⊥) → Lives N (next h) → ⊥
  next_dead h n l = n (lives_back K P h l)

  F : Four S u w a b A B C D
  F =
      record {
        t_a = across (spin te) (next_dead e e_dead);
        t_b = across (spin2 te) (next_dead (next e) (next_dead e e_dead));
        t_c = across (spin tf) (next_dead f f_dead);
        t_d = across (spin2 tf) (next_dead (next f) (next_dead f f_dead));
      }

  low : {h x y z : ℕ} → Tri S h x y z → h < length twin
  low {h} t = let q = W.triangles (h / 3) t.lives in omega (arith, (sized x).threes, (sized x).twin_long)

  pub beside : Beside twin e f
  beside =
      record {
        few = omega (arith, (sized x).few, (sized x).twin_long);
        e_here = low te;
        f_here = low tf;
        e_next = low (spin te);
        e_prev = low (spin2 te);
        f_next = low (spin tf);
        f_prev = low (spin2 tf);
        behind_e_next = low F.t_a.1;
        behind_e_prev = low F.t_b.1;
        behind_f_next = low F.t_c.1;
        behind_f_prev = low F.t_d.1;
      }

  pub e_triangle : e / 3 < length triangles
  e_triangle = W.triangles (e / 3) te.lives

  pub f_triangle : f / 3 < length triangles
  f_triangle = W.triangles (f / 3) tf.lives

  pub u_low : u < length vertices
  u_low = W.vertices u (K.known te)

  pub w_low : w < length out
  w_low = let q = W.vertices w (K.known tf) in omega (arith, (sized x).out_long)

  -- f begins at w
  pub f_from : get_or corners f 0 ≡ w
  f_from = H.corners_are f ∙ corner_dead S u w f (flag_false _ f_dead) ∙ tf.from

  the_way : (l : List ℕ) × Fan N w (next C) B l
  the_way = unwritten.exists S K e f u w a b te tf M B C F.t_b.0 F.t_c.0 F.t_b.1 F.t_c.1

  the_walk : Walk (λ h. get_or twin h 0) (next C) B the_way.0
  the_walk = fan_walk M (λ h. get_or twin h 0) (opposites N twin X) the_way.1

  pub walkable : Walkable corners twin B (next C) u
  walkable =
      record {
        way = the_way.0;
        walk = the_walk;
        free = λ i l p.
            let h : ℕ = get_or the_way.0 i 0 in
            let (g, k, t) = fan_at M the_way.1 (place_among the_way.0 i l) in
            u≢w K P (sym p ∙ H.corners_are h ∙ t.from);
        low = λ i l.
            let h : ℕ = get_or the_way.0 i 0 in
            let (g, k, t) = fan_at M the_way.1 (place_among the_way.0 i l) in
            let q = true_low triangles (h / 3) (H.triangles_are (h / 3) ∙ t.lives) in
            omega (arith, (sized x).threes);
        linked = (sized x).twin_long;
        few = (sized x).few;
      }

  pub corners_are : (after : List ℕ) → Moved corners twin B (next C) u after → CornersAre S after
  corners_are after G h =
      at (cases_Bool (among h the_way.0))
      ∙ ap (λ x. cond (among h the_way.0) u x) (H.corners_are h)
      ∙ unwritten.corner_back S K e f u w a b te tf M B C F.t_b.0 F.t_c.0 F.t_b.1 F.t_c.1 the_way.0 the_way.1 h
    where
      at : (among h the_way.0 ≡ true) ⊎ (among h the_way.0 ≡ false) → get_or after h 0 ≡ cond (among h the_way.0) u (get_or corners h 0)
      at (inl m) =
          let (i, l, p) = among_place h the_way.0 m in
          ap (λ x. get_or after x 0) (sym p) ∙ G.there the_way.0 the_walk i l ∙ sym (cond-true (among h the_way.0) u _ m)
      at (inr m) =
          G.elsewhere the_way.0 the_walk h (λ i l p. both_ways _ m (subst (λ x. among x the_way.0 ≡ true) p (place_among the_way.0 i l)))
          ∙ sym (cond-false (among h the_way.0) u _ m)

  pub triangles_are : TrianglesAre S (set (set triangles (e / 3) true) (f / 3) true)
  triangles_are t =
      raised (set triangles (e / 3) true) (f / 3) t (rw length-set f_triangle)
      ∙ ap (λ x. x || eqb t (f / 3)) (raised triangles (e / 3) t e_triangle)
      ∙ raise_both (get_or triangles t false) (eqb t (e / 3)) (eqb t (f / 3))
      ∙ ap (λ x. x || (eqb t (e / 3) || eqb t (f / 3))) (H.triangles_are t)
      ∙ unwritten.alive_back S K e f u w a b te tf M B C F.t_b.0 F.t_c.0 F.t_b.1 F.t_c.1 the_way.0 the_way.1 t

  pub vertices_are : VerticesAre S (set vertices u true)
  vertices_are v =
      raised vertices u v u_low
      ∙ ap (λ x. x || eqb v u) (H.vertices_are v)
      ∙ unwritten.present_back S K e f u w a b te tf M B C F.t_b.0 F.t_c.0 F.t_b.1 F.t_c.1 the_way.0 the_way.1 v

  uncrossed_is : (h : ℕ) → get_or (uncrossed twin e f) h 0 ≡ lay (λ i. get_or twin i 0) A (next e) B (prev e) C (next f) D (prev f) h
  uncrossed_is h = lay_set twin A (next e) B (prev e) C (next f) D (prev f) h (low F.t_a.1) (low F.t_b.1) (low F.t_c.1) (low F.t_d.1)

  pub twins_are : TwinsLive S (uncrossed twin e f)
  twins_are =
      twins_live S (uncrossed twin e f) λ h x y z t.
      let (d, s) = laid K P F (λ i. get_or twin i 0) M (opposites N twin X) (λ h x y z t n. across t n) h x y z t in
      (d, subst (λ g. Tri S g y x d) (sym (uncrossed_is h)) s)

  pub twins_kept : (h : ℕ) → S.alive (h / 3) ≡ false → get_or (uncrossed twin e f) h 0 ≡ get_or twin h 0
  twins_kept h l =
      uncrossed_is h
      ∙ lay_dead K P F (λ i. get_or twin i 0) (next e) (prev e) (next f) (prev f) h (λ m. both_ways _ l (alive_parts S u w (h / 3) m).0)

  pub outs_kept : (v : ℕ) → S.present v ≡ false → get_or (set out w f) v 0 ≡ get_or out v 0
  outs_kept v n = get_or-set_other out w v f 0 (λ i. both_ways _ n (ap S.present i ∙ K.known tf))

  pub outs_are : OutLive S (set out w f)
  outs_are v p = go (ℕ_discrete v w) (ℕ_discrete v u)
    where
      is : (g : ℕ) → get_or (set out w f) v 0 ≡ g → S.alive (g / 3) ≡ true → S.corner g ≡ v →
          (S.alive (get_or (set out w f) v 0 / 3) ≡ true) × (S.corner (get_or (set out w f) v 0) ≡ v)
      is g i l c = subst (λ h. (S.alive (h / 3) ≡ true) × (S.corner h ≡ v)) (sym i) (l, c)

      back : (g : ℕ) → v ≢ w → Lives N g → N.corner g ≡ v → Dec (S.corner g ≡ u) → S.corner g ≡ v
      back g n l c (yes i) = absurd (n (sym c ∙ corner_is S u w g l ∙ rename_hit u w (S.corner g) i))
      back g n l c (no i) = sym (rename_miss u w (S.corner g) i) ∙ sym (corner_is S u w g l) ∙ c

      go : Dec (v ≡ w) → Dec (v ≡ u) → (S.alive (get_or (set out w f) v 0 / 3) ≡ true) × (S.corner (get_or (set out w f) v 0) ≡ v)
      go (yes i) _ = is f (ap (λ x. get_or (set out w f) x 0) i ∙ get_or-set_same out w f 0 w_low) tf.lives (tf.from ∙ sym i)
      go (no n) (yes i) = is e (get_or-set_other out w v f 0 n ∙ ap (λ y. get_or out y 0) i) te.lives (te.from ∙ sym i)
      go (no n) (no m) =
          let (l, c) = Y v (present_from S u w v p m) in
          is (get_or out v 0) (get_or-set_other out w v f 0 n) (alive_parts S u w (get_or out v 0 / 3) l).0 (back (get_or out v 0) n l c (ℕ_discrete (S.corner (get_or out v 0)) u))
