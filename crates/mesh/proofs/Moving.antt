-- What a mesh keeps to, along its log.
use Rattle.std.proofs.Common.{◌≡◌, ℕ, suc, ◌+◌, ◌/◌, ◌<◌, ◌≤◌, true, false, List, [], ◌∷◌, ◌++◌, length, get_or, take, vec_items, vec_len, sym, refl, ap, ◌∙◌, subst, add-one, arith}
use native.Mathlib.Decide.{ℕ_discrete}
use Rattle.std.proofs.lemmas.List.{get_or_append_left, get_or-take, get_or_push, length_push, length-take-le}
use Rattle.surface.specs.Surface.{Surface, next, Within}
use Rattle.surface.specs.Closed.{Closed}
use Rattle.surface.specs.Collapse.{collapse}
use Rattle.surface.specs.Geometry.{Vector}
use Rattle.surface.specs.Permitted.{Permitted}
use Rattle.mesh.specs.Held.{opposite}
use Rattle.mesh.specs.Kept.{CornersAre, TrianglesAre, VerticesAre, TwinsDead, OutDead}
use Rattle.mesh.specs.Model.{held}
use Rattle.mesh.specs.Edits.{collapsed, Joined, Taken, Parted}
use Rattle.mesh.specs.Moves.{record_of}
use Rattle.mesh.specs.Stages.{record_at, stage, AllPermitted}
use Rattle.mesh.specs.declared.halfedges.HalfEdges.{HalfEdges}
use Rattle.mesh.specs.declared.record.Record.{Record}
use Rattle.mesh.proofs.Along.{stage_same, alive_after, present_after, gone, died_parts, died_from, stage_within}

-- two logs that agree below p
module _ (S : Surface) (log log' : List Record) (p : ℕ) (agree : (i : ℕ) → i < p → record_at log i ≡ record_at log' i) where
  pub same_stage : (k : ℕ) → k ≤ p → stage S log k ≡ stage S log' k
  same_stage k l = stage_same S log log' k (λ i m. agree i (omega arith))

  pub same_twins : (twin : List ℕ) → TwinsDead S log p twin → TwinsDead S log' p twin
  same_twins twin D k h d =
      let (l, i, j) = died_parts S log' p k (h / 3) d in
      let a : stage S log k ≡ stage S log' k = same_stage k (omega arith) in
      let b : stage S log (suc k) ≡ stage S log' (suc k) = same_stage (suc k) l in
      rw (← a) (D k h (died_from S log p k (h / 3) l (rw a i) (rw b j)))

  pub same_outs : (out : List ℕ) → OutDead S log p out → OutDead S log' p out
  same_outs out D k l = rw (← same_stage k (omega arith), ← agree k l) (D k l)

-- r at place p, and nothing after it
module _ (log : List Record) (p : ℕ) (r : Record) (within : p ≤ length log) where
  abbrev cut : List Record
  cut = take p log ++ r ∷ []

  pub cut_long : length cut ≡ p + 1
  cut_long = length_push (take p log) r ∙ ap (λ n. n + 1) (length-take-le p log within)

  pub cut_below : (i : ℕ) → i < p → record_at log i ≡ record_at cut i
  cut_below i l =
      sym (get_or_append_left (take p log) (r ∷ []) (record { u = 0; w = 0 }) i (let q = length-take-le p log within in omega arith) ∙ get_or-take p log i (record { u = 0; w = 0 }) l)

  pub cut_at : record_at cut p ≡ r
  cut_at = get_or_push (take p log) r (record { u = 0; w = 0 }) p (length-take-le p log within)

  pub cut_permitted : (S : Surface) (P : ℕ → Vector) → AllPermitted S P log → ∥ Permitted (stage S log p) P r.u r.w ∥₁ → AllPermitted S P cut
  cut_permitted S P A q k l = go (ℕ_discrete k p)
    where
      go : Dec (k ≡ p) → ∥ Permitted (stage S cut k) P (record_at cut k).u (record_at cut k).w ∥₁
      go (yes i) = rw (i, cut_at, ← same_stage S log cut p cut_below p (omega arith)) q
      go (no i) = let m : k < p = omega (arith, cut_long) in rw (← same_stage S log cut p cut_below k (omega arith), ← cut_below k m) (A k (omega arith))

module _ (S : Surface) (log : List Record) (p : ℕ) (x : HalfEdges) where
  pub next_stage : stage S log (suc p) ≡ collapse (stage S log p) (record_at log p).u (record_at log p).w
  unfolding stage
  next_stage = refl

  module _ (now_is : held x ≡ stage S log p) (D : TwinsDead S log p (vec_items x.twin)) (E : OutDead S log p (vec_items x.out))
      (e : ℕ) (live : (held x).alive (e / 3) ≡ true) (same : record_of x e ≡ record_at log p) where
    from_is : (held x).corner e ≡ (record_at log p).u
    from_is = ap (λ r. r.u) same

    to_is : (held x).corner (next e) ≡ (record_at log p).w
    to_is = ap (λ r. r.w) same

    collapsed_is : collapsed x e ≡ stage S log (suc p)
    collapsed_is = rw (next_stage, ← now_is, ← from_is, ← to_is)

    pub after_is : collapsed x e ≡ stage S log (p + 1)
    after_is = collapsed_is ∙ ap (stage S log) (sym (add-one p))

    module _ (y : HalfEdges) (J : Joined x e y) where
      pub corners_next : CornersAre (stage S log (p + 1)) (vec_items y.corners)
      corners_next = rw (← after_is) J.corners_are

      pub triangles_next : TrianglesAre (stage S log (p + 1)) (vec_items y.triangles)
      triangles_next = rw (← after_is) J.triangles_are

      pub vertices_next : VerticesAre (stage S log (p + 1)) (vec_items y.vertices)
      vertices_next = rw (← after_is) J.vertices_are

      twin_kept : (h : ℕ) → (stage S log (suc p)).alive (h / 3) ≡ false → get_or (vec_items y.twin) h 0 ≡ get_or (vec_items x.twin) h 0
      twin_kept h n = J.twins_kept h (rw collapsed_is n)

      pub twins_next : TwinsDead S log (p + 1) (vec_items y.twin)
      twins_next k h d = let (l, i, j) = died_parts S log (p + 1) k (h / 3) d in go l i j (ℕ_discrete k p)
        where
          go : k < p + 1 → (stage S log k).alive (h / 3) ≡ true → (stage S log (suc k)).alive (h / 3) ≡ false → Dec (k ≡ p) → opposite (stage S log k) h (get_or (vec_items y.twin) h 0) ≡ true
          go l i j (no n) =
              let m : k < p = omega arith in
              rw (twin_kept h (alive_after S log (suc k) (suc p) (h / 3) (omega arith) j)) (D k h (died_from S log p k (h / 3) m i j))
          go l i j (yes n) =
              let q : stage S log k ≡ held x = ap (stage S log) n ∙ sym now_is in
              let o : opposite (held x) h (get_or (vec_items x.twin) h 0) ≡ true = x.twins h (rw (← q) i) in
              let t : get_or (vec_items y.twin) h 0 ≡ get_or (vec_items x.twin) h 0 = twin_kept h (subst (λ m. (stage S log (suc m)).alive (h / 3) ≡ false) n j) in
              rw (q, t) o

      pub outs_next : OutDead S log (p + 1) (vec_items y.out)
      outs_next k l = go (ℕ_discrete k p)
        where
          go : Dec (k ≡ p) →
              ((stage S log k).alive (get_or (vec_items y.out) (record_at log k).u 0 / 3) ≡ true)
              × ((stage S log k).corner (get_or (vec_items y.out) (record_at log k).u 0) ≡ (record_at log k).u)
              × ((stage S log k).corner (next (get_or (vec_items y.out) (record_at log k).u 0)) ≡ (record_at log k).w)
          go (no n) =
              let m : k < p = omega arith in
              let g : (held x).present (record_at log k).u ≡ false = rw now_is (present_after S log (suc k) p (record_at log k).u m (gone S log k)) in
              rw (J.outs_kept (record_at log k).u g) (E k m)
          go (yes n) =
              let o : get_or (vec_items y.out) (record_at log p).u 0 ≡ e = subst (λ v. get_or (vec_items y.out) v 0 ≡ e) from_is J.out_is in
              rw (n, o, ← now_is) (live, from_is, to_is)

module _ (S : Surface) (log : List Record) (q : ℕ) (x : HalfEdges) where
  -- the state after record q, and how to take it back
  pub taken : ∥ Closed (stage S log q) ∥₁ → Within S (vec_len x.triangles) (vec_len x.vertices) →
      CornersAre (stage S log (suc q)) (vec_items x.corners) → TrianglesAre (stage S log (suc q)) (vec_items x.triangles) →
      VerticesAre (stage S log (suc q)) (vec_items x.vertices) →
      TwinsDead S log (suc q) (vec_items x.twin) → OutDead S log (suc q) (vec_items x.out) →
      Taken (stage S log q) (record_at log q).u (record_at log q).w x
  unfolding stage
  taken C W cs ts vs D E =
      let (l, f, t) = E q (omega arith) in
      record {
        closed = C;
        within = stage_within S log (vec_len x.triangles) (vec_len x.vertices) q W;
        corners_are = cs;
        triangles_are = ts;
        vertices_are = vs;
        out_lives = l;
        out_from = f;
        out_to = t;
        twins_before = λ h i j. D q h (died_from S log (suc q) q (h / 3) (omega arith) i j);
      }

  module _ (D : TwinsDead S log (suc q) (vec_items x.twin)) (E : OutDead S log (suc q) (vec_items x.out)) (y : HalfEdges) (J : Parted (stage S log q) x y) where
    pub twins_back : TwinsDead S log q (vec_items y.twin)
    twins_back k h d =
        let (l, i, j) = died_parts S log q k (h / 3) d in
        let n : (stage S log q).alive (h / 3) ≡ false = alive_after S log (suc k) q (h / 3) l j in
        rw (J.twins_kept h n) (D k h (died_from S log (suc q) k (h / 3) (omega arith) i j))

    pub outs_back : OutDead S log q (vec_items y.out)
    outs_back k l =
        let n : (stage S log q).present (record_at log k).u ≡ false = present_after S log (suc k) q (record_at log k).u l (gone S log k) in
        rw (J.outs_kept (record_at log k).u n) (E k (omega arith))
