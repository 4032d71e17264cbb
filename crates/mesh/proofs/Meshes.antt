-- What a mesh keeps to when it moves along its log.
use Rattle.std.proofs.Common.{◌≡◌, ℕ, suc, ◌+◌, ◌/◌, ◌<◌, ◌≤◌, true, List, [], ◌∷◌, ◌++◌, length, get_or, take, vec_items, vec_len, vec_capacity, sym, ap, ◌∙◌, subst, arith}
use Rattle.std.proofs.lemmas.List.{get_or_read}
use Rattle.surface.specs.Surface.{Surface, Within}
use Rattle.surface.specs.Closed.{Closed}
use Rattle.surface.specs.Permitted.{Permitted}
use Rattle.surface.proofs.Found.{closed_found, permitted_found}
use Rattle.mesh.specs.Kept.{CornersAre, TrianglesAre, VerticesAre, TwinsDead, OutDead}
use Rattle.mesh.specs.Model.{held, opening, points}
use Rattle.mesh.specs.Edits.{collapsed, Joined, Taken, Parted}
use Rattle.mesh.specs.Moves.{record_of, Noted}
use Rattle.mesh.specs.Stages.{record_at, stage, AllPermitted}
use Rattle.mesh.specs.declared.halfedges.HalfEdges.{HalfEdges}
use Rattle.mesh.specs.declared.mesh.Mesh.{Mesh}
use Rattle.mesh.specs.declared.record.Record.{Record}
use Rattle.mesh.proofs.Along.{stage_closed, room, whole_within}
use Rattle.mesh.proofs.Held.{read_is}
use Rattle.mesh.proofs.Moving as moving

module _ (m : Mesh) where
  abbrev S : Surface
  S = opening m

  abbrev L : List Record
  L = vec_items m.log

  pub now_is : held m.edges ≡ stage S L m.position
  now_is = read_is (stage S L m.position) (vec_items m.edges.corners) (vec_items m.edges.triangles) (vec_items m.edges.vertices) m.corners_are m.triangles_are m.vertices_are

  -- truncated, then with one more
  pub cut_is : (r : Record) (l l' : List Record) → l ≡ take m.position L → l' ≡ l ++ r ∷ [] → l' ≡ take m.position L ++ r ∷ []
  cut_is r l l' p q = q ∙ ap (λ k. k ++ r ∷ []) p

  placed : m.position ≤ length L
  placed = let p = m.placed in let q = m.log.ok.0 in omega arith

  pub closed_at : (k : ℕ) → k ≤ vec_len m.log → ∥ Closed (stage S L k) ∥₁
  closed_at k p = ∣ stage_closed S L (points m) m.begun m.permitted k (let q = m.log.ok.0 in omega arith) ∣₁

  module _ (e : ℕ) (ahead : m.position < vec_len m.log) (live : (held m.edges).alive (e / 3) ≡ true) (same : record_of m.edges e ≡ record_at L m.position) where
    pub join_closed : ∥ Closed (collapsed m.edges e) ∥₁
    join_closed = rw (moving.after_is S L m.position m.edges now_is m.twins_dead m.out_dead e live same) (closed_at (m.position + 1) (omega arith))

    module _ (y : HalfEdges) (J : Joined m.edges e y) where
      pub corners_next : CornersAre (stage S L (m.position + 1)) (vec_items y.corners)
      corners_next = moving.corners_next S L m.position m.edges now_is m.twins_dead m.out_dead e live same y J

      pub triangles_next : TrianglesAre (stage S L (m.position + 1)) (vec_items y.triangles)
      triangles_next = moving.triangles_next S L m.position m.edges now_is m.twins_dead m.out_dead e live same y J

      pub vertices_next : VerticesAre (stage S L (m.position + 1)) (vec_items y.vertices)
      vertices_next = moving.vertices_next S L m.position m.edges now_is m.twins_dead m.out_dead e live same y J

      pub twins_next : TwinsDead S L (m.position + 1) (vec_items y.twin)
      twins_next = moving.twins_next S L m.position m.edges now_is m.twins_dead m.out_dead e live same y J

      pub outs_next : OutDead S L (m.position + 1) (vec_items y.out)
      outs_next = moving.outs_next S L m.position m.edges now_is m.twins_dead m.out_dead e live same y J

  module _ (u w : ℕ) (Q : ∥ Permitted (held m.edges) (points m) u w ∥₁) where
    pub note_room : m.position < vec_capacity m.log
    note_room =
        let K : Closed (held m.edges) = closed_found (held m.edges) m.edges.closed in
        let (h, c, t) = (permitted_found (held m.edges) K (points m) u w Q).side in
        let p : (stage S L m.position).present u ≡ true = rw (← now_is) (K.known h u w c t) in
        let r = room (vec_items m.opened) (length (vec_items m.positions)) L (points m) m.begun m.permitted m.position u placed p in
        let s = m.positions.ok.0 in
        let l = m.log_room in
        omega arith

  module _ (r : Record) (Q : ∥ Permitted (held m.edges) (points m) r.u r.w ∥₁) (L' : List Record) (is : L' ≡ take m.position L ++ r ∷ []) where
    noted_below : (i : ℕ) → i < m.position → record_at L i ≡ record_at L' i
    noted_below = rw is (moving.cut_below L m.position r placed)

    pub noted_permitted : AllPermitted S (points m) L'
    noted_permitted = rw is (moving.cut_permitted L m.position r placed S (points m) m.permitted (rw (← now_is) Q))

    pub noted_stage : stage S L m.position ≡ stage S L' m.position
    noted_stage = moving.same_stage S L L' m.position noted_below m.position (omega arith)

    pub noted_twins : TwinsDead S L' m.position (vec_items m.edges.twin)
    noted_twins = moving.same_twins S L L' m.position noted_below (vec_items m.edges.twin) m.twins_dead

    pub noted_outs : OutDead S L' m.position (vec_items m.edges.out)
    noted_outs = moving.same_outs S L L' m.position noted_below (vec_items m.edges.out) m.out_dead

    pub noted_corners : CornersAre (stage S L' m.position) (vec_items m.edges.corners)
    noted_corners = rw (← noted_stage) m.corners_are

    pub noted_triangles : TrianglesAre (stage S L' m.position) (vec_items m.edges.triangles)
    noted_triangles = rw (← noted_stage) m.triangles_are

    pub noted_vertices : VerticesAre (stage S L' m.position) (vec_items m.edges.vertices)
    noted_vertices = rw (← noted_stage) m.vertices_are

  module _ (q : ℕ) (back_is : suc q ≡ m.position) where
    D : TwinsDead S L (suc q) (vec_items m.edges.twin)
    D = rw back_is m.twins_dead

    E : OutDead S L (suc q) (vec_items m.edges.out)
    E = rw back_is m.out_dead

    within : Within S (vec_len m.edges.triangles) (vec_len m.edges.vertices)
    within =
        let W = whole_within (vec_items m.opened) (length (vec_items m.positions)) in
        let a = m.corners_long in
        let b = m.vertices_long in
        let c = m.opened.ok.0 in
        let d = m.positions.ok.0 in
        let f = m.edges.threes in
        record { triangles = λ t l. let p = W.triangles t l in omega arith; vertices = λ v l. let p = W.vertices v l in omega arith }

    taken : Taken (stage S L q) (record_at L q).u (record_at L q).w m.edges
    taken =
        moving.taken S L q m.edges (closed_at q (let p = m.placed in omega arith)) within
        (rw back_is m.corners_are) (rw back_is m.triangles_are) (rw back_is m.vertices_are) D E

    module _ (r : Record) (p : r ≡ get_or L q r) where
      pub r_is : r ≡ record_at L q
      r_is = get_or_read L q r (let a = placed in omega arith) p (record { u = 0; w = 0 })

      pub taken_at : Taken (stage S L q) r.u (record_at L q).w m.edges
      taken_at = subst (λ v. Taken (stage S L q) v (record_at L q).w m.edges) (ap (λ t. t.u) (sym r_is)) taken

      module _ (y : HalfEdges) (J : (N : Surface) (w : ℕ) → Taken N r.u w m.edges → Parted N m.edges y) where
        pub parted : Parted (stage S L q) m.edges y
        parted = J (stage S L q) (record_at L q).w taken_at

        pub twins_back : TwinsDead S L q (vec_items y.twin)
        twins_back = moving.twins_back S L q m.edges D E y parted

        pub outs_back : OutDead S L q (vec_items y.out)
        outs_back = moving.outs_back S L q m.edges D E y parted

-- after the note the record of e lies ahead
module _ (m : Mesh) (e : ℕ) (r : Record) (n : Mesh) (from : r ≡ record_of m.edges e) (N : Noted m r n) where
  pub noted_ahead : n.position < vec_len n.log
  noted_ahead =
      let a = N.position_same in
      let b : length (vec_items n.log) ≡ m.position + 1 = ap length N.log_cut ∙ moving.cut_long (vec_items m.log) m.position r (placed m) in
      let c = n.log.ok.0 in
      omega arith

  pub noted_live : (held m.edges).alive (e / 3) ≡ true → (held n.edges).alive (e / 3) ≡ true
  noted_live l = rw N.edges_same l

  pub noted_same : record_of n.edges e ≡ record_at (vec_items n.log) n.position
  noted_same =
      let a : record_of n.edges e ≡ record_of m.edges e = ap (λ x. record_of x e) N.edges_same in
      let b : record_at (take m.position (vec_items m.log) ++ r ∷ []) m.position ≡ r = moving.cut_at (vec_items m.log) m.position r (placed m) in
      rw (N.log_cut, N.position_same, b, from) a
