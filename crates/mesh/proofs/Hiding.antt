-- The way along the log does not show.
use Rattle.std.proofs.Common.{◌≡◌, ℕ, suc, ◌/◌, ◌<◌, ◌≤◌, true, false, ◌⊎◌, List, length, get_or, take, vec_items, sym, ap, ◌∙◌, subst, inl, inr, arith}
use Rattle.std.proofs.lemmas.List.{ext_get_or, get_or-take}
use Rattle.surface.specs.Surface.{Surface}
use Rattle.surface.specs.Read.{whole}
use Rattle.surface.proofs.Sealed.{Sealed}
use Rattle.surface.proofs.FromRings.{sealed}
use Rattle.surface.proofs.Tris.{tri_at}
use Rattle.mesh.specs.Held.{opposite, TwinsLive}
use Rattle.mesh.specs.Kept.{TwinsDead}
use Rattle.mesh.specs.Model.{opening, points}
use Rattle.mesh.specs.Moves.{SameOpening, SameLists, WayHidden}
use Rattle.mesh.specs.Stages.{record_at, stage}
use Rattle.mesh.specs.declared.mesh.Mesh.{Mesh}
use Rattle.mesh.specs.declared.record.Record.{Record}
use Rattle.mesh.proofs.Along.{stage_closed, died_from, fate_along, whole_alive}
use Rattle.mesh.proofs.Meshes.{now_is}
use Rattle.mesh.proofs.Moving.{same_stage, same_twins}
use Rattle.mesh.proofs.Twins.{opposite_tri}

-- a half-edge has one opposite
opposite_one : (S : Surface) → Sealed S → (h g k : ℕ) → S.alive (h / 3) ≡ true → opposite S h g ≡ true → opposite S h k ≡ true → g ≡ k
opposite_one S K h g k l p q = let t = tri_at S h l in K.single (opposite_tri S t p).1 (opposite_tri S t q).1

module _ (m n : Mesh) (Z : SameOpening m n) (at : n.position ≡ m.position) (done : take n.position (vec_items n.log) ≡ take m.position (vec_items m.log)) where
  abbrev S : Surface
  S = opening m

  abbrev L : List Record
  L = vec_items m.log

  abbrev p : ℕ
  p = m.position

  opening_is : opening n ≡ S
  opening_is = ap (λ c. whole c (length (vec_items n.positions))) Z.opened_same ∙ ap (λ v. whole (vec_items m.opened) (length v)) Z.positions_same

  agree : (i : ℕ) → i < p → record_at (vec_items n.log) i ≡ record_at L i
  agree i l =
      sym (get_or-take n.position (vec_items n.log) i (record { u = 0; w = 0 }) (omega arith))
      ∙ ap (λ r. get_or r i (record { u = 0; w = 0 })) done
      ∙ get_or-take m.position L i (record { u = 0; w = 0 }) l

  stage_is : stage (opening n) (vec_items n.log) n.position ≡ stage S L p
  stage_is = rw (at, opening_is) (same_stage S (vec_items n.log) L p agree p (omega arith))

  twins_dead : TwinsDead S L p (vec_items n.edges.twin)
  twins_dead =
      same_twins S (vec_items n.log) L p agree (vec_items n.edges.twin)
      (subst (λ k. TwinsDead S (vec_items n.log) k (vec_items n.edges.twin)) at
      (subst (λ s. TwinsDead s (vec_items n.log) n.position (vec_items n.edges.twin)) opening_is n.twins_dead))

  twins_live : TwinsLive (stage S L p) (vec_items n.edges.twin)
  twins_live = subst (λ s. TwinsLive s (vec_items n.edges.twin)) (now_is n ∙ stage_is) n.edges.twins

  closed_at : (k : ℕ) → k ≤ p → Sealed (stage S L k)
  closed_at k l = sealed (stage_closed S L (points m) m.begun m.permitted k (let a = m.placed in let b = m.log.ok.0 in omega arith))

  corners_long : length (vec_items n.edges.corners) ≡ length (vec_items m.edges.corners)
  corners_long =
      let a = ap length Z.opened_same in
      let b = m.corners_long in
      let c = n.corners_long in
      let d = m.opened.ok.0 in
      let e = n.opened.ok.0 in
      let f = m.edges.corners.ok.0 in
      let g = n.edges.corners.ok.0 in
      omega arith

  twin_at : (h : ℕ) → S.alive (h / 3) ≡ true → get_or (vec_items n.edges.twin) h 0 ≡ get_or (vec_items m.edges.twin) h 0
  twin_at h l = go (fate_along S L (h / 3) l p)
    where
      go : ((stage S L p).alive (h / 3) ≡ true) ⊎ ((k : ℕ) × (k < p) × ((stage S L k).alive (h / 3) ≡ true) × ((stage S L (suc k)).alive (h / 3) ≡ false)) →
          get_or (vec_items n.edges.twin) h 0 ≡ get_or (vec_items m.edges.twin) h 0
      go (inl i) =
          let q : TwinsLive (stage S L p) (vec_items m.edges.twin) = subst (λ s. TwinsLive s (vec_items m.edges.twin)) (now_is m) m.edges.twins in
          opposite_one (stage S L p) (closed_at p (omega arith)) h _ _ i (twins_live h i) (q h i)
      go (inr (k, i, a, b)) =
          let d = died_from S L p k (h / 3) i a b in
          opposite_one (stage S L k) (closed_at k (omega arith)) h _ _ a (twins_dead k h d) (m.twins_dead k h d)

  pub same_lists : SameLists m n
  same_lists =
      let f = m.edges.corners.ok.0 in
      let g = n.edges.corners.ok.0 in
      let c = corners_long in
      record {
        corners_same = ext_get_or 0 _ _ corners_long (λ h l. n.corners_are h ∙ ap (λ s. s.corner h) stage_is ∙ sym (m.corners_are h));
        twin_same =
            ext_get_or 0 _ _
            (let a = m.edges.twin_long in let b = n.edges.twin_long in let d = m.edges.twin.ok.0 in let e = n.edges.twin.ok.0 in omega arith)
            (λ h l. twin_at h (whole_alive (vec_items m.opened) (length (vec_items m.positions)) (h / 3) (low h l)));
        triangles_same =
            ext_get_or false _ _
            (let a = m.edges.threes in let b = n.edges.threes in let d = m.edges.triangles.ok.0 in let e = n.edges.triangles.ok.0 in omega arith)
            (λ t l. n.triangles_are t ∙ ap (λ s. s.alive t) stage_is ∙ sym (m.triangles_are t));
        vertices_same =
            ext_get_or false _ _
            (let a = m.vertices_long in
            let b = n.vertices_long in
            let d = m.edges.vertices.ok.0 in
            let e = n.edges.vertices.ok.0 in
            let i = ap length Z.positions_same in
            let j = m.positions.ok.0 in
            let k = n.positions.ok.0 in
            omega arith)
            (λ v l. n.vertices_are v ∙ ap (λ s. s.present v) stage_is ∙ sym (m.vertices_are v));
      }
    where
      low : (h : ℕ) → h < length (vec_items n.edges.twin) → h / 3 < length (vec_items m.opened) / 3
      low h l =
          let a = n.edges.twin_long in
          let b = n.edges.twin.ok.0 in
          let c = n.edges.threes in
          let d = n.corners_long in
          let e = n.opened.ok.0 in
          let f = ap length Z.opened_same in
          omega arith

pub way_hidden : WayHidden
way_hidden m n Z at done = same_lists m n Z at done
