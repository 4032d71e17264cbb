-- A mesh at the start of its log is tied to a gauge that was opened for it and a queue that was filled.
use Rattle.std.proofs.Common.{◌≡◌, ℕ, ◌*◌, ◌<◌, ◌≤◌, length, replicate, None, Ok, Err, vec_items, vec_len, Option, Result, sym, refl, ap, ◌∙◌, subst, arith, MatchResult}
use lib.ListN.{length-replicate}
use Rattle.surface.specs.Surface.{Surface}
use Rattle.surface.specs.Geometry.{Vector}
use Rattle.gathering.specs.Model.{positions, corners, surface_of}
use Rattle.gathering.specs.declared.gathering.Gathering.{Gathering}
use Rattle.judging.specs.Verdict.{Judged, JudgedSurface}
use Rattle.mesh.specs.Laws.{triangle_slots, vertex_slots}
use Rattle.mesh.specs.Model.{surface, opening, points, log}
use Rattle.mesh.specs.Opened.{Opened as Fresh}
use Rattle.mesh.specs.Stages.{stage}
use Rattle.mesh.specs.declared.mesh.Mesh.{Mesh}
use Rattle.mesh.specs.declared.mesh.opening.Opening.{Opening}
use Rattle.mesh.proofs.Meshes.{now_is}
use Rattle.order.specs.declared.Ordered.{Ghosts as Order}
use Rattle.queue.specs.Meaning.{keys_of}
use Rattle.queue.specs.declared.Queue.{Queue}
use Rattle.queue.specs.declared.keys.Key.{Key}
use Rattle.gauge.specs.declared.Gauge.{Ghosts}
use Rattle.gauge.specs.declared.TooManyVertices.{TooManyVertices}
use Rattle.ledger.specs.Book.{Book, account_at, account_now}
use Rattle.opened_surface.specs.Begun.{Begun, Empty, Prepared}
use Rattle.opened_surface.specs.Mending.{Accounted, KeyedNow}
use Rattle.opened_surface.specs.Openings.{first_book, OpenedWith}
use Rattle.opened_surface.specs.Tied.{book_of, Tied}
use Rattle.opened_surface.specs.declared.stale.Stale.{Stale}
use Rattle.opened_surface.specs.declared.opened.Opened.{Opened}
use Rattle.opened_surface.specs.declared.thinning.Thinning.{Thinning}
use Rattle.opened_surface.proofs.Consistents.{consistent}
use Rattle.opened_surface.proofs.Ties.{thinning}

start_surface : (mesh : Mesh) → mesh.position ≡ 0 → surface mesh ≡ opening mesh
unfolding stage
start_surface mesh z = now_is mesh ∙ ap (stage (opening mesh) (log mesh)) z

module _ {G C E Z : Type 0} (m : Ghosts G C E Z) (o : Order C) (long : (s : Z) (X : Surface) (P : ℕ → Vector) (n : ℕ) → length (m.opening s X P n) ≡ n) where
  start_account : (s : Z) (mesh : Mesh) → mesh.position ≡ 0 → m.opening s (surface mesh) (points mesh) (length (vec_items mesh.positions)) ≡ account_now m s (book_of mesh)
  unfolding account_at
  start_account s mesh z = ap (λ S. m.opening s S (points mesh) (length (vec_items mesh.positions))) (start_surface mesh z) ∙ ap (account_at m s (book_of mesh)) (sym z)

  abbrev account_of : Mesh → G → G → Type 0
  account_of mesh g h = m.account h ≡ m.opening (m.setting g) (surface mesh) (points mesh) (length (vec_items mesh.positions))

  -- a gauge that takes the vertices does not refuse
  taken_opened : (mesh : Mesh) (g h : G) (r : Result Unit TooManyVertices) →
      MatchResult r (λ _. (length (vec_items mesh.positions) ≤ m.capacity g) × account_of mesh g h) (λ _. (m.capacity g < length (vec_items mesh.positions)) × (h ≡ g)) →
      length (vec_items mesh.positions) ≤ m.capacity g → account_of mesh g h
  taken_opened mesh g h (Ok _) (l, i) n = i
  taken_opened mesh g h (Err _) (l, i) n = absurd (omega arith)

  module _ (mesh : Mesh) (g h : G) (p q : Queue C o) (stale : Stale) (fixed : m.setting h ≡ m.setting g) (r : Result Unit TooManyVertices)
      (answers : MatchResult r (λ _. (length (vec_items mesh.positions) ≤ m.capacity g) × account_of mesh g h) (λ _. (m.capacity g < length (vec_items mesh.positions)) × (h ≡ g)))
      (keyed : Accounted m mesh h → 3 * vec_len mesh.edges.triangles ≤ length (keys_of p) → KeyedNow m mesh h (vec_len mesh.edges.triangles) (keys_of q))
      (same : Accounted m mesh h → length (keys_of q) ≡ length (keys_of p)) where
    tied : length (vec_items mesh.positions) ≤ m.capacity g → mesh.position ≡ 0 → Empty o mesh p stale → Tied m o (thinning mesh h q stale)
    tied n z E =
        let opened = taken_opened mesh g h r answers n in
        let accounted : Accounted m mesh h = ap length opened ∙ long (m.setting g) (surface mesh) (points mesh) (length (vec_items mesh.positions)) in
        let t = mesh.edges.threes in
        let l : length (keys_of p) ≡ vec_len mesh.edges.corners = ap length E.none ∙ length-replicate (vec_len mesh.edges.corners) None in
        let k = same accounted in
        record {
          account = opened ∙ start_account (m.setting g) mesh z ∙ ap (λ s. account_now m s (book_of mesh)) (sym fixed);
          long = omega arith;
          keyed = λ i x a b. keyed accounted (omega arith) i x;
          sized = E.sized;
        }

    pub begun : Begun m o mesh g p stale (thinning mesh h q stale)
    begun = record { mesh_same = refl; setting_same = fixed; account_is = taken_opened mesh g h r answers; tied = tied }

-- the book of a mesh as it was opened
first_book_lem : (g : Gathering) (x : Opening) → Fresh g x → book_of x.mesh ≡ first_book (positions g) (corners g)
first_book_lem g x F = rw (F.positions_are, F.corners_are, F.log_empty, F.at_start)

module _ {G C E Z : Type 0} (m : Ghosts G C E Z) (o : Order C) (g : Gathering) (gauge : G) (x : Opening) (F : Fresh g x) (p : Queue C o) (s : Stale) (P : Prepared m o g gauge p s) (y : Thinning G C E Z o) (B : Begun m o x.mesh gauge p s y) where
  same_mesh : book_of y.mesh ≡ first_book (positions g) (corners g)
  same_mesh = ap book_of B.mesh_same ∙ first_book_lem g x F

  many : length (vec_items x.mesh.positions) ≡ length (positions g)
  many = ap length F.positions_are

  first_surface : surface x.mesh ≡ surface_of (positions g) (corners g)
  first_surface = start_surface x.mesh F.at_start ∙ ap (λ (b : Book). b.opened) (first_book_lem g x F)

  corners_long : vec_len x.mesh.edges.corners ≡ length (corners g)
  corners_long = let i = x.mesh.corners_long in let j = x.mesh.opened.ok.0 in let k = ap length F.corners_are in omega arith

  taken : length (vec_items x.mesh.positions) ≤ m.capacity gauge
  taken = let t = P.taken in omega (arith, many)

  empty : Empty o x.mesh p s
  empty =
      let nothing : Option (Key ℕ) = None in
      let all = length-replicate (length (positions g)) nothing in
      record {
        none = P.none ∙ ap (λ n. replicate n None) (sym corners_long);
        sized = (ap length P.fresh.0 ∙ all ∙ sym many, ap length P.fresh.1 ∙ all ∙ sym many);
      }

  pub tied_there : Tied m o y
  tied_there = B.tied taken F.at_start empty

  pub judged_there : ∥ JudgedSurface (opening y.mesh) (points y.mesh) (triangle_slots y.mesh) (vertex_slots y.mesh) (Ok x.counts) ∥₁
  judged_there = ∣ subst (λ (b : Book). JudgedSurface b.opened b.points b.triangles b.vertices (Ok x.counts)) (sym same_mesh) F.judged ∣₁

  pub opened_with : (z : Opened G C E Z m o) → z.thinning ≡ y → z.counts ≡ x.counts → OpenedWith m o g gauge z
  opened_with z same counts =
      record {
        judged = subst (λ n. Judged (positions g) (corners g) (Ok n)) (sym counts) F.judged;
        taken = P.taken;
        book_is = ap (λ k. book_of k.mesh) same ∙ same_mesh;
        surface_is = ap (λ k. surface k.mesh) same ∙ ap surface B.mesh_same ∙ first_surface;
        account_is = ap (λ k. m.account k.gauge) same ∙ B.account_is taken ∙ rw (first_surface, F.positions_are);
        setting_same = ap (λ k. m.setting k.gauge) same ∙ B.setting_same;
        consistent = consistent z;
      }
