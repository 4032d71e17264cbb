-- Walks round a vertex of the surface that half-edges hold.
use Rattle.std.proofs.Common.{◌≡◌, ℕ, suc, ◌-◌, ◌/◌, ◌<◌, ◌≤◌, true, ◌≢◌, List, length, get_or, vec_items, vec_len, sym, refl, ap, ◌∙◌, subst, arith}
use native.Mathlib.Decide.{dec_lt}
use Rattle.surface.specs.Surface.{Surface, prev, Tri}
use Rattle.surface.specs.Ring.{Turn, Ring}
use Rattle.surface.specs.Euler.{count}
use Rattle.surface.specs.Closed.{Closed}
use Rattle.surface.proofs.Tris.{renumber}
use Rattle.surface.proofs.Counting.{distinct_count, count_all}
use Rattle.mesh.specs.Model.{held}
use Rattle.mesh.specs.declared.halfedges.HalfEdges.{HalfEdges}
use Rattle.surface.proofs.Found.{closed_found}
use Rattle.mesh.proofs.Reading.{alive_read, present_read, set_within, twin_turns}
use Rattle.mesh.proofs.Laps.{Turns, turn_one, Lap, lap_of, Walking, walk_start, walk_on, walk_end}

pub closed_held : (e : HalfEdges) → Closed (held e)
closed_held e = closed_found (held e) e.closed

-- a half-edge of a live triangle stands within the lists
pub live_within : (e : HalfEdges) (h : ℕ) → (held e).alive (h / 3) ≡ true → h < length (vec_items e.twin)
live_within e h l =
    let p = set_within (vec_items e.triangles) (h / 3) (sym (alive_read (vec_items e.corners) (vec_items e.triangles) (vec_items e.vertices) (h / 3)) ∙ l) in
    omega (arith, e.threes, e.twin_long, e.twin.ok, e.triangles.ok)

-- a corner of a live triangle stands within them too
pub corner_within : (e : HalfEdges) {h a b c : ℕ} → Tri (held e) h a b c → a < vec_len e.vertices
corner_within e {a = a} t =
    let k = (closed_held e).known _ _ _ _ t in
    let p = set_within (vec_items e.vertices) a (sym (present_read (vec_items e.corners) (vec_items e.triangles) (vec_items e.vertices) a) ∙ k) in
    omega (arith, e.vertices.ok)

-- one step round
abbrev pub on : HalfEdges → ℕ → ℕ
on e h = get_or (vec_items e.twin) (prev h) 0

pub turns : (e : HalfEdges) → Turns (held e) (on e)
turns e = twin_turns (held e) (vec_items e.twin) e.twins

-- r is the half-edge that follows h
abbrev pub Follows : HalfEdges → ℕ → ℕ → Type 0
Follows e h r = (held e).alive (h / 3) ≡ true → Turn (held e) ((held e).corner h) h r

abbrev pub Going : HalfEdges → ℕ → ℕ → ℕ → (ℕ → Type 0) → Type 0
Going e v o h P = Walking (held e) (on e) v o h P

-- each entry of a ring is a half-edge at its vertex
pub ring_tri : {S : Surface} {v : ℕ} {l : List ℕ} → Ring S v l → (i : ℕ) → i < length l → (a : ℕ) × (b : ℕ) × Tri S (get_or l i 0) v a b
ring_tri {S} {v} {l} G i p = go (dec_lt (suc i) (length l))
  where
    go : Dec (suc i < length l) → (a : ℕ) × (b : ℕ) × Tri S (get_or l i 0) v a b
    go (yes q) = let (a, b, c, s, t) = G.turns i q in (a, b, s)
    go (no q) =
        let (a, b, c, s, t) = G.closing in
        let k : length l - 1 ≡ i = omega arith in
        (a, b, renumber (ap (λ n. get_or l n 0) k) s)

module _ (e : HalfEdges) where
  -- a ring stands within the lists
  pub ring_few : {v : ℕ} {l : List ℕ} → Ring (held e) v l → length l ≤ length (vec_items e.twin)
  ring_few {l = l} G =
      let F = length (vec_items e.twin) in
      let b : length l ≤ count (λ _. true) F =
      distinct_count (λ _. true) F l (λ i p. let (x, y, s) = ring_tri G i p in live_within e (get_or l i 0) s.lives) (λ i p. refl) G.distinct in
      omega (arith, count_all F)

  lap : {v o a b : ℕ} → Tri (held e) o v a b → (n : ℕ) × (n ≤ length (vec_items e.twin)) × Lap (held e) (on e) v o n
  lap {v} t =
      let R = closed_held e in
      let (l, G) = R.ring v (R.known _ _ _ _ t) in
      (length l, ring_few G, lap_of R (turns e) G t)

  -- what a turn comes to
  pub turned : {v h r a b : ℕ} → Tri (held e) h v a b → Follows e h r → on e h ≡ r
  turned {h = h} t s = turn_one (closed_held e) (turns e h t.lives) (s t.lives)

  module _ {v o : ℕ} {P : ℕ → Type 0} where
    pub begin : {a b : ℕ} → Tri (held e) o v a b → Going e v o o P
    begin t = walk_start t

    pub onward : {h r : ℕ} → Going e v o h P → P h → Follows e h r → r ≢ o → Going e v o r P
    onward {h} {r} W p s n =
        let q : on e h ≡ r = turned W.live.2 s in
        subst (λ x. Going e v o x P) q (walk_on (turns e) W p (λ i. n (sym q ∙ i)))

    pub around_all : {h r a b : ℕ} → Tri (held e) o v a b → Going e v o h P → P h → Follows e h r → r ≡ o → (g x y : ℕ) → Tri (held e) g v x y → P g
    around_all {h} {r} t W p s i =
        let q : on e h ≡ r = turned W.live.2 s in
        walk_end (lap t).2 W p (q ∙ i)
