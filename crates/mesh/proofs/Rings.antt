-- What a walk round a vertex gives, and what is left of it.
use Rattle.std.proofs.Common.{◌≡◌, ℕ, ◌/◌, ◌<◌, ◌≤◌, ◌≢◌, Bool, true, false, not, eqb, ◌&&◌, List, [], ◌∷◌, length, get_or, map, vec_len, Some, None, Option, unwrap_or, sym, refl, ap, ◌∙◌, subst, inl, inr, arith}
use Rattle.std.specs.Bool.{then_some, MatchBool}
use Rattle.std.specs.List.{AllWithin, HoldsAt, Contains}
use Rattle.std.specs.Option.{MatchOption}
use Rattle.std.proofs.lemmas.List.{map-id, get_or_default}
use Rattle.std.proofs.lemmas.Bool.{cases_Bool, and_parts, both_ways, eqb-true, eq-eqb}
use Rattle.surface.specs.Surface.{next, Tri}
use Rattle.surface.specs.Ring.{Ring}
use Rattle.surface.proofs.Tris.{tri_at, moved, renumber}
use Rattle.mesh.specs.Model.{held}
use Rattle.mesh.specs.Reads.{Outgoing, Leads, Exactly}
use Rattle.mesh.specs.Rings.{returning, left_from, before, returns_to, on}
use Rattle.mesh.specs.declared.halfedges.HalfEdges.{HalfEdges}
use Rattle.mesh.proofs.Round.{closed_held, Follows, turns, turned, ring_few, ring_tri}
use Rattle.mesh.proofs.Ways.{go_on, stop_here, returns, ring}

module _ (e : HalfEdges) where
  gives : (o h r : ℕ) (goes : Bool) → returning e o (Some h) ≡ true → Follows e h r → (goes ≡ true → r ≢ o) → (goes ≡ false → r ≡ o) →
      (returning e o (then_some goes r) ≡ true) × (left_from e o (Some h) ≡ h ∷ left_from e o (then_some goes r))
  gives o h r false p s n m =
      let q = and_parts ((held e).alive (h / 3)) _ p in
      let i = turned e (tri_at (held e) h q.0) s in
      (refl, stop_here (on e) o (vec_len e.twin) h q.1 (i ∙ m refl))
  gives o h r true p s n m =
      let q = and_parts ((held e).alive (h / 3)) _ p in
      let i = turned e (tri_at (held e) h q.0) s in
      let (x, y) = go_on (on e) o (vec_len e.twin) h q.1 (λ j. n refl (sym i ∙ j)) in
      let (a, b, c, t, u) = s q.0 in (
        ap (λ b. b && returns_to (on e) o (vec_len e.twin) r) u.lives ∙ subst (λ g. returns_to (on e) o (vec_len e.twin) g ≡ true) i x,
        subst (λ g. before (on e) o (vec_len e.twin) h ≡ h ∷ before (on e) o (vec_len e.twin) g) i y,
      )

  sets_out : (v : ℕ) (o : Option ℕ) → Outgoing (held e) v o →
      (returning e (unwrap_or o 0) o ≡ true)
      × ((held e).present v ≡ true → Ring (held e) v (left_from e (unwrap_or o 0) o))
      × ((held e).present v ≡ false → left_from e (unwrap_or o 0) o ≡ [])
  sets_out v None n = (refl, λ p. absurd (n p), λ p. refl)
  sets_out v (Some h) (a, b, t) =
      let R = closed_held e in
      let k = R.known _ _ _ _ t in
      let (l, G) = R.ring v k in
      let few : length l ≤ vec_len e.twin = omega (arith, ring_few e G, e.twin.ok.0) in (
        ap (λ b. b && returns_to (on e) h (vec_len e.twin) h) t.lives ∙ returns R (turns e) G t (vec_len e.twin) few,
        λ p. ring R (turns e) G t (vec_len e.twin) few,
        λ p. absurd (both_ways _ p k),
      )

  -- one half-edge is given, h, and r follows it
  pub given : (o : ℕ) (ahead after : Option ℕ) (h r : ℕ) → returning e o ahead ≡ true → ahead ≡ Some h → Follows e h r → after ≡ then_some (not (eqb r o)) r →
      (returning e o after ≡ true) × (left_from e o ahead ≡ h ∷ left_from e o after)
  given o ahead after h r p i s j =
      let q : returning e o (Some h) ≡ true = subst (λ x. returning e o x ≡ true) i p in
      let g = gives o h r (not (eqb r o)) q s (λ k l. both_ways _ (ap not (eq-eqb r o l)) k) (λ k. eqb-true r o (not_false (eqb r o) k)) in
      subst (λ x. (returning e o x ≡ true) × (left_from e o ahead ≡ h ∷ left_from e o x)) (sym j)
      (g.0, ap (left_from e o) i ∙ g.1)
    where
      not_false : (b : Bool) → not b ≡ false → b ≡ true
      not_false true k = refl
      not_false false k = sym k

  -- a walk sets out from the half-edge of the vertex v, if it has one
  pub set_out : (v first : ℕ) (o : Option ℕ) → first ≡ unwrap_or o 0 → Outgoing (held e) v o →
      (returning e first o ≡ true)
      × ((held e).present v ≡ true → Ring (held e) v (left_from e first o))
      × ((held e).present v ≡ false → left_from e first o ≡ [])
  set_out v first o i x =
      subst (λ n. (returning e n o ≡ true) × ((held e).present v ≡ true → Ring (held e) v (left_from e n o)) × ((held e).present v ≡ false → left_from e n o ≡ []))
      (sym i) (sets_out v o x)

  -- what a walk round v gives, all in all
  module _ {v : ℕ} {l : List ℕ} (round : (held e).present v ≡ true → Ring (held e) v l) (none : (held e).present v ≡ false → l ≡ []) where
    pub at_place : (k : ℕ) → k < length l → (a : ℕ) × (b : ℕ) × Tri (held e) (get_or l k 0) v a b
    at_place k p =
        elim (cases_Bool ((held e).present v)) [ inl i ↦ ring_tri (round i) k p | inr i ↦ (let q = ap length (none i) in absurd (omega arith)) ]

    pub place_of : (h a b : ℕ) → Tri (held e) h v a b → (k : ℕ) × (k < length l) × (get_or l k 0 ≡ h)
    place_of h a b t = (round ((closed_held e).known _ _ _ _ t)).full h a b t

    -- a walk that is over met each half-edge at v
    pub met_all : (got : List ℕ) → map (λ h. h) got ≡ l → (h a b : ℕ) → Tri (held e) h v a b → Contains got h
    met_all got i h a b t = let (k, q, j) = place_of h a b t in subst (λ x. Contains x h) (sym i ∙ map-id got) (k, q, get_or_default l k h 0 q ∙ j)

    -- the half-edge whose turn it is begins at v
    pub met_at : {h k : ℕ} → (k < length l) × (h ≡ get_or l k h) → (a : ℕ) × (b : ℕ) × Tri (held e) h v a b
    met_at {h} {k} (p, i) = let (a, b, t) = at_place k p in (a, b, renumber (get_or_default l k 0 h p ∙ sym i) t)

    -- what is answered of each half-edge
    pub all_round : (P : ℕ → Type 0) (r : Bool) → MatchBool r (AllWithin P l 0 (length l)) ((k : ℕ) × (k < length l) × HoldsAt (λ h. P h → ⊥) l k) →
        Exactly r ((h a b : ℕ) → Tri (held e) h v a b → P h)
    all_round P true f = λ h a b t. let (k, q, i) = place_of h a b t in subst P i (f k 0 (omega arith) q)
    all_round P false (k, q, n) = λ g. let (a, b, t) = at_place k q in n 0 (g _ a b t)

    -- the first half-edge that leads to w
    pub first_to : (w : ℕ) (r : Option ℕ) →
        MatchOption r (AllWithin (λ h. (held e).corner (next h) ≢ w) l 0 (length l))
        (λ h. ((held e).corner (next h) ≡ w) × (i : ℕ) × (i < length l) × HoldsAt (λ y. y ≡ h) l i × AllWithin (λ h. (held e).corner (next h) ≢ w) l 0 i) →
        Leads (held e) v w r
    first_to w None f = λ (h, x, t). let (k, q, i) = place_of h w x t in f k 0 (omega arith) q (ap (λ g. (held e).corner (next g)) i ∙ t.to)
    first_to w (Some h) (p, i, q, s, f) = let (a, b, t) = at_place i q in let k = renumber (s 0) t in (b, moved refl (sym k.to ∙ p) refl k)
