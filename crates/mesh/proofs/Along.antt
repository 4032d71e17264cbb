-- The surfaces along a log.
use Rattle.std.proofs.Common.{◌≡◌, ℕ, zero, suc, ◌+◌, ◌/◌, ◌<◌, ◌≤◌, true, false, not, ◌&&◌, ltb, ◌⊎◌, List, length, replicate, refl, ◌∙◌, inl, inr, arith}
use native.Mathlib.Decide.{ℕ_discrete}
use Rattle.std.proofs.lemmas.List.{get_or-replicate, length-replicate}
use Rattle.std.proofs.lemmas.Bool.{cases_Bool, both_ways, and_parts, and_from, ltb-true, lt-ltb, not-true, not_from_false}
use Rattle.surface.specs.Surface.{Surface, Within}
use Rattle.surface.specs.Closed.{Closed}
use Rattle.surface.specs.Euler.{vertices}
use Rattle.surface.specs.Geometry.{Vector}
use Rattle.surface.specs.Read.{read, whole}
use Rattle.surface.proofs.Collapse.{alive_parts, present_parts}
use Rattle.surface.proofs.Counting.{count_same, count_all, count_but}
use Rattle.surface.proofs.Flags.{flag_false}
use Rattle.surface.proofs.Found.{closed_found, permitted_found}
use Rattle.surface.proofs.Thinned.{euler_kept}
use Rattle.mesh.specs.Kept.{died}
use Rattle.mesh.specs.Stages.{record_at, stage, AllPermitted}
use Rattle.mesh.specs.declared.record.Record.{Record}
use Rattle.mesh.proofs.Puts.{true_low}

-- a stage rests on the records before it alone
pub stage_same : (S : Surface) (log log' : List Record) (k : ℕ) → ((i : ℕ) → i < k → record_at log i ≡ record_at log' i) → stage S log k ≡ stage S log' k
unfolding stage
stage_same S log log' zero p = refl
stage_same S log log' (suc k) p =
    let q : stage S log k ≡ stage S log' k = stage_same S log log' k (λ i l. p i (omega arith)) in
    let r : record_at log k ≡ record_at log' k = p k (omega arith) in
    rw (q, r)

module _ (S : Surface) (log : List Record) where
  -- what lives later lived before
  alive_before : (k t : ℕ) → (stage S log (suc k)).alive t ≡ true → (stage S log k).alive t ≡ true
  unfolding stage
  alive_before k t l = (alive_parts (stage S log k) (record_at log k).u (record_at log k).w t l).0

  present_before : (k v : ℕ) → (stage S log (suc k)).present v ≡ true → (stage S log k).present v ≡ true
  unfolding stage
  present_before k v l = (present_parts (stage S log k) (record_at log k).u (record_at log k).w v l).0

  pub alive_down : (j k t : ℕ) → j ≤ k → (stage S log k).alive t ≡ true → (stage S log j).alive t ≡ true
  alive_down j zero t p l = let z : j ≡ 0 = omega arith in rw z l
  alive_down j (suc k) t p l = go (ℕ_discrete j (suc k)) (λ q. alive_down j k t q (alive_before k t l))
    where
      go : Dec (j ≡ suc k) → (j ≤ k → (stage S log j).alive t ≡ true) → (stage S log j).alive t ≡ true
      go (yes i) f = rw i l
      go (no i) f = f (omega arith)

  pub present_down : (j k v : ℕ) → j ≤ k → (stage S log k).present v ≡ true → (stage S log j).present v ≡ true
  present_down j zero v p l = let z : j ≡ 0 = omega arith in rw z l
  present_down j (suc k) v p l = go (ℕ_discrete j (suc k)) (λ q. present_down j k v q (present_before k v l))
    where
      go : Dec (j ≡ suc k) → (j ≤ k → (stage S log j).present v ≡ true) → (stage S log j).present v ≡ true
      go (yes i) f = rw i l
      go (no i) f = f (omega arith)

  -- what died stays dead
  pub alive_after : (j k t : ℕ) → j ≤ k → (stage S log j).alive t ≡ false → (stage S log k).alive t ≡ false
  alive_after j k t p n = flag_false _ (λ l. both_ways _ n (alive_down j k t p l))

  pub present_after : (j k v : ℕ) → j ≤ k → (stage S log j).present v ≡ false → (stage S log k).present v ≡ false
  present_after j k v p n = flag_false _ (λ l. both_ways _ n (present_down j k v p l))

  -- the vertex of a record that is done is dead
  pub gone : (k : ℕ) → (stage S log (suc k)).present (record_at log k).u ≡ false
  unfolding stage
  gone k = flag_false _ (λ l. (present_parts (stage S log k) (record_at log k).u (record_at log k).w (record_at log k).u l).1 refl)

  pub stage_within : (T V k : ℕ) → Within S T V → Within (stage S log k) T V
  unfolding stage
  stage_within T V k W =
      record { triangles = λ t l. W.triangles t (alive_down 0 k t (omega arith) l); vertices = λ v l. W.vertices v (present_down 0 k v (omega arith) l) }

  -- the parts of `died`
  pub died_parts : (p k t : ℕ) → died S log p k t ≡ true → (k < p) × ((stage S log k).alive t ≡ true) × ((stage S log (suc k)).alive t ≡ false)
  unfolding died
  died_parts p k t d =
      let (i, q) = and_parts (ltb k p) ((stage S log k).alive t && not ((stage S log (suc k)).alive t)) d in
      let (l, m) = and_parts ((stage S log k).alive t) (not ((stage S log (suc k)).alive t)) q in
      (ltb-true k p i, l, not-true _ m)

  pub died_from : (p k t : ℕ) → k < p → (stage S log k).alive t ≡ true → (stage S log (suc k)).alive t ≡ false → died S log p k t ≡ true
  unfolding died
  died_from p k t i l m =
      and_from (ltb k p) ((stage S log k).alive t && not ((stage S log (suc k)).alive t)) (lt-ltb k p i)
      (and_from ((stage S log k).alive t) (not ((stage S log (suc k)).alive t)) l (not_from_false _ m))

  -- what was live at first is live still, or died on the way
  pub fate_along : (t : ℕ) → S.alive t ≡ true → (p : ℕ) →
      ((stage S log p).alive t ≡ true) ⊎ ((k : ℕ) × (k < p) × ((stage S log k).alive t ≡ true) × ((stage S log (suc k)).alive t ≡ false))
  unfolding stage
  fate_along t l zero = inl l
  fate_along t l (suc p) = go (cases_Bool ((stage S log (suc p)).alive t)) (fate_along t l p)
    where
      go : ((stage S log (suc p)).alive t ≡ true) ⊎ ((stage S log (suc p)).alive t ≡ false) →
          ((stage S log p).alive t ≡ true) ⊎ ((k : ℕ) × (k < p) × ((stage S log k).alive t ≡ true) × ((stage S log (suc k)).alive t ≡ false)) →
          ((stage S log (suc p)).alive t ≡ true) ⊎ ((k : ℕ) × (k < suc p) × ((stage S log k).alive t ≡ true) × ((stage S log (suc k)).alive t ≡ false))
      go (inl i) _ = inl i
      go (inr i) (inl j) = inr (p, omega arith, j, i)
      go (inr i) (inr (k, j, m, n)) = inr (k, omega arith, m, n)

  module _ (P : ℕ → Vector) (C : ∥ Closed S ∥₁) (A : AllPermitted S P log) where
    pub stage_closed : (k : ℕ) → k ≤ length log → Closed (stage S log k)
    unfolding stage
    stage_closed zero p = closed_found S C
    stage_closed (suc k) p =
        (permitted_found (stage S log k) (stage_closed k (omega arith)) P (record_at log k).u (record_at log k).w (A k (omega arith))).closed

    -- each record takes one vertex
    pub counted : (T V : ℕ) → Within S T V → (k : ℕ) → k ≤ length log → vertices (stage S log k) V + k ≡ vertices S V
    unfolding stage
    counted T V W zero p = omega arith
    counted T V W (suc k) p =
        let K : Closed (stage S log k) = stage_closed k (omega arith) in
        let Q = permitted_found (stage S log k) K P (record_at log k).u (record_at log k).w (A k (omega arith)) in
        let e = (euler_kept (stage S log k) K T V (stage_within T V k W) (record_at log k).u (record_at log k).w Q.side Q.closed).vertices_taken in
        let r = counted T V W k (omega arith) in
        omega arith

-- the whole surface of the corners
pub whole_within : (corners : List ℕ) (n : ℕ) → Within (whole corners n) (length corners / 3) n
unfolding read
whole_within corners n =
    record {
      triangles = λ t l. let p = true_low (replicate (length corners / 3) true) t l in let q = length-replicate (length corners / 3) true in omega arith;
      vertices = λ v l. let p = true_low (replicate n true) v l in let q = length-replicate n true in omega arith;
    }

pub whole_alive : (corners : List ℕ) (n t : ℕ) → t < length corners / 3 → (whole corners n).alive t ≡ true
unfolding read
whole_alive corners n t l = get_or-replicate (length corners / 3) t true false l

pub whole_count : (corners : List ℕ) (n : ℕ) → vertices (whole corners n) n ≡ n
unfolding read
whole_count corners n = count_same _ (λ _. true) n (λ v l. get_or-replicate n v true false l) ∙ count_all n

-- fewer records are done than there are vertices, while a vertex is live
pub room : (corners : List ℕ) (n : ℕ) (log : List Record) (P : ℕ → Vector) → ∥ Closed (whole corners n) ∥₁ → AllPermitted (whole corners n) P log →
    (k v : ℕ) → k ≤ length log → (stage (whole corners n) log k).present v ≡ true → k < n
room corners n log P C A k v p l =
    let W : Within (whole corners n) (length corners / 3) n = whole_within corners n in
    let low : v < n = (stage_within (whole corners n) log (length corners / 3) n k W).vertices v l in
    let some = count_but (stage (whole corners n) log k).present v n l low in
    let all = counted (whole corners n) log P C A (length corners / 3) n W k p in
    let whole-n = whole_count corners n in
    omega arith
