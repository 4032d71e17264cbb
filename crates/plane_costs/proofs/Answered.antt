-- Each cost that calls on a sensible book answer is exact.
use Rattle.std.proofs.Common.{Ok, ◌≡◌, ℕ, zero, suc, List, length, sym, refl, subst, arith}
use Rattle.surface.specs.Geometry.{Vector}
use Rattle.gathering.specs.Model.{positions, corners}
use Rattle.gathering.specs.declared.gathering.Gathering.{Gathering}
use Rattle.judging.specs.Verdict.{Judged}
use Rattle.judging.specs.declared.verdict.Counts.{Counts}
use Rattle.mesh.proofs.Along.{whole_within}
use Rattle.planes.specs.Meaning.{by_planes, whole_order}
use Rattle.planes.specs.Exact.{Bytes}
use Rattle.planes.proofs.Exact.{exact_sum}
use Rattle.planes.proofs.OnMesh.{stays, two_ends, orderly}
use Rattle.ledger.specs.Book.{Book, Sensible, PermittedNow, cost_now}
use Rattle.ledger.specs.Ledger.{Entry, collapses, no_side, not_closed, folds, steps, none_permitted, splits, nothing_done, redoes, nothing_ahead, goes, beyond_log, Kept, none, next}
use Rattle.ledger.specs.declared.call.Call.{Call}
use Rattle.ledger.specs.declared.call.Call.TheVariants.{Collapse}
use Rattle.ledger.specs.declared.call.Answer.{Answer}
use Rattle.ledger.proofs.Preserves.{entry_preserves, kept_preserves}
use Rattle.opened_surface.specs.Openings.{first_book}
use Rattle.plane_costs.specs.Answered.{ExactAnswer, AllExact}
use Rattle.plane_costs.specs.ExactCost.{ExactCost}
use Rattle.plane_costs.proofs.Exactness.{exact_by}

abbrev InBytes : (ℕ → Vector) → Type 0
InBytes P = (v : ℕ) → Bytes (P v)

-- what a permitted collapse costs by the ledger is exact
book_exact : (b : Book) → Sensible b → InBytes b.points → (u w k : ℕ) → PermittedNow b u w → k ≡ cost_now by_planes tt b u w → ExactCost b u w k
book_exact b K B u w k p i =
    let S = b.opened in
    let L = b.log in
    let P = b.points in
    let C = ∣ K.closed ∣₁ in
    let A = K.permitted in
    let T = b.triangles in
    let n = b.vertices in
    let at = b.position in
    let (t, x, y) = two_ends S L P C A T n K.within at u w K.placed p.side in
    exact_by b u w k i
    (exact_sum S P B n L at (orderly S L P C A T n K.within at K.placed) u w t (stays S L P C A T n K.within at u x) (stays S L P C A T n K.within at w y))

-- the two that a call asked for
asked : (b : Book) (u w x y : ℕ) → Collapse u w ≡ Collapse x y → (k : ℕ) → ExactCost b u w k → ExactCost b x y k
asked b u w x y i k E =
    let p : u ≡ x = cc in
    let q : w ≡ y = cc in
    subst (λ v. ExactCost b v y k) p (subst (λ v. ExactCost b u v k) q E)

answer_exact : {b d : Book} {c : Call} {r : Answer ℕ} → Sensible b → InBytes b.points → Entry by_planes whole_order tt b c r d → ExactAnswer b c r
answer_exact K B (collapses {b = b} {u = u} {w = w} p) = λ x y i. asked b u w x y i _ (book_exact b K B u w _ p refl)
answer_exact K B (no_side p) = tt
answer_exact K B (not_closed p q) = tt
answer_exact K B (folds p q n) = tt
answer_exact K B (steps {b = b} {u = u} {w = w} f) = book_exact b K B u w _ f.permitted refl
answer_exact K B (none_permitted n) = tt
answer_exact K B (splits l) = tt
answer_exact K B (nothing_done i) = tt
answer_exact K B (redoes l) = tt
answer_exact K B (nothing_ahead l) = tt
answer_exact K B (goes l n) = tt
answer_exact K B (beyond_log l) = tt

pub all_exact : {b d : Book} {cs : List Call} {rs : List (Answer ℕ)} → Sensible b → InBytes b.points → Kept by_planes whole_order tt b cs rs d → AllExact b cs rs
all_exact K B none i l = absurd (omega arith)
all_exact K B (next {a = a} e k) zero l = record { stood = a; before = none; exact = answer_exact K B e }
all_exact K B (next e k) (suc i) l =
    let (J, same) = entry_preserves by_planes whole_order tt K e in
    let x = all_exact J (subst InBytes (sym same.points_same) B) k i (omega arith) in
    record { stood = x.stood; before = next e x.before; exact = x.exact }

-- the first book of an accepted gathering
first_sensible : (g : Gathering) (n : Counts) → Judged (positions g) (corners g) (Ok n) → Sensible (first_book (positions g) (corners g))
first_sensible g n J =
    record {
      closed = J.0;
      within = whole_within (corners g) (length (positions g));
      placed = omega arith;
      permitted = λ k l. absurd (omega arith);
    }

-- points in bytes at the end of the calls were in bytes from the first
pub gathered_exact : (g : Gathering) (n : Counts) → Judged (positions g) (corners g) (Ok n) → {d : Book} {cs : List Call} {rs : List (Answer ℕ)} → InBytes d.points →
    Kept by_planes whole_order tt (first_book (positions g) (corners g)) cs rs d → AllExact (first_book (positions g) (corners g)) cs rs
gathered_exact g n J B k =
    let K = first_sensible g n J in
    all_exact K (subst InBytes (kept_preserves by_planes whole_order tt K k).1.points_same B) k
