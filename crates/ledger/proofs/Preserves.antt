-- Calls keep a book sensible, and a sensible book has a closed surface with the Euler number and the pieces of the opened one.
use Rattle.std.proofs.Common.{◌≡◌, ℕ, zero, suc, ◌+◌, ◌-◌, ◌<◌, ◌≤◌, ◌↔◌, List, length, refl, ◌∙◌, arith}
use Rattle.surface.specs.Surface.{Within}
use Rattle.surface.specs.Closed.{Closed}
use Rattle.surface.specs.Euler.{euler}
use Rattle.surface.specs.Pieces.{Pieces}
use Rattle.surface.specs.Permitted.{Permitted}
use Rattle.surface.proofs.Found.{permitted_found}
use Rattle.surface.proofs.Thinned.{euler_kept}
use Rattle.surface.proofs.PiecesKept.{pieces_kept}
use Rattle.mesh.specs.Stages.{stage, record_at}
use Rattle.mesh.proofs.Along.{stage_closed, stage_within}
use Rattle.mesh.proofs.Moving.{cut_long, cut_permitted}
use Rattle.order.specs.declared.Ordered.{Ghosts as Order}
use Rattle.gauge.specs.declared.Gauge.{Ghosts}
use Rattle.ledger.specs.Book.{Book, surface_at, Sensible, PermittedNow}
use Rattle.ledger.specs.Ledger.{noted, placed_at, Entry, collapses, no_side, not_closed, folds, steps, none_permitted, splits, nothing_done, redoes, nothing_ahead, goes, beyond_log, Kept, none, next}
use Rattle.ledger.specs.Standing.{SameOpening, Standing}
use Rattle.ledger.specs.Laws.{Preserved, Stands}
use Rattle.ledger.specs.declared.call.Call.{Call}
use Rattle.ledger.specs.declared.call.Answer.{Answer}

module _ (b : Book) (K : Sensible b) where
  -- the surfaces along the log are closed and keep to the opened bounds
  pub closed_at : (k : ℕ) → k ≤ length b.log → Closed (surface_at b k)
  closed_at k l = stage_closed b.opened b.log b.points ∣ K.closed ∣₁ K.permitted k l

  pub within_at : (k : ℕ) → Within (surface_at b k) b.triangles b.vertices
  within_at k = stage_within b.opened b.log b.triangles b.vertices k K.within

  permitted_at : (k : ℕ) → k < length b.log → Permitted (surface_at b k) b.points (record_at b.log k).u (record_at b.log k).w
  permitted_at k l = permitted_found (surface_at b k) (closed_at k (omega arith)) b.points (record_at b.log k).u (record_at b.log k).w (K.permitted k l)

  pub euler_at : (k : ℕ) → k ≤ length b.log → euler (surface_at b k) b.triangles b.vertices ≡ euler b.opened b.triangles b.vertices
  unfolding stage
  euler_at zero l = refl
  euler_at (suc k) l =
      let p = permitted_at k (omega arith) in
      (euler_kept (surface_at b k) (closed_at k (omega arith)) b.triangles b.vertices (within_at k) (record_at b.log k).u (record_at b.log k).w p.side p.closed).euler_kept
      ∙ euler_at k (omega arith)

  pub pieces_at : (k : ℕ) → k ≤ length b.log → (n : ℕ) → Pieces b.opened n ↔ Pieces (surface_at b k) n
  unfolding stage
  pieces_at zero l n = (λ x. x, λ x. x)
  pieces_at (suc k) l n =
      let p = permitted_at k (omega arith) in
      let r = pieces_at k (omega arith) n in
      let q = pieces_kept (surface_at b k) (closed_at k (omega arith)) (record_at b.log k).u (record_at b.log k).w p.side p.closed n in
      (λ x. q.0 (r.0 x), λ x. r.1 (q.1 x))

  pub standing : Standing b
  standing =
      record {
        closed = closed_at b.position K.placed;
        euler_kept = euler_at b.position K.placed;
        pieces_kept = pieces_at b.position K.placed;
      }

  pub noted_sensible : (u w : ℕ) → PermittedNow b u w → Sensible (noted b u w)
  noted_sensible u w p =
      record {
        closed = K.closed;
        within = K.within;
        placed = let l = cut_long b.log b.position (record { u = u; w = w }) K.placed in omega arith;
        permitted = cut_permitted b.log b.position (record { u = u; w = w }) K.placed b.opened b.points K.permitted ∣ p ∣₁;
      }

  pub placed_sensible : (k : ℕ) → k ≤ length b.log → Sensible (placed_at b k)
  placed_sensible k l = record { closed = K.closed; within = K.within; placed = l; permitted = K.permitted }

pub same_opening : (b : Book) → SameOpening b b
same_opening b = record { opened_same = refl; points_same = refl; triangles_same = refl; vertices_same = refl }

pub same_noted : (b : Book) (u w : ℕ) → SameOpening b (noted b u w)
same_noted b u w = record { opened_same = refl; points_same = refl; triangles_same = refl; vertices_same = refl }

pub same_placed : (b : Book) (k : ℕ) → SameOpening b (placed_at b k)
same_placed b k = record { opened_same = refl; points_same = refl; triangles_same = refl; vertices_same = refl }

pub same_then : (b d f : Book) → SameOpening b d → SameOpening d f → SameOpening b f
same_then b d f x y =
    record {
      opened_same = y.opened_same ∙ x.opened_same;
      points_same = y.points_same ∙ x.points_same;
      triangles_same = y.triangles_same ∙ x.triangles_same;
      vertices_same = y.vertices_same ∙ x.vertices_same;
    }

module _ {G C E S : Type 0} (m : Ghosts G C E S) (o : Order C) (s : S) where
  pub entry_preserves : {b d : Book} {c : Call} {r : Answer C} → Sensible b → Entry m o s b c r d → Sensible d × SameOpening b d
  entry_preserves K (collapses {b = b} {u = u} {w = w} p) = (noted_sensible b K u w p, same_noted b u w)
  entry_preserves K (no_side {b = b} p) = (K, same_opening b)
  entry_preserves K (not_closed {b = b} p q) = (K, same_opening b)
  entry_preserves K (folds {b = b} p q n) = (K, same_opening b)
  entry_preserves K (steps {b = b} {u = u} {w = w} f) = (noted_sensible b K u w f.permitted, same_noted b u w)
  entry_preserves K (none_permitted {b = b} n) = (K, same_opening b)
  entry_preserves K (splits {b = b} l) = (placed_sensible b K (b.position - 1) (let p = K.placed in omega arith), same_placed b (b.position - 1))
  entry_preserves K (nothing_done {b = b} i) = (K, same_opening b)
  entry_preserves K (redoes {b = b} l) = (placed_sensible b K (b.position + 1) (omega arith), same_placed b (b.position + 1))
  entry_preserves K (nothing_ahead {b = b} l) = (K, same_opening b)
  entry_preserves K (goes {b = b} {k = k} l n) = (placed_sensible b K k l, same_placed b k)
  entry_preserves K (beyond_log {b = b} l) = (K, same_opening b)

  pub kept_preserves : {b d : Book} {cs : List Call} {rs : List (Answer C)} → Sensible b → Kept m o s b cs rs d → Sensible d × SameOpening b d
  kept_preserves K (none {b = b}) = (K, same_opening b)
  kept_preserves K (next {a = a} {b = b} {z = z} e k) =
      let (L, x) = entry_preserves K e in
      let (N, y) = kept_preserves L k in
      (N, same_then a b z x y)

pub preserved : {G C E S : Type 0} (m : Ghosts G C E S) (o : Order C) → Preserved m o
preserved m o s b d c r K e = entry_preserves m o s K e

pub stands : {G C E S : Type 0} (m : Ghosts G C E S) (o : Order C) → Stands m o
stands m o s b d calls answers K k = let (L, x) = kept_preserves m o s K k in (L, x, standing d L)
