-- A cost by the ledger on the gauge by planes is the exact sum.
use Rattle.std.proofs.Common.{◌≡◌, ℕ, zero, suc, ◌^◌, ◌<◌, List, [], ◌∷◌, get_or, IfSome, IfOk, Some, None, Ok, Err, Option, Result, sym, refl, ap, ◌∙◌, subst, MatchOption}
use Rattle.surface.specs.Surface.{Surface, Side}
use Rattle.mesh.specs.Model.{surface, points}
use Rattle.mesh.specs.Stages.{record_at}
use Rattle.mesh.specs.declared.mesh.Mesh.{Mesh}
use Rattle.mesh.specs.declared.mesh.permits.CollapseRefusal.{CollapseRefusal}
use Rattle.mesh.proofs.Meshes.{now_is}
use Rattle.order.specs.declared.Ordered.{Ghosts as Order}
use Rattle.queue.specs.declared.keys.Key.{Key}
use Rattle.gauge.specs.Accounts.{changed}
use Rattle.gauge.specs.declared.Gauge.{Ghosts}
use Rattle.planes.specs.Meaning.{by_planes, whole_order}
use Rattle.planes.specs.declared.quadric.Quadric.{Quadric}
use Rattle.planes.specs.Quadrics as quadrics
use Rattle.planes.specs.Quadrics.{plus}
use Rattle.planes.specs.Accounts.{opening, price}
use Rattle.planes.specs.Exact.{merged, squares, Bytes}
use Rattle.planes.proofs.OnMesh.{exact_on_mesh}
use Rattle.ledger.specs.Book.{Book, account_at, cost_now, PermittedNow}
use Rattle.ledger.specs.Ledger.{Kept, none, next, collapses}
use Rattle.ledger.specs.Stepped.{StepRight}
use Rattle.ledger.specs.declared.call.Call.TheVariants.{Collapse}
use Rattle.ledger.specs.declared.call.Answer.TheVariants.{Collapsed}
use Rattle.opened_surface.specs.Calls.{collapse_answer, step_answer}
use Rattle.opened_surface.specs.Tied.{book_of}
use Rattle.plane_costs.specs.ExactCost.{stands_in, ExactCost, CostNow}

-- the ledger's account is the opening account with the records merged
account_is : (b : Book) (k : ℕ) → account_at by_planes tt b k ≡ merged (opening b.opened b.points b.vertices) b.log k
unfolding account_at merged
account_is b zero = refl
account_is b (suc k) = ap (changed (λ x y. plus y x) quadrics.zero (record_at b.log k).u (record_at b.log k).w) (account_is b k)

-- the answer to a collapse that was done
collapse_cost : {G C E S : Type 0} (m : Ghosts G C E S) (o : Order C) (s : S) {b d : Book} {u w : ℕ} {k : C} → Kept m o s b (Collapse u w ∷ []) (Collapsed k ∷ []) d →
    PermittedNow b u w × (k ≡ cost_now m s b u w)
collapse_cost m o s (next (collapses p) none) = (p, refl)

-- a price that is an exact sum makes the cost exact
pub exact_by : (b : Book) (u w k : ℕ) → k ≡ cost_now by_planes tt b u w →
    (price (get_or (merged (opening b.opened b.points b.vertices) b.log b.position) u quadrics.zero) (get_or (merged (opening b.opened b.points b.vertices) b.log b.position) w quadrics.zero) (b.points w)
    ≡ squares b.opened b.points (stands_in b u w) (b.points w))
    × (squares b.opened b.points (stands_in b u w) (b.points w) < 2 ^ 64) → ExactCost b u w k
exact_by b u w k i (e, l) =
    let j = i ∙ ap (λ (x : List Quadric). price (get_or x u quadrics.zero) (get_or x w quadrics.zero) (b.points w)) (account_is b b.position) ∙ e in
    record { sum_is = j; below = subst (λ n. n < 2 ^ 64) (sym j) l }

module _ (m : Mesh) (bytes : (v : ℕ) → Bytes (points m v)) (u w : ℕ) where
  pub exact_now : (k : ℕ) → Side (surface m) u w → k ≡ cost_now by_planes tt (book_of m) u w → ExactCost (book_of m) u w k
  exact_now k s i = exact_by (book_of m) u w k i (exact_on_mesh m bytes u w s)

  pub exact_if : (r : Option ℕ) → MatchOption r (Side (surface m) u w → ⊥) (λ k. Side (surface m) u w × (k ≡ cost_now by_planes tt (book_of m) u w)) → CostNow m u w r
  exact_if None n = n
  exact_if (Some k) (s, i) = (s, exact_now k s i)

  permitted_exact : (k : ℕ) → PermittedNow (book_of m) u w → k ≡ cost_now by_planes tt (book_of m) u w → ExactCost (book_of m) u w k
  permitted_exact k p i = exact_now k (subst (λ (N : Surface). Side N u w) (sym (now_is m)) p.side) i

  pub exact_collapse : {d : Book} (r : Result ℕ CollapseRefusal) → Kept by_planes whole_order tt (book_of m) (Collapse u w ∷ []) (collapse_answer r ∷ []) d →
      IfOk r (λ k. ExactCost (book_of m) u w k)
  exact_collapse (Ok k) K = let (p, i) = collapse_cost by_planes whole_order tt K in permitted_exact k p i
  exact_collapse (Err e) K = tt

pub exact_step : (m : Mesh) → ((v : ℕ) → Bytes (points m v)) → (r : Option (Key ℕ)) → StepRight by_planes whole_order tt (book_of m) (step_answer r) →
    IfSome r (λ k. ExactCost (book_of m) k.u k.w k.cost)
exact_step m bytes None R = tt
exact_step m bytes (Some k) (f, i) = permitted_exact m bytes k.u k.w k.cost f.permitted i
