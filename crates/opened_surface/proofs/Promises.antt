-- What follows the ledger keeps the promise.
use Rattle.std.proofs.Common.{ℕ, List, [], ◌∷◌, Ok, sym, ap, ◌∙◌, subst}
use Rattle.surface.specs.Surface.{Surface}
use Rattle.surface.specs.Geometry.{Vector}
use Rattle.judging.specs.Verdict.{JudgedSurface}
use Rattle.judging.specs.declared.verdict.Counts.{Counts}
use Rattle.mesh.specs.Laws.{Kin, triangle_slots, vertex_slots}
use Rattle.mesh.specs.Model.{surface, opening, points}
use Rattle.mesh.proofs.Kinship.{always_kin}
use Rattle.mesh.proofs.Meshes.{now_is}
use Rattle.order.specs.declared.Ordered.{Ghosts as Order}
use Rattle.gauge.specs.declared.Gauge.{Ghosts}
use Rattle.ledger.specs.Book.{Book, account_now}
use Rattle.ledger.specs.Laws.{StepInWords}
use Rattle.ledger.specs.Ledger.{none, next}
use Rattle.ledger.specs.Standing.{SameOpening}
use Rattle.ledger.specs.declared.call.Call.{Call}
use Rattle.ledger.specs.declared.call.Answer.{Answer}
use Rattle.ledger.proofs.Preserves.{kept_preserves}
use Rattle.ledger.proofs.Stepped.{steps_right}
use Rattle.opened_surface.specs.Parts.{gauge_of, mesh_of}
use Rattle.opened_surface.specs.Promise.{Promise, Ran, Called}
use Rattle.opened_surface.specs.Tied.{book_of, Follows, FollowsAll}
use Rattle.opened_surface.specs.declared.thinning.Thinning.{Thinning}
use Rattle.opened_surface.specs.declared.opened.Opened.{Opened}
use Rattle.opened_surface.proofs.Books.{sensible}
use Rattle.opened_surface.proofs.Consistents.{consistent}
use mathlib.Core.Logic.{∥∥₁_map}

-- what holds of an opened surface holds of the book of it, whichever of two books of one opening that is
same_opened : (Q : Surface → (ℕ → Vector) → ℕ → ℕ → Type 0) (b d : Book) → SameOpening b d → Q d.opened d.points d.triangles d.vertices → Q b.opened b.points b.triangles b.vertices
same_opened Q b d S q =
    subst (λ n. Q b.opened b.points b.triangles n) S.vertices_same
    (subst (λ n. Q b.opened b.points n d.vertices) S.triangles_same
    (subst (λ P. Q b.opened P d.triangles d.vertices) S.points_same
    (subst (λ X. Q X d.points d.triangles d.vertices) S.opened_same q)))

turned : (b d : Book) → SameOpening b d → SameOpening d b
turned b d S = record { opened_same = sym S.opened_same; points_same = sym S.points_same; triangles_same = sym S.triangles_same; vertices_same = sym S.vertices_same }

-- a call is a list of one
pub all_of : {G C E Z : Type 0} {m : Ghosts G C E Z} {o : Order C} {x y : Thinning G C E Z o} {c : Call} {r : Answer C} → Follows m o x c r y → FollowsAll m o x (c ∷ []) (r ∷ []) y
all_of F = record { kept = next F.entry none; fixed = F.fixed; tied = F.tied }

module _ {G C E Z : Type 0} (m : Ghosts G C E Z) (o : Order C) (words : StepInWords m o) (x y : Opened G C E Z m o) (calls : List Call) (answers : List (Answer C))
    (F : FollowsAll m o x.thinning calls answers y.thinning) where
  same : SameOpening (book_of (mesh_of x)) (book_of (mesh_of y))
  same = (kept_preserves m o (m.setting (gauge_of x)) (sensible (mesh_of x)) F.kept).1

  promise : Promise m o (m.setting (gauge_of x)) (book_of (mesh_of x)) calls answers y
  promise =
      record {
        standing = same_opened (λ S P T V. Kin S (surface (mesh_of y)) P T V) (book_of (mesh_of x)) (book_of (mesh_of y)) same (always_kin (mesh_of y));
        ledger = F.kept;
        surface_is = now_is (mesh_of y);
        account_is = F.tied.account ∙ ap (λ s. account_now m s (book_of (mesh_of y))) F.fixed;
        setting_same = F.fixed;
        steps = steps_right m o words (m.setting (gauge_of x)) F.kept;
      }

  pub ran : Ran m o x calls answers y
  ran = record { promise = promise; consistent = consistent y }

-- one call
pub called : {G C E Z : Type 0} (m : Ghosts G C E Z) (o : Order C) (words : StepInWords m o) (x y : Opened G C E Z m o) (c : Call) (r : Answer C) →
    Follows m o x.thinning c r y.thinning → Called m o x c r y
called m o words x y c r F = ran m o words x y (c ∷ []) (r ∷ []) (all_of F)

-- what was accepted as it was opened stays so along calls
pub judged_on : {G C E Z : Type 0} (m : Ghosts G C E Z) (o : Order C) (x y : Thinning G C E Z o) (n : Counts) {calls : List Call} {answers : List (Answer C)} → FollowsAll m o x calls answers y →
    ∥ JudgedSurface (opening x.mesh) (points x.mesh) (triangle_slots x.mesh) (vertex_slots x.mesh) (Ok n) ∥₁ → ∥ JudgedSurface (opening y.mesh) (points y.mesh) (triangle_slots y.mesh) (vertex_slots y.mesh) (Ok n) ∥₁
judged_on m o x y n F s =
    ∥∥₁_map s (λ J. same_opened (λ S P T V. JudgedSurface S P T V (Ok n)) (book_of y.mesh) (book_of x.mesh) (turned _ _ (kept_preserves m o (m.setting x.gauge) (sensible x.mesh) F.kept).1) J)
