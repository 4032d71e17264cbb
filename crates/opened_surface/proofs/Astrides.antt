-- The two half-edges of a side.
use Rattle.std.proofs.Common.{◌≡◌, ℕ, ◌/◌, ◌<◌, true, List, length, get_or, Some, sym, ap, ◌∙◌, subst, arith}
use Rattle.std.proofs.lemmas.List.{get_or_default}
use Rattle.surface.specs.Surface.{Side}
use Rattle.mesh.specs.Held.{opposite}
use Rattle.mesh.specs.Model.{held, surface, log}
use Rattle.mesh.specs.Reads.{Leads}
use Rattle.mesh.specs.declared.halfedges.HalfEdges.{HalfEdges}
use Rattle.mesh.specs.Stages.{record_at}
use Rattle.mesh.specs.declared.record.Record.{Record}
use Rattle.mesh.specs.declared.mesh.Mesh.{Mesh}
use Rattle.mesh.proofs.Round.{live_within}
use Rattle.mesh.proofs.Twins.{opposite_tri}
use Rattle.opened_surface.specs.Tied.{Astride}
use Rattle.opened_surface.proofs.Books.{ahead_side}

-- x are the half-edges of the mesh
module _ (mesh : Mesh) (x : HalfEdges) (same : x ≡ mesh.edges) (u w e f : ℕ) (L : Leads (held x) u w (Some e)) (O : (held x).alive (e / 3) ≡ true → opposite (held x) e f ≡ true) where
  pub astride : Astride (surface mesh) u w e f
  astride = subst (λ y. Astride (held y) u w e f) same (record { there = L; back = opposite_tri (held x) L.1 (O L.1.lives) })

  low : (h : ℕ) → (held x).alive (h / 3) ≡ true → h < 6144
  low h l = let p = live_within x h l in let q = x.few in let r = x.twin_long in let s = x.twin.ok.0 in omega arith

  pub few : (e < 6144) × (f < 6144)
  few = (low e L.1.lives, low f (opposite_tri (held x) L.1 (O L.1.lives)).1.lives)

-- the record r at the position, as it was read from the log
module _ (mesh : Mesh) (l : List Record) (k : ℕ) (r : Record) (same : l ≡ log mesh) (at : k ≡ mesh.position) (low : k < length l) (is : r ≡ get_or l k r) where
  now_low : mesh.position < length (log mesh)
  now_low = let p = ap length same in omega arith

  read_is : r ≡ record_at (log mesh) mesh.position
  read_is = is ∙ get_or_default l k r (record { u = 0; w = 0 }) low ∙ ap (λ x. record_at x k) same ∙ ap (record_at (log mesh)) at

  -- there is a side
  pub no_side : (Side (surface mesh) r.u r.w → ⊥) → ⊥
  no_side n = n (subst (λ d. Side (surface mesh) d.u d.w) (sym read_is) (ahead_side mesh now_low))

  pub ahead : (e f : ℕ) → Astride (surface mesh) r.u r.w e f → (mesh.position < length (log mesh)) × (r ≡ record_at (log mesh) mesh.position) × Astride (surface mesh) r.u r.w e f
  ahead e f A = (now_low, read_is, A)
