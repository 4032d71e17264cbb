-- The keys of a mesh before and after the collapse of u to w: a is the mesh before and b the one after, g and h are the gauge then.
use Rattle.std.proofs.Common.{Bool, ◌≡◌, ℕ, ◌*◌, ◌/◌, ◌≤◌, true, List, length, vec_items, vec_len, Option, sym, ◌∙◌, subst, arith}
use Rattle.surface.specs.Surface.{Surface, Tri, Side}
use Rattle.surface.specs.Closed.{Closed}
use Rattle.surface.specs.Collapse.{collapse}
use Rattle.surface.specs.Geometry.{Vector}
use Rattle.mesh.specs.Model.{held, surface, points}
use Rattle.mesh.specs.declared.halfedges.HalfEdges.{HalfEdges}
use Rattle.mesh.specs.declared.mesh.Mesh.{Mesh}
use Rattle.mesh.proofs.Reading.{alive_read, set_within}
use Rattle.mesh.proofs.Round.{closed_held}
use Rattle.queue.specs.declared.keys.Key.{Key}
use Rattle.gauge.specs.Near.{Placed}
use Rattle.gauge.specs.declared.Gauge.{Ghosts}
use Rattle.opened_surface.specs.Keys.{Mended}
use Rattle.opened_surface.specs.Marks.{Marks}
use Rattle.opened_surface.specs.Mending.{MendedNow}
use Rattle.opened_surface.specs.Stale.{Covered}
use Rattle.opened_surface.proofs.Cases.{KeyedOr}
use Rattle.opened_surface.proofs.Rights.{both}
use Rattle.opened_surface.proofs.StillRight.{Below, SameBut, keyed_after, keyed_before}

-- the live triangles of a mesh stand in its list
pub all_below : (e : HalfEdges) → Below (held e) (vec_len e.triangles)
all_below e t l =
    let p = set_within (vec_items e.triangles) t (sym (alive_read (vec_items e.corners) (vec_items e.triangles) (vec_items e.vertices) t) ∙ l) in
    let q = e.triangles.ok.0 in
    omega arith

module _ {G C E Z : Type 0} (m : Ghosts G C E Z)
    (blind : Bool) (unseen : blind ≡ true → (s : Z) (u w : ℕ) (x y : E) (p q : Vector) (n k : ℕ → Option Placed) → m.price s u w x y p q n ≡ m.price s u w x y p q k)
    (a b : Mesh) (g h : G) (u w : ℕ)
    (is : surface b ≡ collapse (surface a) u w) (placed : points b ≡ points a) (fixed : m.setting h ≡ m.setting g)
    (but : SameBut m.blank w (m.account g) (m.account h)) (strong weak : Marks) (cover : Covered blind (surface a) u w strong weak) (T : ℕ) (low : Below (surface a) T) where
  abbrev Keys : Type 0
  Keys = List (Option (Key C))

  after_closed : Closed (collapse (surface a) u w)
  after_closed = subst Closed is (closed_held b.edges)

  -- what holds of the collapse with the points and the setting of a holds of b
  at_b : (F : Surface → (ℕ → Vector) → Z → Type 0) → F (collapse (surface a) u w) (points a) (m.setting g) → F (surface b) (points b) (m.setting h)
  at_b F x = subst (λ N. F N (points b) (m.setting h)) (sym is) (subst (λ P. F (collapse (surface a) u w) P (m.setting h)) (sym placed) (subst (F (collapse (surface a) u w) (points a)) (sym fixed) x))

  module _ (one two three : Keys) (long : 3 * T ≤ length one) where
    abbrev Forward : ℕ → ℕ → Surface → (ℕ → Vector) → Z → Type 0
    Forward s t N P z =
        Mended m N P z (m.account h) (λ i. i / 3 ≡ s) one two → Mended m N P z (m.account h) (λ i. i / 3 ≡ t) two three →
        KeyedOr m N P z (m.account h) strong weak T three

    -- after the collapse of e, those of the two triangles that died are mended
    pub collapse_keyed : {e f c d : ℕ} → Tri (surface a) e u w c → Tri (surface a) f w u d → KeyedOr m (surface a) (points a) (m.setting g) (m.account g) strong weak T one →
        MendedNow m b h (λ i. i / 3 ≡ e / 3) one two → MendedNow m b h (λ i. i / 3 ≡ f / 3) two three → KeyedOr m (surface b) (points b) (m.setting h) (m.account h) strong weak T three
    collapse_keyed {e} {f} te tf K =
        at_b (Forward (e / 3) (f / 3))
        (λ x y.
        keyed_after m blind unseen (points a) (m.setting g) (closed_held a.edges) (e, _, te) after_closed (m.account g) (m.account h) but strong weak cover T low one long three te tf K
        (both m (collapse (surface a) u w) (points a) (m.setting g) (m.account h) x y))

  module _ (keys : Keys) (long : 3 * T ≤ length keys) where
    abbrev Back : Surface → (ℕ → Vector) → Z → Type 0
    Back N P z = KeyedOr m N P z (m.account h) strong weak T keys → KeyedOr m (surface a) (points a) (m.setting g) (m.account g) strong weak T keys

    -- after its undoing
    pub undo_keyed : Side (surface a) u w → KeyedOr m (surface b) (points b) (m.setting h) (m.account h) strong weak T keys → KeyedOr m (surface a) (points a) (m.setting g) (m.account g) strong weak T keys
    undo_keyed s = at_b Back (keyed_before m blind unseen (points a) (m.setting g) (closed_held a.edges) s after_closed (m.account g) (m.account h) but strong weak cover T low keys long)
