-- Vertices marked on a walk round a vertex.
use Rattle.std.proofs.Common.{Bool, ◌≡◌, ℕ, ◌<◌, true, false, List, [], ◌∷◌, ◌++◌, length, map, sym, refl, ap, ◌∙◌, subst, inl, inr, arith}
use Rattle.std.specs.List.{All}
use Rattle.std.proofs.lemmas.List.Elements.{All-nil, All-push, All-weaker, All-contains}
use Rattle.surface.specs.Surface.{next, Side, Tri}
use Rattle.surface.specs.Ring.{Ring}
use Rattle.surface.proofs.Tris.{spin}
use Rattle.mesh.specs.Model.{held, surface}
use Rattle.mesh.specs.declared.halfedges.HalfEdges.{HalfEdges}
use Rattle.mesh.specs.declared.mesh.Mesh.{Mesh}
use Rattle.mesh.proofs.Rings.{met_all}
use Rattle.opened_surface.specs.Marks.{Marks, Marked, Wider}
use Rattle.opened_surface.specs.Stale.{Covered, Grown, Sized, repriced, reopened}
use Rattle.opened_surface.specs.declared.stale.Stale.{Stale}
use Rattle.opened_surface.proofs.Ends.{corner_placed}

pub wider_same : (s : Marks) → Wider s s
wider_same s = record { kept = λ x i. i; long = refl }

pub wider_then : (s t v : Marks) → Wider s t → Wider t v → Wider s v
wider_then s t v a b = record { kept = λ x i. b.kept x (a.kept x i); long = b.long ∙ a.long }

module _ (mesh : Mesh) (s : Marks) where
  -- the end of g is a member, if there is a place for it
  abbrev Done : Marks → ℕ → Type 0
  Done t g = (surface mesh).corner (next g) < length s → Marked t ((surface mesh).corner (next g))

  -- the ends of the half-edges of l are members
  pub record Ringing (l : List ℕ) (t : Marks) : Type 0 where
    pub met : All (Done t) l
    pub wider : Wider s t

  pub set_out : Ringing [] s
  set_out = record { met = All-nil (Done s); wider = wider_same s }

  module _ (e : HalfEdges) (same : e ≡ mesh.edges) {l : List ℕ} {t : Marks} where
    pub step_on : Ringing l t → (h : ℕ) {y : ℕ} → y ≡ (held e).corner (next h) → {x : Marks} → Wider t x → (y < length t → Marked x y) → Ringing (l ++ h ∷ []) x
    step_on W h i {x} G M =
        let end_is = i ∙ ap (λ z. (held z).corner (next h)) same in
        record {
          met = All-push (Done x) l h (All-weaker (Done t) (Done x) (λ g d k. G.kept _ (d k)) l W.met) (λ k. subst (Marked x) end_is (M (let n = W.wider.long in omega arith)));
          wider = wider_then s t x W.wider G;
        }

    module _ {v : ℕ} {all : List ℕ} (round : (held e).present v ≡ true → Ring (held e) v all) (none : (held e).present v ≡ false → all ≡ []) where
      pub come_round : map (λ h. h) l ≡ all → Ringing l t → (z : ℕ) → Side (surface mesh) v z → z < length s → Marked t z
      come_round i W z (g, c, b) k =
          let at_v = subst (λ y. Tri (held y) g v z c) (sym same) b in
          subst (Marked t) b.to (All-contains (Done t) l g W.met (met_all e round none l i g z c at_v) (let j = b.to in omega arith))

-- what a collapse asks for is marked: u, w, and the ring of u
module _ (blind : Bool) (mesh : Mesh) (u w : ℕ) (a t : Stale) (b d : Marks)
    (one : Wider (repriced a) b) (two : Wider b d) (from : u < length (repriced a) → Marked b u) (to : w < length b → Marked d w) where
  marked_both : Sized mesh a → Side (surface mesh) u w → Marked d u × Marked d w
  marked_both sized s =
      let p = corner_placed mesh s.2 in
      let q = corner_placed mesh (spin s.2) in
      let i = sized.0 in
      let j = one.long in
      (two.kept u (from (omega arith)), to (omega arith))

  -- the ring is to be priced again
  module _ (three : Wider d (repriced t)) (same : reopened t ≡ reopened a) where
    pub priced_grown : Grown a t
    priced_grown =
        record {
          price_kept = λ x i. three.kept x (two.kept x (one.kept x i));
          open_kept = λ x i. subst (λ l. Marked l x) (sym same) i;
          price_long = three.long ∙ two.long ∙ one.long;
          open_long = ap length same;
        }

    pub priced_covered : Sized mesh a → Side (surface mesh) u w → ((x : ℕ) → Side (surface mesh) u x → x < length d → Marked (repriced t) x) → Covered blind (surface mesh) u w (repriced t) (reopened t)
    priced_covered sized s r =
        let (p, q) = marked_both sized s in
        record {
          from = three.kept u p;
          to = three.kept w q;
          round = λ x (h, c, k). inl (r x (h, c, k) (let n = corner_placed mesh (spin k) in let i = sized.0 in let j = one.long in let l = two.long in omega arith));
        }

  -- or only to be opened again
  module _ (same : repriced t ≡ d) (three : Wider (reopened a) (reopened t)) where
    pub opened_grown : Grown a t
    opened_grown =
        record {
          price_kept = λ x i. subst (λ l. Marked l x) (sym same) (two.kept x (one.kept x i));
          open_kept = three.kept;
          price_long = ap length same ∙ two.long ∙ one.long;
          open_long = three.long;
        }

    pub opened_covered : Sized mesh a → Side (surface mesh) u w → blind ≡ true → ((x : ℕ) → Side (surface mesh) u x → x < length (reopened a) → Marked (reopened t) x) →
        Covered blind (surface mesh) u w (repriced t) (reopened t)
    opened_covered sized s is r =
        let (p, q) = marked_both sized s in
        record {
          from = subst (λ l. Marked l u) (sym same) p;
          to = subst (λ l. Marked l w) (sym same) q;
          round = λ x (h, c, k). inr (is, r x (h, c, k) (let n = corner_placed mesh (spin k) in let i = sized.1 in omega arith));
        }
