-- Keys mended on a walk round a vertex.
use Rattle.std.proofs.Common.{◌≡◌, ℕ, ◌/◌, true, false, ◌⊎◌, List, [], ◌∷◌, ◌++◌, map, get_or, is_some, Some, None, Option, sym, refl, ◌∙◌, subst, inl, inr, arith, Bool, not, eqb, ap}
use Rattle.std.specs.List.{Contains}
use Rattle.std.proofs.lemmas.Bool.{both_ways, cases_Bool, eqb-true}
use Rattle.std.proofs.lemmas.List.Elements.{Contains-push_cases}
use Rattle.surface.specs.Surface.{Surface, Tri}
use Rattle.surface.specs.Ring.{Ring}
use Rattle.queue.specs.declared.keys.Key.{Key}
use Rattle.mesh.specs.Held.{opposite}
use Rattle.mesh.specs.Model.{held, surface, points}
use Rattle.mesh.specs.declared.halfedges.HalfEdges.{HalfEdges}
use Rattle.mesh.specs.declared.mesh.Mesh.{Mesh}
use Rattle.mesh.proofs.Rings.{met_all}
use Rattle.mesh.proofs.Round.{closed_held}
use Rattle.gauge.specs.declared.Gauge.{Ghosts}
use Rattle.opened_surface.specs.Mending.{Accounted, AllPriced, Fit, KeyNow, MendedNow, Refreshed, Touches}
use Rattle.opened_surface.proofs.Rights as rights
use Rattle.opened_surface.proofs.Sides.{Pair, pair_is, touching}

-- k is one of l or runs opposite to one
abbrev pub Paired : Surface → List ℕ → ℕ → Type 0
Paired S l k = (g : ℕ) × Contains l g × Pair S g k

-- A is what the mending rests on
module _ {G C E Z : Type 0} (m : Ghosts G C E Z) (mesh : Mesh) (gauge : G) (A : Type 0) where
  abbrev Keys : Type 0
  Keys = List (Option (Key C))

  -- a step of mending
  abbrev pub Step : (ℕ → Type 0) → Keys → Keys → Type 0
  Step Q before after = A → MendedNow m mesh gauge Q before after

  pub one : {h : ℕ} {before after : Keys} → (A → Refreshed m mesh gauge h before after) → (A → Accounted m mesh gauge) → Step (λ g. g ≡ h) before after
  one {h} {before} {after} R acc a = let R' = R a in rights.written m (surface mesh) (points mesh) (m.setting gauge) (m.account gauge) h R'.key before after R'.written (R'.right (acc a))

  pub none : (keys : Keys) → Step (λ _. ⊥) keys keys
  none keys a = rights.nothing_yet m (surface mesh) (points mesh) (m.setting gauge) (m.account gauge) keys

  pub both : {Q R : ℕ → Type 0} {a b c : Keys} → Step Q a b → Step R b c → Step (λ h. Q h ⊎ R h) a c
  both M N a = rights.both m (surface mesh) (points mesh) (m.setting gauge) (m.account gauge) (M a) (N a)

  pub weaker : {Q R : ℕ → Type 0} {a b : Keys} → ((h : ℕ) → R h → Q h) → Step Q a b → Step R a b
  weaker f M a = rights.weaker m (surface mesh) (points mesh) (m.setting gauge) (m.account gauge) f (M a)

  -- a turn at a vertex: a half-edge of e, which are those of the mesh, and the one that runs opposite
  pub pair_step : (e : HalfEdges) → e ≡ mesh.edges → (h r : ℕ) {a b c : Keys} → (held e).alive (h / 3) ≡ true → ((held e).alive (h / 3) ≡ true → opposite (held e) h r ≡ true) →
      (A → Accounted m mesh gauge) → (A → Refreshed m mesh gauge h a b) → (A → Refreshed m mesh gauge r b c) → Step (Pair (surface mesh) h) a c
  pair_step e same h r l T acc M N =
      let p : opposite (surface mesh) h r ≡ true = subst (λ x. opposite (held x) h r ≡ true) same (T l) in
      weaker (λ k q. pair_is (surface mesh) (closed_held mesh.edges) h r k p q) (both (one M acc) (one N acc))

  pub set_out : (keys : Keys) → Step (Paired (surface mesh) []) keys keys
  set_out keys = weaker (λ k (g, (j, p, _), _). absurd (omega arith)) (none keys)

  pub step_on : (l : List ℕ) (h : ℕ) {a b c : Keys} → Step (Paired (surface mesh) l) a b → Step (Pair (surface mesh) h) b c → Step (Paired (surface mesh) (l ++ h ∷ [])) a c
  step_on l h M N =
      weaker (λ k (g, p, q). elim (Contains-push_cases l h g p) [ inl i ↦ inl (g, i, q) | inr i ↦ inr (subst (λ x. Pair (surface mesh) x k) (sym i) q) ]) (both M N)

  -- where each half-edge at v is met, all is mended that touches v
  pub come_round : (e : HalfEdges) → e ≡ mesh.edges → {v : ℕ} (l : List ℕ) {all : List ℕ} → ((held e).present v ≡ true → Ring (held e) v all) → ((held e).present v ≡ false → all ≡ []) → map (λ h. h) l ≡ all →
      {a b : Keys} → Step (Paired (surface mesh) l) a b → Step (Touches (surface mesh) v) a b
  come_round e same {v} l round empty i =
      weaker (λ k q.
      let (g, x, y, t, p) = touching (surface mesh) (closed_held mesh.edges) v k q in
      (g, met_all e round empty l i g x y (subst (λ d. Tri (held d) g v x y) (sym same) t), p))

-- keys that are there and right stay right
pub still_priced : {G C E Z : Type 0} (m : Ghosts G C E Z) (mesh : Mesh) (gauge : G) {Q : ℕ → Type 0} (a b : List (Option (Key C))) → MendedNow m mesh gauge Q a b → AllPriced m mesh gauge a → AllPriced m mesh gauge b
still_priced m mesh gauge a b M p h k i = elim (M.either h) [ inl r ↦ subst (KeyNow m mesh gauge h) i r | inr e ↦ p h k (sym e ∙ i) ]

-- a flag that is not 0 is set
pub flag_set : (n : ℕ) → (n ≡ 0 → ⊥) → not (eqb n 0) ≡ true
flag_set n h = elim (cases_Bool (eqb n 0)) [ inl i ↦ absurd (h (eqb-true n 0 i)) | inr i ↦ ap not i ]

pub fit_now : {G C E Z : Type 0} (m : Ghosts G C E Z) (mesh : Mesh) (gauge : G) {Q : ℕ → Type 0} (a b : List (Option (Key C))) (how : Bool) → MendedNow m mesh gauge Q a b → Fit m mesh gauge how a → Fit m mesh gauge how b
fit_now m mesh gauge a b false M p = tt
fit_now m mesh gauge a b true M p = still_priced m mesh gauge a b M p

-- and after one more key is written
pub fit_next : {G C E Z : Type 0} (m : Ghosts G C E Z) (mesh : Mesh) (gauge : G) {Q : ℕ → Type 0} (a b d : List (Option (Key C))) (how : Bool) (h : ℕ) → MendedNow m mesh gauge Q a b → Accounted m mesh gauge →
    (Fit m mesh gauge how b → Refreshed m mesh gauge h b d) → Fit m mesh gauge how a → Fit m mesh gauge how d
fit_next m mesh gauge a b d how h M acc R f =
    let g = fit_now m mesh gauge a b how M f in
    fit_now m mesh gauge b d how (one m mesh gauge (Accounted m mesh gauge) {h = h} {before = b} {after = d} (λ _. R g) (λ x. x) acc) g

-- a key that is left alone
pub left_alone : {G C E Z : Type 0} (m : Ghosts G C E Z) (mesh : Mesh) (gauge : G) (h : ℕ) (keys : List (Option (Key C))) → AllPriced m mesh gauge keys → is_some (get_or keys h None) ≡ true → Refreshed m mesh gauge h keys keys
left_alone {C = C} m mesh gauge h keys p some = record { key = get_or keys h None; written = sym (rights.set_back keys h None); right = λ _. go (get_or keys h None) refl some }
  where
    go : (r : Option (Key C)) → get_or keys h None ≡ r → is_some r ≡ true → KeyNow m mesh gauge h r
    go None i t = absurd (both_ways false refl t)
    go (Some k) i t = p h k i
