-- The two parts of the local test, as walks find them: common neighbours, and three neighbours.
use Rattle.std.proofs.Common.{◌≡◌, ℕ, ◌/◌, Bool, true, false, not, ◌≢◌, ◌⊎◌, ◌↔◌, is_some, Some, None, Option, sym, refl, ◌∙◌, subst, inl, inr}
use Rattle.std.proofs.lemmas.Bool.{both_ways, cases_Bool}
use Rattle.surface.specs.Surface.{Surface, next, prev, Tri, Side}
use Rattle.surface.specs.Closed.{Closed}
use Rattle.surface.specs.Collapse.{collapse}
use Rattle.surface.specs.Permitted.{HasThree, Link}
use Rattle.surface.proofs.Tris.{spin, spin2, moved, renumber, same_to, same_third, tri_at}
use Rattle.surface.proofs.Sealed.{Sealed}
use Rattle.surface.proofs.FromRings.{sealed}
use Rattle.surface.proofs.Threes.{One-of, those}
use Rattle.surface.proofs.LocalTest.{local_test}
use Rattle.mesh.specs.Held.{opposite}
use Rattle.mesh.specs.Reads.{Leads, OnlyCommon, Clear, Exactly}
use Rattle.mesh.specs.Model.{held}
use Rattle.mesh.specs.declared.halfedges.HalfEdges.{HalfEdges}
use Rattle.mesh.proofs.Reading.{opposite_tri}
use Rattle.mesh.proofs.Round.{closed_held, Follows, Going, begin, onward, around_all}

-- answers that tell
pub exactly_yes : {P : Type 0} (b : Bool) → b ≡ true → Exactly b P → P
exactly_yes true i x = x
exactly_yes false i x = absurd (both_ways false refl i)

pub exactly_no : {P : Type 0} (b : Bool) → b ≡ false → Exactly b P → P → ⊥
exactly_no true i x p = both_ways true i refl
exactly_no false i x p = x p

pub exactly_from : {P : Type 0} (b : Bool) → (b ≡ true → P) → (P → b ≡ true) → Exactly b P
exactly_from true f g = f refl
exactly_from false f g = λ p. both_ways false refl (g p)

pub exactly_false : {P : Type 0} (b : Bool) → b ≡ false → (P → ⊥) → Exactly b P
exactly_false true i f = absurd (both_ways true i refl)
exactly_false false i f = f

pub exactly_iff : {P Q : Type 0} (b : Bool) → (P → Q) → (Q → P) → Exactly b P → Exactly b Q
exactly_iff true f g x = f x
exactly_iff false f g x = λ q. x (g q)

-- the answer of a search for a half-edge
pub leads_none : {S : Surface} {u w : ℕ} (o : Option ℕ) → is_some o ≡ false → Leads S u w o → Side S u w → ⊥
leads_none None i x = x
leads_none (Some e) i x = absurd (both_ways true i refl)

pub leads_some : {S : Surface} {u w : ℕ} (o : Option ℕ) → is_some o ≡ true → Leads S u w o → Side S u w
leads_some None i x = absurd (both_ways false refl i)
leads_some (Some e) i (c, t) = (e, c, t)

-- each half-edge at u is clear
pub only_from : {S : Surface} {u w a b : ℕ} → ((g x y : ℕ) → Tri S g u x y → Clear S w a b g) → OnlyCommon S u w a b
only_from f c (g, y, t) (k, z, s) =
    elim (f g c y t (k, z, moved refl (sym t.to) refl s)) [ inl i ↦ inl (sym t.to ∙ i) | inr i ↦ inr (sym t.to ∙ i) ]

pub only_to : {S : Surface} {u w a b : ℕ} → OnlyCommon S u w a b → (g x y : ℕ) → Tri S g u x y → Clear S w a b g
only_to o g x y t = o _ (g, y, moved refl (sym t.to) refl t)

-- three steps round v, over the triangles (v, x, y), (v, y, z) and (v, z, n), come to a half-edge that leads to n
module _ (e : HalfEdges) {v o p q r x y : ℕ} (t : Tri (held e) o v x y) (fo : Follows e o p) (fp : Follows e p q) (fq : Follows e q r) where
  K : Sealed (held e)
  K = sealed (closed_held e)

  after : {h g a b : ℕ} → Tri (held e) h v a b → Follows e h g → (c : ℕ) × Tri (held e) g v b c
  after s f =
      let (a', b', c, s', t') = f s.lives in
      (c, moved s.from (same_third s' s) refl t')

  pub three_from : r ≡ o → HasThree (held e) v
  three_from i =
      let (z, s) = after t fo in
      let (n, k) = after s fp in
      let (m, l) = after k fq in
      let p≢o : p ≢ o = λ j. K.proper (spin t) (sym (same_to (renumber j s) t)) in
      let q≢o : q ≢ o = λ j. K.apart s (spin2 t) (same_to (renumber j k) t) in
      let there : Going e v o q (λ g. One-of ((held e).corner (next g)) x y z) = onward e (onward e (begin e t) (inl t.to) fo p≢o) (inr (inl s.to)) fp q≢o in
      let all = around_all e t there (inr (inr k.to)) fq i in (
        x,
        y,
        z,
        record {
          first = (o, y, t);
          second = (p, z, s);
          third = (q, n, k);
          apart = (K.proper (spin t), K.proper (spin s), K.apart s (spin2 t));
          only = λ c (g, d, h). subst (λ n. One-of n x y z) h.to (all g c d h);
        },
      )

  pub three_back : HasThree (held e) v → r ≡ o
  three_back (x', y', z', T) =
      let (z, s) = after t fo in
      let (n, k) = after s fp in
      let (m, l) = after k fq in
      let one : One-of n x y z = those T.only (o, y, t) (p, z, s) (q, n, k) (K.proper (spin t)) (K.proper (spin s)) (K.apart s (spin2 t)) n (r, m, l) in
      elim one [
        | inl i ↦ K.single (moved refl i refl l) t
        | inr (inl i) ↦ absurd (K.apart k (spin2 s) i)
        | inr (inr i) ↦ absurd (K.proper (spin k) (sym i))
      ]

-- two answers in turn: the second is asked where the first is true
pub both_then : {P : Type 0} (Q : Type 0) (r k : Bool) → r ≡ k → P → Exactly k Q → Exactly r (P × Q)
both_then Q r k i p x = exactly_from r (λ j. (p, exactly_yes k (sym i ∙ j) x)) (λ (p, q). go (cases_Bool r) q)
  where
    go : (r ≡ true) ⊎ (r ≡ false) → Q → r ≡ true
    go (inl j) q = j
    go (inr j) q = absurd (exactly_no k (sym i ∙ j) x q)

pub both_else : {P : Type 0} (Q : Type 0) (r k : Bool) → r ≡ k → k ≡ false → (P → ⊥) → Exactly r (P × Q)
both_else Q r k i j x = exactly_from r (λ l. absurd (both_ways r (i ∙ j) l)) (λ (p, q). absurd (x p))

module _ (e : HalfEdges) (h g u w a b : ℕ) (live : (held e).alive (h / 3) ≡ true) (op : opposite (held e) h g ≡ true)
    (from : u ≡ (held e).corner h) (to : w ≡ (held e).corner (next h)) (one : a ≡ (held e).corner (prev h)) (other : b ≡ (held e).corner (prev g)) where
  -- the local test at h, whose opposite is g
  at_side : Closed (collapse (held e) ((held e).corner h) ((held e).corner (next h))) ↔ Link (held e) u w a b
  at_side =
      let S = held e in
      let th : Tri S h u w a = moved (sym from) (sym to) (sym one) (tri_at S h live) in
      let tg : Tri S g w u b = moved (sym to) (sym from) (sym other) (opposite_tri S h g op) in
      let law : Closed (collapse S u w) ↔ Link S u w a b = local_test S (closed_held e) h g u w a b th tg in
      subst (λ x. Closed (collapse S x (S.corner (next h))) ↔ Link S u w a b) from (subst (λ y. Closed (collapse S u y) ↔ Link S u w a b) to law)

  pub closes_not : (r : Bool) → r ≡ false → Exactly r (OnlyCommon (held e) u w a b) → Exactly r (Closed (collapse (held e) ((held e).corner h) ((held e).corner (next h))))
  closes_not r i x = exactly_false r i (λ C. exactly_no r i x (at_side.0 C).common)

  pub closes_by : (r : Bool) → OnlyCommon (held e) u w a b → Exactly r (HasThree (held e) u × HasThree (held e) w) →
      Exactly (not r) (Closed (collapse (held e) ((held e).corner h) ((held e).corner (next h))))
  closes_by true o x = λ C. (at_side.0 C).large x.0 x.1
  closes_by false o x = at_side.1 (record { common = o; large = λ y z. x (y, z) })
