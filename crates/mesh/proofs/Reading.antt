-- Surfaces read from lists, entry by entry, and opposite half-edges.
use Rattle.std.proofs.Common.{◌≡◌, ℕ, ◌/◌, ◌<◌, Bool, true, false, eqb, List, length, get_or, sym, refl, ap, ◌∙◌, inl, inr}
use Rattle.std.specs.Bool.{then_some}
use Rattle.std.proofs.lemmas.Bool.{and_parts, eqb-true, both_ways, cases_lt}
use Rattle.std.proofs.lemmas.List.{get_or_past}
use Rattle.surface.specs.Surface.{Surface, next, prev, Tri}
use Rattle.surface.specs.Ring.{Turn}
use Rattle.surface.specs.Read.{read}
use Rattle.surface.proofs.Tris.{next_third, spin2, tri_at, moved, renumber}
use Rattle.mesh.specs.Held.{opposite, TwinsLive, OutLive}
use Rattle.mesh.specs.Reads.{Outgoing}

module _ (cs : List ℕ) (ts vs : List Bool) where
  pub corner_read : (h : ℕ) → (read cs ts vs).corner h ≡ get_or cs h 0
  unfolding read
  corner_read h = refl

  pub alive_read : (t : ℕ) → (read cs ts vs).alive t ≡ get_or ts t false
  unfolding read
  alive_read t = refl

  pub present_read : (v : ℕ) → (read cs ts vs).present v ≡ get_or vs v false
  unfolding read
  present_read v = refl

-- an entry that is set stands within the list
pub set_within : (l : List Bool) (i : ℕ) → get_or l i false ≡ true → i < length l
set_within l i p = elim (cases_lt i (length l)) [ inl k ↦ k | inr k ↦ absurd (both_ways _ (get_or_past l i false k) p) ]

module _ (S : Surface) where
  -- the two half-edges at a side
  pub opposite_tri : (h g : ℕ) → opposite S h g ≡ true → Tri S g (S.corner (next h)) (S.corner h) (S.corner (prev g))
  unfolding opposite
  opposite_tri h g p =
      let (l, q) = and_parts (S.alive (g / 3)) _ p in
      let (i, j) = and_parts (eqb (S.corner g) (S.corner (next h))) _ q in
      record { lives = l; from = eqb-true _ _ i; to = eqb-true _ _ j; third = refl }

  -- the twin of the half-edge before follows round the vertex
  pub twin_turns : (twin : List ℕ) → TwinsLive S twin → (h : ℕ) → S.alive (h / 3) ≡ true → Turn S (S.corner h) h (get_or twin (prev h) 0)
  twin_turns twin T h l =
      let t = tri_at S h l in
      let o = opposite_tri (prev h) (get_or twin (prev h) 0) (T (prev h) (spin2 t).lives) in
      (S.corner (next h), S.corner (prev h), _, t, moved (ap S.corner (next_third h)) refl refl o)

-- what is read of the table of outgoing half-edges: an entry where the vertex is live
pub outgoing_told : (S : Surface) (out : List ℕ) → OutLive S out → (v h : ℕ) (live : Bool) → live ≡ S.present v → h ≡ get_or out v 0 → Outgoing S v (then_some live h)
outgoing_told S out O v h false i f = λ p. both_ways false refl (i ∙ p)
outgoing_told S out O v h true i f = let (lives, from) = O v (sym i) in (_, _, renumber (sym f) (moved from refl refl (tri_at S _ lives)))
