-- Closed surfaces as the proofs use them: a vertex's triangles are told by the way round it, from each of them to each other.
use Rattle.std.proofs.Common.{◌≡◌, ℕ, true, ◌≢◌, sym, ap, ◌∙◌, subst}
use Rattle.surface.specs.Surface.{Surface, next, Tri, Side}
use Rattle.surface.proofs.Tris.{next_third, spin2, same_third, renumber}

-- from half-edge to half-edge round the vertex v: after (v, a, b) comes (v, b, c)
pub data Round (S : Surface) (v : ℕ) : ℕ → ℕ → Type 0 where
  here : {h : ℕ} → Round S v h h
  turn : {h g k a b c : ℕ} → Tri S h v a b → Tri S g v b c → Round S v g k → Round S v h k

pub then : {S : Surface} {v h g k : ℕ} → Round S v h g → Round S v g k → Round S v h k
then here s = s
then (turn t n r) s = turn t n (then r s)

pub round_at : {S : Surface} {v v' h g : ℕ} → v ≡ v' → Round S v h g → Round S v' h g
round_at {S} {h = h} {g = g} p r = subst (λ (x : ℕ). Round S x h g) p r

pub record Sealed (S : Surface) : Type 0 where
  pub proper : {h a b c : ℕ} → Tri S h a b c → a ≢ b
  pub single : {h g a b c d : ℕ} → Tri S h a b c → Tri S g a b d → h ≡ g
  pub matched : {h a b c : ℕ} → Tri S h a b c → Side S b a
  -- the two triangles at a side have different third corners
  pub apart : {h g a b c d : ℕ} → Tri S h a b c → Tri S g b a d → c ≢ d
  -- the triangles at a vertex are one ring
  pub ring : {h g v a b c d : ℕ} → Tri S h v a b → Tri S g v c d → Round S v h g
  -- the live vertices are the corners of the live triangles
  pub used : {v : ℕ} → S.present v ≡ true → (a : ℕ) × Side S v a
  pub known : {h a b c : ℕ} → Tri S h a b c → S.present a ≡ true

module _ {S : Surface} (K : Sealed S) where
  pub one_third : {h g a b c d : ℕ} → Tri S h a b c → Tri S g a b d → c ≡ d
  one_third s t = same_third (renumber (K.single s t) s) t

  -- two half-edges from one vertex, in triangles with the same last corner
  pub one_before : {h g v a b c : ℕ} → Tri S h v a c → Tri S g v b c → h ≡ g
  one_before {h} {g} s t = sym (next_third h) ∙ ap next (K.single (spin2 s) (spin2 t)) ∙ next_third g
