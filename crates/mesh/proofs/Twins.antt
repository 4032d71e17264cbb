-- Twins as the lists keep them, and as the proofs use them.
use Rattle.std.proofs.Common.{◌≡◌, ℕ, ◌/◌, true, eqb, List, get_or, sym, refl, ◌∙◌}
use Rattle.std.proofs.lemmas.Bool.{and_parts, and_from, eqb-true, eq-eqb}
use Rattle.surface.specs.Surface.{Surface, next, prev, Tri}
use Rattle.surface.proofs.Tris.{tri_at}
use Rattle.mesh.specs.Held.{opposite, TwinsLive}
use Rattle.mesh.proofs.Links.{Opposites}

pub opposite_tri : (S : Surface) {h g a b c : ℕ} → Tri S h a b c → opposite S h g ≡ true → (d : ℕ) × Tri S g b a d
unfolding opposite
opposite_tri S {h} {g} t p =
    let (l, q) = and_parts (S.alive (g / 3)) _ p in
    let (i, j) = and_parts (eqb (S.corner g) (S.corner (next h))) _ q in
    (S.corner (prev g), record { lives = l; from = eqb-true _ _ i ∙ t.to; to = eqb-true _ _ j ∙ t.from; third = refl })

pub tri_opposite : (S : Surface) {h g a b c d : ℕ} → Tri S h a b c → Tri S g b a d → opposite S h g ≡ true
unfolding opposite
tri_opposite S {h} {g} t s =
    and_from (S.alive (g / 3)) _ s.lives
    (and_from (eqb (S.corner g) (S.corner (next h))) _ (eq-eqb _ _ (s.from ∙ sym t.to)) (eq-eqb _ _ (s.to ∙ sym t.from)))

pub opposites : (S : Surface) (twin : List ℕ) → TwinsLive S twin → Opposites S (λ h. get_or twin h 0)
opposites S twin O h a b c t = opposite_tri S t (O h t.lives)

pub twins_live : (S : Surface) (twin : List ℕ) → Opposites S (λ h. get_or twin h 0) → TwinsLive S twin
twins_live S twin O h l = let t = tri_at S h l in tri_opposite S t (O h _ _ _ t).1
