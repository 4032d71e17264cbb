-- With its numbers closed up a closed surface is closed.
use Rattle.std.proofs.Common.{◌≡◌, ℕ, true, sym, refl, ap, ◌∙◌, subst}
use Rattle.surface.specs.Surface.{Surface, Tri, Within}
use Rattle.surface.specs.Closed.{Closed}
use Rattle.surface.proofs.Tris.{spin, spin2, moved}
use Rattle.surface.proofs.Sealed.{Sealed, Round, here, turn, round_at}
use Rattle.surface.proofs.FromRings.{sealed}
use Rattle.surface.proofs.ToRings.{closed}
use Rattle.drawing.specs.Places.{place}
use Rattle.drawing.specs.ClosedUp.{ClosedUp}
use Rattle.drawing.proofs.Renumbered.{risen, up, down, source_vertex, present_up, one_vertex}

module _ {S N : Surface} {T V : ℕ} (W : Within S T V) (U : ClosedUp S N T V) (K : Sealed S) where
  -- corners at one place are one
  same : {h g a b c x y z : ℕ} → Tri S h a b c → Tri S g x y z → place S a ≡ place S x → a ≡ x
  same s t i = one_vertex W U _ _ (K.known s) (K.known t) i

  round_up : {v h g : ℕ} → Round S v h g → Round N (place S v) (risen S h) (risen S g)
  round_up here = here
  round_up (turn s t r) = turn (up W U s) (up W U t) (round_up r)

  pub sealed_up : Sealed N
  sealed_up =
      record {
        proper = λ t i.
            let s = down W U t in
            K.proper s.tri (same s.tri (spin s.tri) (s.first_is ∙ i ∙ sym s.second_is));
        single = λ t u.
            let s = down W U t in
            let r = down W U u in
            let x = same s.tri r.tri (s.first_is ∙ sym r.first_is) in
            let y = same (spin s.tri) (spin r.tri) (s.second_is ∙ sym r.second_is) in
            sym s.half_is ∙ ap (risen S) (K.single (moved x y refl s.tri) r.tri) ∙ r.half_is;
        matched = λ t.
            let s = down W U t in
            let (g, c, m) = K.matched s.tri in
            (_, _, moved s.second_is s.first_is refl (up W U m));
        apart = λ t u i.
            let s = down W U t in
            let r = down W U u in
            let x = same s.tri (spin r.tri) (s.first_is ∙ sym r.second_is) in
            let y = same (spin s.tri) r.tri (s.second_is ∙ sym r.first_is) in
            let z = same (spin2 s.tri) (spin2 r.tri) (s.third_is ∙ i ∙ sym r.third_is) in
            K.apart (moved x y refl s.tri) r.tri z;
        ring = λ {h} {g} {v} t u.
            let s = down W U t in
            let r = down W U u in
            let x = same s.tri r.tri (s.first_is ∙ sym r.first_is) in
            let o = round_up (K.ring (moved x refl refl s.tri) r.tri) in
            subst (λ n. Round N v n g) s.half_is (subst (λ n. Round N v (risen S s.half) n) r.half_is (round_at r.first_is o));
        used = λ {v} p.
            let (_, l, i) = source_vertex W U v p in
            let (a, (h, c, t)) = K.used l in
            (_, (_, _, moved i refl refl (up W U t)));
        known = λ {h} {a} t.
            let s = down W U t in
            subst (λ n. N.present n ≡ true) s.first_is (present_up W U s.first (K.known s.tri));
      }

pub closed_up : {S N : Surface} {T V : ℕ} → Closed S → Within S T V → ClosedUp S N T V → Closed N
closed_up C W U = let (h, a, b, c, t) = C.some in closed (sealed_up W U (sealed C)) (_, _, _, _, up W U t)
