-- The sums of what the collapse of the half-edge o sweeps: what each triangle at its start adds.
use Rattle.std.proofs.Common.{◌≡◌, ℕ, ◌/◌, ◌<◌, true, ◌≢◌, ◌⊎◌, List, length, get_or, nat_abs, sym, refl, ap, ◌∙◌, subst, inl, inr, arith}
use native.Mathlib.Decide.{ℕ_discrete}
use Rattle.std.proofs.lemmas.List.{get_or_default}
use Rattle.surface.specs.Surface.{next, prev, Tri}
use Rattle.surface.specs.Geometry.{Vector, six_volume}
use Rattle.surface.specs.Ring.{Ring}
use Rattle.surface.proofs.Tris.{tri_at, renumber}
use Rattle.surface.specs.Euler.{total}
use Rattle.mesh.specs.Model.{held}
use Rattle.mesh.specs.declared.halfedges.HalfEdges.{HalfEdges}
use Rattle.mesh.proofs.Round.{closed_held, ring_tri, ring_few}
use Rattle.gauge.specs.Near.{near}
use Rattle.sweep.specs.Sweeps.{size, volume_swept, number_moved}
use Rattle.sweep.specs.Shares.{Share}
use Rattle.sweep.proofs.Ways.{Gone, Added, total_round}
use Rattle.sweep.proofs.Moved.{moves_yes, moves_no, size_is, share, share_yes, share_no, share_only, volume_is, number_is}

-- what the triangles add to the volume and to the number
abbrev pub volumes : HalfEdges → (ℕ → Vector) → ℕ → ℕ → ℕ → ℕ
volumes e P o w = share (held e) P ((held e).corner o) w (size (P w))

abbrev pub ones : HalfEdges → (ℕ → Vector) → ℕ → ℕ → ℕ → ℕ
ones e P o w = share (held e) P ((held e).corner o) w (λ _. 1)

abbrev pub Summed : HalfEdges → (ℕ → Vector) → ℕ → ℕ → List ℕ → ℕ → ℕ → ℕ → Type 0
Summed e P o w l n sum num = Gone (volumes e P o w) (ones e P o w) l n sum num

-- l is what a walk round v gives, which is the vertex at which o begins
module _ (e : HalfEdges) (P : ℕ → Vector) (o : ℕ) (live : (held e).alive (o / 3) ≡ true) {w v : ℕ} (to : w ≡ (held e).corner (next o)) (from : v ≡ (held e).corner o)
    {l r : List ℕ} (round : (held e).present v ≡ true → Ring (held e) v r) (is : l ≡ r) where
  differ : (held e).corner o ≢ w
  differ i = (closed_held e).proper _ _ _ _ (tri_at (held e) o live) (i ∙ to)

  whole : Ring (held e) ((held e).corner o) l
  whole = rw is (subst (λ x. Ring (held e) x r) from (round (ap (held e).present from ∙ (closed_held e).known _ _ _ _ (tri_at (held e) o live))))

  module _ {n h : ℕ} (turn : (n < length l) × (h ≡ get_or l n h)) where
    here : Tri (held e) h ((held e).corner o) ((held e).corner (next h)) ((held e).corner (prev h))
    here =
        let (_, _, s) = ring_tri whole n turn.0 in
        let t = renumber (get_or_default l n 0 h turn.0 ∙ sym turn.1) s in
        record { lives = t.lives; from = t.from; to = refl; third = refl }

    pub here_live : (held e).alive (h / 3) ≡ true
    here_live = here.lives

    -- a ring is short, so that the sums stay small
    pub short : n < 6144
    short = omega (arith, turn.0, ring_few e whole, e.few, e.twin_long, e.twin.ok, e.corners.ok)

    pub adds : {x y : ℕ} → Share (held e) P w h x y → Added (volumes e P o w) (ones e P o w) h x y
    adds {x} {y} K = go (ℕ_discrete ((held e).corner (next h)) w) (ℕ_discrete ((held e).corner (prev h)) w)
      where
        none : ((held e).corner (next h) ≡ w) ⊎ ((held e).corner (prev h) ≡ w) → (x ≡ 0) × (y ≡ 0) → Added (volumes e P o w) (ones e P o w) h x y
        none i (p, q) =
            let m = moves_no (held e) P ((held e).corner o) w here i in
            record {
              sum_is = p ∙ sym (share_no (held e) P ((held e).corner o) w (size (P w)) (h / 3) m);
              num_is = q ∙ sym (share_no (held e) P ((held e).corner o) w (λ _. 1) (h / 3) m);
              few = K.few;
              small = K.small;
            }

        go : Dec ((held e).corner (next h) ≡ w) → Dec ((held e).corner (prev h) ≡ w) → Added (volumes e P o w) (ones e P o w) h x y
        go (yes i) _ = none (inl i) (K.to i)
        go (no i) (yes j) = none (inr j) (K.third j)
        go (no i) (no j) =
            let (p, q) = K.moved i j in
            let m = moves_yes (held e) P ((held e).corner o) w here differ i j in
            let f = ap (λ n. nat_abs (six_volume (P n) (P ((held e).corner (next h))) (P ((held e).corner (prev h))) (P w))) here.from in
            record {
              sum_is = p ∙ f ∙ sym (share_yes (held e) P ((held e).corner o) w (size (P w)) (h / 3) m ∙ size_is (held e) P ((held e).corner o) w here (P w));
              num_is = q ∙ sym (share_yes (held e) P ((held e).corner o) w (λ _. 1) (h / 3) m);
              few = K.few;
              small = K.small;
            }

  -- the volume and the number, where each half-edge has had its turn
  pub all_summed : {n sum num : ℕ} → Summed e P o w l n sum num → n ≡ length l →
      (sum ≡ volume_swept ((held e).corner o) ((held e).corner (next o)) (P ((held e).corner (next o))) (near (held e) P ((held e).corner o) ((held e).corner (next o))))
      × (num ≡ number_moved ((held e).corner o) ((held e).corner (next o)) (near (held e) P ((held e).corner o) ((held e).corner (next o))))
  all_summed G i =
      let S = held e in
      let u = S.corner o in (
        G.sum_is ∙ ap (total (λ j. volumes e P o w (get_or l j 0 / 3))) i ∙ sym (total_round e whole (volumes e P o w) (share_only S P u w (size (P w))))
            ∙ volume_is S P u w (P w) ∙ ap (λ n. volume_swept u n (P n) (near S P u n)) to,
        G.num_is ∙ ap (total (λ j. ones e P o w (get_or l j 0 / 3))) i ∙ sym (total_round e whole (ones e P o w) (share_only S P u w (λ _. 1)))
            ∙ number_is S P u w ∙ ap (λ n. number_moved u n (near S P u n)) to,
      )
