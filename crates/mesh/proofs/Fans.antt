-- The half-edges round a vertex, from one to another, as the surface has them.
use Rattle.std.proofs.Common.{◌≡◌, ℕ, true, ◌≢◌, ◌⊎◌, List, [], ◌∷◌, sym, refl, subst, inl, inr}
use Rattle.surface.specs.Surface.{Surface, prev, Tri}
use Rattle.surface.proofs.Tris.{spin, spin2, moved, same_third, renumber}
use Rattle.surface.proofs.Sealed.{Sealed, one_third, one_before}
use Rattle.surface.proofs.Among.{among, among_cases, among_none, among_head, among_tail}
use Rattle.surface.proofs.Pinch.{Pinch, Gone, uwa, wau, auw, wub, ubw, bwu, u≢w, a≢u, u≢b, fate}
use Rattle.surface.proofs.Local.{Lives, far3, touch}
use Rattle.mesh.specs.Walks as walks
use Rattle.mesh.specs.Walks.{Walk}
use Rattle.mesh.proofs.Links.{Opposites}

-- the half-edges round v, from h to last
pub data Fan (S : Surface) (v last : ℕ) : ℕ → List ℕ → Type 0 where
  done : {a b : ℕ} → Tri S last v a b → Fan S v last last (last ∷ [])
  more : {h g a b c : ℕ} {l : List ℕ} → h ≢ last → Tri S h v a b → Tri S g v b c → Fan S v last g l → Fan S v last h (h ∷ l)

-- a fan goes on as the ring does
module _ {N : Surface} (C : Sealed N) {v last : ℕ} where
  pub fan_first : {g : ℕ} {l : List ℕ} → Fan N v last g l → among g l ≡ true
  fan_first (done t) = among_head last last [] refl
  fan_first (more {h = h} {l = l} n t s r) = among_head h h l refl

  pub fan_closed : {g y z a b c : ℕ} {l : List ℕ} → Fan N v last g l → among y l ≡ true → Tri N y v a b → Tri N z v b c → y ≢ last → among z l ≡ true
  fan_closed {y = y} (done t) m ty tz n = elim (among_cases y last [] m) [ inl i ↦ absurd (n i) | inr i ↦ absurd (among_none y i) ]
  fan_closed {y = y} {z = z} (more {h = h} {g = g} {l = l} d th tg r) m ty tz n = go (among_cases y h l m) (λ i. fan_closed r i ty tz n)
    where
      go : (y ≡ h) ⊎ (among y l ≡ true) → (among y l ≡ true → among z l ≡ true) → among z (h ∷ l) ≡ true
      go (inl i) f = among_tail z h l (subst (λ k. among k l ≡ true) (C.single tg (moved refl (same_third (renumber i ty) th) refl tz)) (fan_first r))
      go (inr i) f = among_tail z h l (f i)

  -- each of its half-edges begins at v
  pub fan_at : {g h : ℕ} {l : List ℕ} → Fan N v last g l → among h l ≡ true → (a : ℕ) × (b : ℕ) × Tri N h v a b
  fan_at {h = h} (done {a = a} {b = b} t) m = elim (among_cases h last [] m) [ inl i ↦ (a, b, renumber (sym i) t) | inr i ↦ absurd (among_none h i) ]
  fan_at {h = h} (more {h = g} {a = a} {b = b} {l = l} d th tg r) m = go (among_cases h g l m) (λ i. fan_at r i)
    where
      go : (h ≡ g) ⊎ (among h l ≡ true) → (among h l ≡ true → (a : ℕ) × (b : ℕ) × Tri N h v a b) → (a : ℕ) × (b : ℕ) × Tri N h v a b
      go (inl i) f = (a, b, renumber (sym i) th)
      go (inr i) f = f i

  -- it is the walk from twin to twin
  pub fan_walk : (o : ℕ → ℕ) → Opposites N o → {g : ℕ} {l : List ℕ} → Fan N v last g l → Walk o last g l
  fan_walk o O (done t) = walks.done
  fan_walk o O (more {h = h} {g = g} {a = a} {b = b} {l = l} d th tg r) =
      walks.more d (subst (λ x. Walk o last x l) (C.single tg (O (prev h) b v a (spin2 th)).1) (fan_walk o O r))

module _ {S N : Surface} {φ : ℕ → ℕ} (K : Sealed S) {e f u w a b : ℕ} (P : Pinch S N φ e f u w a b) {last s : ℕ} (tl : Tri S last u s b) where
  -- the half-edge after a live one at u: it is live, unless it comes after the last
  pub data After (g n : ℕ) : Type 0 where
    lively : Lives N n → g ≢ last → After g n
    ending : g ≡ last → After g n

  pub after : {g n x y z : ℕ} → Tri S g u x y → Lives N g → Tri S n u y z → After g n
  after {g} {n} {x} {y} {z} tg lg tn = go (fate K P tn)
    where
      go : Lives N n ⊎ Gone u w a b u y z → After g n
      go (inl l) = lively l (λ i. far3 P.I tn l (sym (touch K P refl (one_third K (moved refl (same_third (renumber i tg) tl) refl tn) (spin P.tf)))))
      go (inr (uwa i j k)) = absurd (far3 P.I tg lg (sym (touch K P refl j)))
      go (inr (wau i j k)) = absurd (u≢w K P i)
      go (inr (auw i j k)) = absurd (a≢u K P (sym i))
      go (inr (wub i j k)) = absurd (u≢w K P i)
      go (inr (ubw i j k)) = ending (one_before K (moved refl refl j tg) tl)
      go (inr (bwu i j k)) = absurd (u≢b K P i)
