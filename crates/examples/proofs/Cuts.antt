-- Sums over many triangles, most of which are not there.
use Rattle.std.proofs.Common.{◌≡◌, ℕ, zero, suc, ◌*◌, ◌/◌, ◌<◌, ◌≤◌, false, cond, ◌⊎◌, List, map, None, ap, ◌∙◌, inl, inr, arith}
use mathlib.Core.Path.{fun_ext}
use Rattle.std.specs.List.{range_with_len}
use Rattle.std.proofs.lemmas.Bool.{cases_lt}
use Rattle.surface.specs.Surface.{Surface, Within}
use Rattle.surface.specs.Euler.{count, total}
use Rattle.surface.specs.Geometry.{Vector}
use Rattle.surface.proofs.Flags.{flag_false}
use Rattle.gauge.specs.Near.{near}
use Rattle.planes.specs.declared.quadric.Quadric.{Quadric}
use Rattle.planes.specs.Accounts.{gathered, opening}
use Rattle.sweep.specs.Sweeps.{moves, size, volume_swept, number_moved}

-- what changes no more from n on is what it is at n
cut : {A : Type 0} (f : ℕ → A) (n : ℕ) → ((k : ℕ) → n ≤ k → f (suc k) ≡ f k) → (m : ℕ) → n ≤ m → f m ≡ f n
cut f n s zero l = ap f (omega arith)
cut f n s (suc m) l = go (cases_lt m n) (λ k. cut f n s m k)
  where
    go : (m < n) ⊎ (n ≤ m) → (n ≤ m → f m ≡ f n) → f (suc m) ≡ f n
    go (inl k) r = ap f (omega arith)
    go (inr k) r = s m k ∙ r k

module _ (S : Surface) (T V : ℕ) (W : Within S T V) (P : ℕ → Vector) where
  none : (t : ℕ) → T ≤ t → S.alive t ≡ false
  none t l = flag_false (S.alive t) (λ p. let k = W.triangles t p in omega arith)

  pub gathered_cut : (c m : ℕ) → 3 * T ≤ m → gathered S P c m ≡ gathered S P c (3 * T)
  unfolding gathered
  gathered_cut c m l = cut (gathered S P c) (3 * T) (λ h k. rw (none (h / 3) (omega arith))) m l

  -- the opening account
  pub opening_cut : (n : ℕ) → 3 * T ≤ 6144 → opening S P n ≡ map (λ c. gathered S P c (3 * T)) (range_with_len 0 n)
  opening_cut n l = ap {B = List Quadric} (λ f. map f (range_with_len 0 n)) (fun_ext (λ c. gathered_cut c 6144 l))

  nothing : (u w t : ℕ) → T ≤ t → near S P u w t ≡ None
  unfolding near
  nothing u w t l = rw (none t l)

  -- what a collapse sweeps
  pub volume_cut : (u w : ℕ) (p : Vector) → T ≤ 2048 → volume_swept u w p (near S P u w) ≡ total (λ t. cond (moves u w (near S P u w t)) (size p (near S P u w t)) 0) T
  unfolding volume_swept total moves
  volume_cut u w p l = cut (total (λ t. cond (moves u w (near S P u w t)) (size p (near S P u w t)) 0)) T (λ t k. rw (nothing u w t k) (omega arith)) 2048 l

  pub number_cut : (u w : ℕ) → T ≤ 2048 → number_moved u w (near S P u w) ≡ count (λ t. moves u w (near S P u w t)) T
  unfolding number_moved count moves
  number_cut u w l = cut (count (λ t. moves u w (near S P u w t))) T (λ t k. rw (nothing u w t k) (omega arith)) 2048 l
