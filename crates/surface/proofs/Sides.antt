-- Twice the unordered sides of a closed surface are three times its live triangles: both are its live half-edges.
use Rattle.std.proofs.Common.{◌≡◌, ℕ, zero, suc, ◌*◌, ◌/◌, ◌<◌, Bool, true, false, ◌&&◌, ◌||◌, eqb, ◌⊎◌, sym, refl, ap, ◌∙◌, inl, inr, arith}
use Rattle.std.proofs.lemmas.Bool.{cases_Bool, both_ways, and_parts, and_from, eq-eqb, eqb-true, or_cases, or_left}
use Rattle.surface.specs.Surface.{Surface, next, prev, Tri, Side, Within}
use Rattle.surface.specs.Euler.{count, total, triangles, leads, joined, edges}
use Rattle.surface.specs.Laws.{SidesCounted}
use Rattle.surface.proofs.Counting.{any_at, any_from, count_same, count_none, count_one}
use Rattle.surface.proofs.Sums.{bit, total_same, count_total, sorted, halves}
use Rattle.surface.proofs.Flags.{flag_same, flag_false}
use Rattle.surface.proofs.Tris.{spin, tri_at}
use Rattle.surface.proofs.Sealed.{Sealed}
use Rattle.surface.proofs.FromRings.{sealed}

-- three half-edges to a triangle
triples : (f : ℕ → Bool) (n : ℕ) → count (λ h. f (h / 3)) (3 * n) ≡ 3 * count f n
unfolding count
triples f zero = refl
triples f (suc n) =
    let r : count (λ h. f (h / 3)) (3 * n) ≡ 3 * count f n = triples f n in
    let m : 3 * suc n ≡ suc (suc (suc (3 * n))) = omega arith in
    let x : f (suc (suc (3 * n)) / 3) ≡ f n = ap f (omega arith) in
    let y : f (suc (3 * n) / 3) ≡ f n = ap f (omega arith) in
    let z : f ((3 * n) / 3) ≡ f n = ap f (omega arith) in
    rw (m, x, y, z) (omega arith)

module _ (S : Surface) where
  pub leads_tri : (a b h : ℕ) → leads S a b h ≡ true → Tri S h a b (S.corner (prev h))
  unfolding leads
  leads_tri a b h p =
      let (l, q) = and_parts (S.alive (h / 3)) _ p in
      let (i, j) = and_parts (eqb (S.corner h) a) _ q in
      record { lives = l; from = eqb-true _ _ i; to = eqb-true _ _ j; third = refl }

  pub tri_leads : {a b c h : ℕ} → Tri S h a b c → leads S a b h ≡ true
  unfolding leads
  tri_leads t = and_from _ _ t.lives (and_from _ _ (eq-eqb _ _ t.from) (eq-eqb _ _ t.to))

module _ {S : Surface} (K : Sealed S) (T V : ℕ) (W : Within S T V) where
  low : {h a b c : ℕ} → Tri S h a b c → h < 3 * T
  low {h} t = let p : h / 3 < T = W.triangles (h / 3) t.lives in omega arith

  pub side_joined : {a b : ℕ} → Side S a b → joined S T a b ≡ true
  unfolding joined
  side_joined {a} {b} (h, c, t) = any_from (λ h. leads S a b h || leads S b a h) h (3 * T) (low t) (or_left _ _ (tri_leads S t))

  pub joined_side : {a b : ℕ} → joined S T a b ≡ true → Side S a b
  unfolding joined
  joined_side {a} {b} p = let (h, l, q) = any_at (λ h. leads S a b h || leads S b a h) (3 * T) p in go h (or_cases _ _ q)
    where
      go : (h : ℕ) → (leads S a b h ≡ true) ⊎ (leads S b a h ≡ true) → Side S a b
      go h (inl i) = (h, S.corner (prev h), leads_tri S a b h i)
      go h (inr i) = K.matched (leads_tri S b a h i)

  -- 1 for a side, 0 for another pair
  abbrev D : ℕ → ℕ → ℕ
  D a b = bit (joined S T a b)

  D-swap : (a b : ℕ) → D a b ≡ D b a
  D-swap a b =
      ap bit
      (flag_same (joined S T a b) (joined S T b a) (λ p. side_joined (let (h, c, t) = joined_side p in K.matched t)) (λ p. side_joined (let (h, c, t) = joined_side p in K.matched t)))

  D-none : (a : ℕ) → D a a ≡ 0
  D-none a = ap bit (flag_false (joined S T a a) (λ p. let (h, c, t) = joined_side p in K.proper t refl))

  -- at most one half-edge leads from a to b
  D-count : (a b : ℕ) → count (leads S a b) (3 * T) ≡ D a b
  D-count a b = go (cases_Bool (joined S T a b))
    where
      go : (joined S T a b ≡ true) ⊎ (joined S T a b ≡ false) → count (leads S a b) (3 * T) ≡ bit (joined S T a b)
      go (inl p) =
          let (h, c, t) = joined_side p in
          count_one (leads S a b) h (3 * T) (low t) (tri_leads S t) (λ g q. K.single (leads_tri S a b g q) t) ∙ sym (ap bit p)
      go (inr p) =
          count_none (leads S a b) (3 * T) (λ h l. flag_false _ (λ q. both_ways (joined S T a b) p (side_joined (h, S.corner (prev h), leads_tri S a b h q))))
          ∙ sym (ap bit p)

  abbrev live : ℕ → Bool
  live h = S.alive (h / 3)

  start_low : {h a b c : ℕ} → Tri S h a b c → a < V
  start_low {a = a} t = W.vertices a (K.known t)

  -- the live half-edges that end at b, by where they begin
  row : (b : ℕ) → count (λ h. live h && eqb (S.corner (next h)) b) (3 * T) ≡ total (λ a. D a b) V
  unfolding leads
  row b =
      sorted (λ h. live h && eqb (S.corner (next h)) b) S.corner V (3 * T) (λ h l p. start_low (tri_at S h (and_parts _ _ p).0))
      ∙ total_same _ _ V (λ a m. count_same _ _ (3 * T) (λ h l. both (S.alive (h / 3)) _ _) ∙ D-count a b)
    where
      both : (x y z : Bool) → ((x && y) && z) ≡ (x && (z && y))
      both true true true = refl
      both true true false = refl
      both true false true = refl
      both true false false = refl
      both false y z = refl

  by_ends : count live (3 * T) ≡ total (λ b. total (λ a. D a b) V) V
  by_ends = sorted live (λ h. S.corner (next h)) V (3 * T) (λ h l p. start_low (spin (tri_at S h p))) ∙ total_same _ _ V (λ b k. row b)

  pub sides_counted_of : 2 * edges S T V ≡ 3 * triangles S T
  unfolding edges
  sides_counted_of =
      let e : total (λ b. count (λ a. joined S T a b) b) V ≡ total (λ b. total (λ a. D a b) b) V = total_same _ _ V (λ b l. count_total (λ a. joined S T a b) b) in
      let h = halves D V D-swap D-none in
      let t = triples S.alive T in
      let b = by_ends in
      omega arith

pub sides_counted : SidesCounted
sides_counted S C T V W = sides_counted_of (sealed C) T V W
