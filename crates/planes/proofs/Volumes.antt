-- The size of six-volumes of points whose coordinates are whole numbers from 0 to 255.
use Rattle.std.proofs.Common.{◌≡◌, ℕ, zero, suc, ◌+◌, ◌-◌, ◌*◌, ◌<◌, ◌≤◌, ◌⊎◌, [], ◌∷◌, get_or, ℤ, pos, negsuc, ◌+ℤ◌, ◌-ℤ◌, ◌*ℤ◌, sym, refl, subst, inl, inr, arith}
use Rattle.std.proofs.lemmas.Nat.{mul-le}
use Rattle.std.proofs.lemmas.Bool.{cases_lt}
use Rattle.surface.specs.Geometry.{Vector, six_volume, normal, minus}
use Rattle.geometry.specs.Values.{Bounded}
use Rattle.geometry.proofs.Bounds.{mul_bounded, add_bounded}
use Rattle.mesh.proofs.Polynomials.{Exp, var, num, plus, less, times, solve}
use Rattle.planes.specs.Exact.{Byte, Bytes}

-- twice the area of the triangle (a, a'), (b, b'), (c, c')
abbrev area : ℤ → ℤ → ℤ → ℤ → ℤ → ℤ → ℤ
area a a' b b' c c' = (b -ℤ a) *ℤ (c' -ℤ a') -ℤ (b' -ℤ a') *ℤ (c -ℤ a)

abbrev area_of : Exp → Exp → Exp → Exp → Exp → Exp → Exp
area_of a a' b b' c c' = less (times (less b a) (less c' a')) (times (less b' a') (less c a))

area_turned : (a a' b b' c c' : ℤ) → area a a' b b' c c' ≡ area b b' c c' a a'
area_turned a a' b b' c c' =
    solve (λ v. get_or (a ∷ a' ∷ b ∷ b' ∷ c ∷ c' ∷ []) v (pos 0)) (area_of (var 0) (var 1) (var 2) (var 3) (var 4) (var 5)) (area_of (var 2) (var 3) (var 4) (var 5) (var 0) (var 1)) refl

area_swapped : (a a' b b' c c' : ℤ) → area a a' b b' c c' ≡ negsuc 0 *ℤ area b b' a a' c c'
area_swapped a a' b b' c c' =
    solve (λ v. get_or (a ∷ a' ∷ b ∷ b' ∷ c ∷ c' ∷ []) v (pos 0)) (area_of (var 0) (var 1) (var 2) (var 3) (var 4) (var 5))
    (times (num (negsuc 0)) (area_of (var 2) (var 3) (var 0) (var 1) (var 4) (var 5))) refl

-- by the two gaps of the second coordinates, in order
area_gaps : (a b c a' s t : ℤ) → area a a' b (a' +ℤ s) c (a' +ℤ s +ℤ t) ≡ b *ℤ (s +ℤ t) -ℤ (a *ℤ t +ℤ c *ℤ s)
area_gaps a b c a' s t =
    solve (λ v. get_or (a ∷ b ∷ c ∷ a' ∷ s ∷ t ∷ []) v (pos 0))
    (area_of (var 0) (var 3) (var 1) (plus (var 3) (var 4)) (var 2) (plus (plus (var 3) (var 4)) (var 5)))
    (less (times (var 1) (plus (var 4) (var 5))) (plus (times (var 0) (var 5)) (times (var 2) (var 4)))) refl

between : (m p q : ℕ) → p ≤ m → q ≤ m → Bounded m (pos p -ℤ pos q)
between m p zero l k = omega arith
between m p (suc q) l k = grind arith

gaps_small : (a b c s t : ℕ) → a ≤ 255 → b ≤ 255 → c ≤ 255 → s + t ≤ 255 → Bounded 65025 (pos (b * (s + t)) -ℤ pos (a * t + c * s))
gaps_small a b c s t la lb lc l =
    let x = mul-le b (s + t) 255 (s + t) lb (omega arith) in
    let y = mul-le a t 255 t la (omega arith) in
    let z = mul-le c s 255 s lc (omega arith) in
    between 65025 (b * (s + t)) (a * t + c * s) (omega arith) (omega arith)

-- where the second coordinates rise from a to b to c
rising : (a a' b b' c c' : ℕ) → a ≤ 255 → b ≤ 255 → c ≤ 255 → c' ≤ 255 → a' ≤ b' → b' ≤ c' → Bounded 65025 (area (pos a) (pos a') (pos b) (pos b') (pos c) (pos c'))
rising a a' b b' c c' la lb lc l i j =
    let s = b' - a' in
    let t = c' - b' in
    let eb : a' + s ≡ b' = omega arith in
    let ec : a' + s + t ≡ c' = omega arith in
    subst (λ (y : ℕ). Bounded 65025 (area (pos a) (pos a') (pos b) (pos y) (pos c) (pos c'))) eb
    (subst (λ (z : ℕ). Bounded 65025 (area (pos a) (pos a') (pos b) (pos (a' + s)) (pos c) (pos z))) ec
    (subst (Bounded 65025) (sym (area_gaps (pos a) (pos b) (pos c) (pos a') (pos s) (pos t))) (gaps_small a b c s t la lb lc (omega arith))))

turned : (a a' b b' c c' : ℤ) → Bounded 65025 (area b b' c c' a a') → Bounded 65025 (area a a' b b' c c')
turned a a' b b' c c' h = subst (Bounded 65025) (sym (area_turned a a' b b' c c')) h

swapped : (a a' b b' c c' : ℤ) → Bounded 65025 (area b b' a a' c c') → Bounded 65025 (area a a' b b' c c')
swapped a a' b b' c c' h = subst (Bounded 65025) (sym (area_swapped a a' b b' c c')) (mul_bounded 1 65025 (negsuc 0) (area b b' a a' c c') (omega arith) h)

-- the triangle has no more than half of the square of 255 by 255
area_small : (a a' b b' c c' : ℕ) → a ≤ 255 → a' ≤ 255 → b ≤ 255 → b' ≤ 255 → c ≤ 255 → c' ≤ 255 → Bounded 65025 (area (pos a) (pos a') (pos b) (pos b') (pos c) (pos c'))
area_small a a' b b' c c' la la' lb lb' lc lc' = go (cases_lt b' a') (cases_lt c' b') (cases_lt c' a')
  where
    go : (b' < a') ⊎ (a' ≤ b') → (c' < b') ⊎ (b' ≤ c') → (c' < a') ⊎ (a' ≤ c') → Bounded 65025 (area (pos a) (pos a') (pos b) (pos b') (pos c) (pos c'))
    go (inr i) (inr j) k = rising a a' b b' c c' la lb lc lc' i j
    go (inr i) (inl j) (inr k) =
        turned (pos a) (pos a') (pos b) (pos b') (pos c) (pos c')
        (turned (pos b) (pos b') (pos c) (pos c') (pos a) (pos a') (swapped (pos c) (pos c') (pos a) (pos a') (pos b) (pos b') (rising a a' c c' b b' la lc lb lb' k (omega arith))))
    go (inr i) (inl j) (inl k) =
        turned (pos a) (pos a') (pos b) (pos b') (pos c) (pos c') (turned (pos b) (pos b') (pos c) (pos c') (pos a) (pos a') (rising c c' a a' b b' lc la lb lb' (omega arith) i))
    go (inl i) (inr j) (inr k) = swapped (pos a) (pos a') (pos b) (pos b') (pos c) (pos c') (rising b b' a a' c c' lb la lc lc' (omega arith) k)
    go (inl i) (inr j) (inl k) = turned (pos a) (pos a') (pos b) (pos b') (pos c) (pos c') (rising b b' c c' a a' lb lc la la' j (omega arith))
    go (inl i) (inl j) k =
        turned (pos a) (pos a') (pos b) (pos b') (pos c) (pos c') (swapped (pos b) (pos b') (pos c) (pos c') (pos a) (pos a') (rising c c' b b' a a' lc lb la la' (omega arith) (omega arith)))

minor_small : (a a' b b' c c' : ℤ) → Byte a → Byte a' → Byte b → Byte b' → Byte c → Byte c' → Bounded 65025 (area a a' b b' c c')
minor_small a a' b b' c c' (k, l, i) (k', l', i') (m, n, j) (m', n', j') (q, r, e) (q', r', e') = rw (i, i', j, j', e, e') (area_small k k' m m' q q' l l' n n' r r')

step_small : (p a : ℤ) → Byte p → Byte a → Bounded 255 (p -ℤ a)
step_small p a (k, l, i) (m, n, j) = rw (i, j) (between 255 k m l n)

pub volume_small : (a b c p : Vector) → Bytes a → Bytes b → Bytes c → Bytes p → Bounded 49744125 (six_volume a b c p)
volume_small a b c p (ax, ay, az) (bx, by, bz) (cx, cy, cz) (px, py, pz) =
    let n = normal a b c in
    let d = minus p a in
    let x : Bounded 16581375 (n.x *ℤ d.x) = mul_bounded 65025 255 n.x d.x (minor_small a.y a.z b.y b.z c.y c.z ay az by bz cy cz) (step_small p.x a.x px ax) in
    let y : Bounded 16581375 (n.y *ℤ d.y) = mul_bounded 65025 255 n.y d.y (minor_small a.z a.x b.z b.x c.z c.x az ax bz bx cz cx) (step_small p.y a.y py ay) in
    let z : Bounded 16581375 (n.z *ℤ d.z) = mul_bounded 65025 255 n.z d.z (minor_small a.x a.y b.x b.y c.x c.y ax ay bx by cx cy) (step_small p.z a.z pz az) in
    add_bounded 33162750 16581375 (n.x *ℤ d.x +ℤ n.y *ℤ d.y) (n.z *ℤ d.z) (add_bounded 16581375 16581375 (n.x *ℤ d.x) (n.y *ℤ d.y) x y) z
