-- Lists with one entry written.
use Rattle.std.proofs.Common.{◌≡◌, ℕ, zero, suc, ◌<◌, Bool, true, false, cond, not, ◌&&◌, ◌||◌, eqb, List, [], ◌∷◌, length, get_or, set, sym, refl, ap, ◌∙◌, arith, length-set}
use native.Mathlib.Decide.{ℕ_discrete}
use Rattle.std.proofs.lemmas.List.{get_or-set_same, get_or-set_other}
use Rattle.std.proofs.lemmas.Bool.{both_ways, eq-eqb, ne_eqb}
use Rattle.mesh.proofs.Links.{put, lay, put_hit, put_miss}

pub put_set : (l : List ℕ) (k x h : ℕ) → k < length l → get_or (set l k x) h 0 ≡ put (λ i. get_or l i 0) k x h
put_set l k x h p = go (ℕ_discrete h k)
  where
    go : Dec (h ≡ k) → get_or (set l k x) h 0 ≡ put (λ i. get_or l i 0) k x h
    go (yes i) = ap (λ y. get_or (set l k x) y 0) i ∙ get_or-set_same l k x 0 p ∙ sym (put_hit (λ i. get_or l i 0) k x h i)
    go (no i) = get_or-set_other l k h x 0 i ∙ sym (put_miss (λ i. get_or l i 0) k x h i)

-- what is true in a list of flags is in the list
pub true_low : (l : List Bool) (i : ℕ) → get_or l i false ≡ true → i < length l
true_low [] i p = absurd (both_ways false refl p)
true_low (x ∷ l) zero p = omega arith
true_low (x ∷ l) (suc i) p = let r = true_low l i p in omega arith

-- a flag cleared, and one set
pub cleared : (l : List Bool) (k i : ℕ) → k < length l → get_or (set l k false) i false ≡ (get_or l i false && not (eqb i k))
cleared l k i p = go (ℕ_discrete i k)
  where
    with_true : (b : Bool) → b ≡ (b && not false)
    with_true true = refl
    with_true false = refl

    with_false : (b : Bool) → false ≡ (b && not true)
    with_false true = refl
    with_false false = refl

    go : Dec (i ≡ k) → get_or (set l k false) i false ≡ (get_or l i false && not (eqb i k))
    go (yes j) = ap (λ y. get_or (set l k false) y false) j ∙ get_or-set_same l k false false p ∙ with_false (get_or l i false) ∙ ap (λ b. get_or l i false && not b) (sym (eq-eqb i k j))
    go (no j) = get_or-set_other l k i false false j ∙ with_true (get_or l i false) ∙ ap (λ b. get_or l i false && not b) (sym (ne_eqb i k j))

pub raised : (l : List Bool) (k i : ℕ) → k < length l → get_or (set l k true) i false ≡ (get_or l i false || eqb i k)
raised l k i p = go (ℕ_discrete i k)
  where
    with_false : (b : Bool) → b ≡ (b || false)
    with_false true = refl
    with_false false = refl

    with_true : (b : Bool) → true ≡ (b || true)
    with_true true = refl
    with_true false = refl

    go : Dec (i ≡ k) → get_or (set l k true) i false ≡ (get_or l i false || eqb i k)
    go (yes j) = ap (λ y. get_or (set l k true) y false) j ∙ get_or-set_same l k true false p ∙ with_true (get_or l i false) ∙ ap (λ b. get_or l i false || b) (sym (eq-eqb i k j))
    go (no j) = get_or-set_other l k i true false j ∙ with_false (get_or l i false) ∙ ap (λ b. get_or l i false || b) (sym (ne_eqb i k j))

pub clear_both : (x p q : Bool) → ((x && not p) && not q) ≡ (x && not (p || q))
clear_both true true q = refl
clear_both true false q = refl
clear_both false p q = refl

pub raise_both : (x p q : Bool) → ((x || p) || q) ≡ (x || (p || q))
raise_both true p q = refl
raise_both false p q = refl

put_same : (o q : ℕ → ℕ) (k x h : ℕ) → o h ≡ q h → put o k x h ≡ put q k x h
unfolding put
put_same o q k x h p = ap (λ y. cond (eqb h k) x y) p

-- four entries written
pub lay_set : (l : List ℕ) (A x B y C z D t h : ℕ) → A < length l → B < length l → C < length l → D < length l →
    get_or (set (set (set (set l A x) B y) C z) D t) h 0 ≡ lay (λ i. get_or l i 0) A x B y C z D t h
unfolding lay
lay_set l A x B y C z D t h p q r s =
    let l₁ : List ℕ = set l A x in
    let l₂ : List ℕ = set l₁ B y in
    let l₃ : List ℕ = set l₂ C z in
    let n₁ : length l₁ ≡ length l = length-set l A x in
    let n₂ : length l₂ ≡ length l = length-set l₁ B y ∙ n₁ in
    let n₃ : length l₃ ≡ length l = length-set l₂ C z ∙ n₂ in
    put_set l₃ D t h (omega arith)
    ∙ put_same _ _ D t h (put_set l₂ C z h (omega arith) ∙ put_same _ _ C z h (put_set l₁ B y h (omega arith) ∙ put_same _ _ B y h (put_set l A x h p)))
