-- Identities of integer polynomials, by reflection: two expressions with one normal form are equal at every values.
use Rattle.std.proofs.Common.{◌≡◌, ℕ, zero, suc, Bool, true, false, cond, T, ltb, List, [], ◌∷◌, ℤ, pos, negsuc, ◌+ℤ◌, ◌-ℤ◌, ◌*ℤ◌, neg_ℤ, sym, refl, ap, ◌∙◌, eqb→eq}
use Prim.Native.Nat.{compare, Ordering}
use lib.Dec.{compare_is_eq}
use lib.IntN.{suc_ℤ, pred_ℤ, +ℤ_idl, +ℤ_idr, +ℤ_assoc, +ℤ_comm, +ℤ_invl, +ℤ_invr, *ℤ_comm, *ℤ-one, one, zero-*ℤ, *ℤ-zero, suc_ℤ-*ℤ, pred_ℤ-*ℤ, suc_ℤ-+ℤ, pred_ℤ-+ℤ}

-- laws of sums and products
swap_last : (a b c : ℤ) → (a +ℤ b) +ℤ c ≡ (a +ℤ c) +ℤ b
swap_last a b c = +ℤ_assoc a b c ∙ ap (λ (x : ℤ). a +ℤ x) (+ℤ_comm b c) ∙ sym (+ℤ_assoc a c b)

add_mul_suc : (a b c : ℤ) → (a +ℤ b) *ℤ c ≡ a *ℤ c +ℤ b *ℤ c → (suc_ℤ a +ℤ b) *ℤ c ≡ suc_ℤ a *ℤ c +ℤ b *ℤ c
add_mul_suc a b c h =
    ap (λ (x : ℤ). x *ℤ c) (suc_ℤ-+ℤ a b) ∙ suc_ℤ-*ℤ (a +ℤ b) c ∙ ap (λ (x : ℤ). x +ℤ c) h ∙ swap_last (a *ℤ c) (b *ℤ c) c ∙ ap (λ (x : ℤ). x +ℤ b *ℤ c) (sym (suc_ℤ-*ℤ a c))

add_mul_pred : (a b c : ℤ) → (a +ℤ b) *ℤ c ≡ a *ℤ c +ℤ b *ℤ c → (pred_ℤ a +ℤ b) *ℤ c ≡ pred_ℤ a *ℤ c +ℤ b *ℤ c
add_mul_pred a b c h =
    ap (λ (x : ℤ). x *ℤ c) (pred_ℤ-+ℤ a b) ∙ pred_ℤ-*ℤ (a +ℤ b) c ∙ ap (λ (x : ℤ). x -ℤ c) h ∙ swap_last (a *ℤ c) (b *ℤ c) (neg_ℤ c) ∙ ap (λ (x : ℤ). x +ℤ b *ℤ c) (sym (pred_ℤ-*ℤ a c))

add_mul_zero : (b c : ℤ) → (pos zero +ℤ b) *ℤ c ≡ pos zero *ℤ c +ℤ b *ℤ c
add_mul_zero b c = ap (λ (x : ℤ). x *ℤ c) (+ℤ_idl b) ∙ sym (ap (λ (x : ℤ). x +ℤ b *ℤ c) (zero-*ℤ c) ∙ +ℤ_idl (b *ℤ c))

pub add_mul : (a b c : ℤ) → (a +ℤ b) *ℤ c ≡ a *ℤ c +ℤ b *ℤ c
add_mul (pos zero) b c = add_mul_zero b c
add_mul (pos (suc n)) b c = add_mul_suc (pos n) b c (add_mul (pos n) b c)
add_mul (negsuc zero) b c = add_mul_pred (pos zero) b c (add_mul_zero b c)
add_mul (negsuc (suc n)) b c = add_mul_pred (negsuc n) b c (add_mul (negsuc n) b c)

pub mul_add : (a b c : ℤ) → a *ℤ (b +ℤ c) ≡ a *ℤ b +ℤ a *ℤ c
mul_add a b c = *ℤ_comm a (b +ℤ c) ∙ add_mul b c a ∙ ap (λ (x : ℤ). x +ℤ c *ℤ a) (*ℤ_comm b a) ∙ ap (λ (x : ℤ). a *ℤ b +ℤ x) (*ℤ_comm c a)

-- what added to x gives 0 is its negative
neg_unique : (x y : ℤ) → y +ℤ x ≡ pos 0 → y ≡ neg_ℤ x
neg_unique x y h = sym (+ℤ_idr y) ∙ ap (λ (z : ℤ). y +ℤ z) (sym (+ℤ_invr x)) ∙ sym (+ℤ_assoc y x (neg_ℤ x)) ∙ ap (λ (z : ℤ). z +ℤ neg_ℤ x) h ∙ +ℤ_idl (neg_ℤ x)

pub neg_mul : (a b : ℤ) → neg_ℤ a *ℤ b ≡ neg_ℤ (a *ℤ b)
neg_mul a b = neg_unique (a *ℤ b) (neg_ℤ a *ℤ b) (sym (add_mul (neg_ℤ a) a b) ∙ ap (λ (x : ℤ). x *ℤ b) (+ℤ_invl a) ∙ zero-*ℤ b)

mul_assoc_suc : (a b c : ℤ) → (a *ℤ b) *ℤ c ≡ a *ℤ (b *ℤ c) → (suc_ℤ a *ℤ b) *ℤ c ≡ suc_ℤ a *ℤ (b *ℤ c)
mul_assoc_suc a b c h = ap (λ (x : ℤ). x *ℤ c) (suc_ℤ-*ℤ a b) ∙ add_mul (a *ℤ b) b c ∙ ap (λ (x : ℤ). x +ℤ b *ℤ c) h ∙ sym (suc_ℤ-*ℤ a (b *ℤ c))

mul_assoc_pred : (a b c : ℤ) → (a *ℤ b) *ℤ c ≡ a *ℤ (b *ℤ c) → (pred_ℤ a *ℤ b) *ℤ c ≡ pred_ℤ a *ℤ (b *ℤ c)
mul_assoc_pred a b c h =
    ap (λ (x : ℤ). x *ℤ c) (pred_ℤ-*ℤ a b) ∙ add_mul (a *ℤ b) (neg_ℤ b) c ∙ ap (λ (x : ℤ). x +ℤ neg_ℤ b *ℤ c) h ∙ ap (λ (x : ℤ). a *ℤ (b *ℤ c) +ℤ x) (neg_mul b c) ∙ sym (pred_ℤ-*ℤ a (b *ℤ c))

mul_assoc_zero : (b c : ℤ) → (pos zero *ℤ b) *ℤ c ≡ pos zero *ℤ (b *ℤ c)
mul_assoc_zero b c = ap (λ (x : ℤ). x *ℤ c) (zero-*ℤ b) ∙ zero-*ℤ c ∙ sym (zero-*ℤ (b *ℤ c))

pub mul_assoc : (a b c : ℤ) → (a *ℤ b) *ℤ c ≡ a *ℤ (b *ℤ c)
mul_assoc (pos zero) b c = mul_assoc_zero b c
mul_assoc (pos (suc n)) b c = mul_assoc_suc (pos n) b c (mul_assoc (pos n) b c)
mul_assoc (negsuc zero) b c = mul_assoc_pred (pos zero) b c (mul_assoc_zero b c)
mul_assoc (negsuc (suc n)) b c = mul_assoc_pred (negsuc n) b c (mul_assoc (negsuc n) b c)

mul_swap : (a b c : ℤ) → a *ℤ (b *ℤ c) ≡ b *ℤ (a *ℤ c)
mul_swap a b c = sym (mul_assoc a b c) ∙ ap (λ (x : ℤ). x *ℤ c) (*ℤ_comm a b) ∙ mul_assoc b a c

add_swap : (a b c : ℤ) → a +ℤ (b +ℤ c) ≡ b +ℤ (a +ℤ c)
add_swap a b c = sym (+ℤ_assoc a b c) ∙ ap (λ (x : ℤ). x +ℤ c) (+ℤ_comm a b) ∙ +ℤ_assoc b a c

-- expressions and normal forms
pub data Exp : Type 0 where
  var : ℕ → Exp
  num : ℤ → Exp
  plus : Exp → Exp → Exp
  less : Exp → Exp → Exp
  times : Exp → Exp → Exp

-- a term: a coefficient and the variables in order
pub record Term : Type 0 where
  pub of : ℤ
  pub vars : List ℕ

abbrev term : ℤ → List ℕ → Term
term c m = record { of = c; vars = m }

abbrev put : ℕ → List ℕ → List ℕ
put x [] = x ∷ []
put x (y ∷ m) = cond (ltb x y) (x ∷ y ∷ m) (y ∷ put x m)

abbrev both : List ℕ → List ℕ → List ℕ
both [] n = n
both (x ∷ m) n = put x (both m n)

-- by length and then by the first that differs
abbrev then : Ordering → Ordering → Ordering
then Ordering.lt o = Ordering.lt
then Ordering.eq o = o
then Ordering.gt o = Ordering.gt

abbrev order : List ℕ → List ℕ → Ordering
order [] [] = Ordering.eq
order [] (y ∷ n) = Ordering.lt
order (x ∷ m) [] = Ordering.gt
order (x ∷ m) (y ∷ n) = then (compare x y) (order m n)

abbrev zeroℤ : ℤ → Bool
zeroℤ (pos zero) = true
zeroℤ (pos (suc n)) = false
zeroℤ (negsuc n) = false

abbrev keep : Term → List Term → List Term
keep t p = cond (zeroℤ t.of) p (t ∷ p)

abbrev place : Ordering → Term → Term → List Term → List Term → List Term
place Ordering.lt t u p q = t ∷ u ∷ p
place Ordering.eq t u p q = keep (term (t.of +ℤ u.of) u.vars) p
place Ordering.gt t u p q = u ∷ q

abbrev add_t : Term → List Term → List Term
add_t t [] = keep t []
add_t t (u ∷ p) = place (order t.vars u.vars) t u p (add_t t p)

abbrev add_p : List Term → List Term → List Term
add_p [] q = q
add_p (t ∷ p) q = add_t t (add_p p q)

abbrev mul_t : Term → List Term → List Term
mul_t t [] = []
mul_t t (u ∷ p) = add_t (term (t.of *ℤ u.of) (both t.vars u.vars)) (mul_t t p)

abbrev mul_p : List Term → List Term → List Term
mul_p [] q = []
mul_p (t ∷ p) q = add_p (mul_t t q) (mul_p p q)

abbrev pub norm : Exp → List Term
norm (var x) = term (pos 1) (x ∷ []) ∷ []
norm (num c) = keep (term c []) []
norm (plus a b) = add_p (norm a) (norm b)
norm (less a b) = add_p (norm a) (mul_t (term (negsuc 0) []) (norm b))
norm (times a b) = mul_p (norm a) (norm b)

-- values
module _ (ρ : ℕ → ℤ) where
  abbrev pub value : Exp → ℤ
  value (var x) = ρ x
  value (num c) = c
  value (plus a b) = value a +ℤ value b
  value (less a b) = value a -ℤ value b
  value (times a b) = value a *ℤ value b

  abbrev value_m : List ℕ → ℤ
  value_m [] = pos 1
  value_m (x ∷ m) = ρ x *ℤ value_m m

  abbrev value_t : Term → ℤ
  value_t t = t.of *ℤ value_m t.vars

  abbrev value_p : List Term → ℤ
  value_p [] = pos 0
  value_p (t ∷ p) = value_t t +ℤ value_p p

  put_value : (x : ℕ) (m : List ℕ) → value_m (put x m) ≡ ρ x *ℤ value_m m
  put_value x [] = refl
  put_value x (y ∷ m) =
      elim (ltb x y) as (λ b. value_m (cond b (x ∷ y ∷ m) (y ∷ put x m)) ≡ ρ x *ℤ (ρ y *ℤ value_m m))
      [ true ↦ refl | false ↦ ap (λ (z : ℤ). ρ y *ℤ z) (put_value x m) ∙ mul_swap (ρ y) (ρ x) (value_m m) ]

  one_mul : (a : ℤ) → pos 1 *ℤ a ≡ a
  unfolding one
  one_mul a = *ℤ_comm (pos 1) a ∙ *ℤ-one a

  both_value : (m n : List ℕ) → value_m (both m n) ≡ value_m m *ℤ value_m n
  both_value [] n = sym (one_mul (value_m n))
  both_value (x ∷ m) n = put_value x (both m n) ∙ ap (λ (z : ℤ). ρ x *ℤ z) (both_value m n) ∙ sym (mul_assoc (ρ x) (value_m m) (value_m n))

  keep_cases : (c : ℤ) (m : List ℕ) (p : List Term) → value_p (keep (term c m) p) ≡ c *ℤ value_m m +ℤ value_p p
  keep_cases (pos zero) m p = sym (ap (λ (z : ℤ). z +ℤ value_p p) (zero-*ℤ (value_m m)) ∙ +ℤ_idl (value_p p))
  keep_cases (pos (suc n)) m p = refl
  keep_cases (negsuc n) m p = refl

  then_left : (o p : Ordering) → T (compare_is_eq (then o p)) → T (compare_is_eq o)
  then_left Ordering.lt p t = t
  then_left Ordering.eq p t = tt
  then_left Ordering.gt p t = t

  then_right : (o p : Ordering) → T (compare_is_eq (then o p)) → T (compare_is_eq p)
  then_right Ordering.lt p t = absurd t
  then_right Ordering.eq p t = t
  then_right Ordering.gt p t = absurd t

  equal : (m n : List ℕ) → T (compare_is_eq (order m n)) → m ≡ n
  equal [] [] h = refl
  equal [] (y ∷ n) h = absurd h
  equal (x ∷ m) [] h = absurd h
  equal (x ∷ m) (y ∷ n) h =
      let e = eqb→eq x y (then_left (compare x y) (order m n) h) in
      let f = equal m n (then_right (compare x y) (order m n) h) in
      cc

  place_value : (o : Ordering) (t u : Term) (p q : List Term) → (T (compare_is_eq o) → t.vars ≡ u.vars) → value_p q ≡ value_t t +ℤ value_p p → value_p (place o t u p q) ≡ value_t t +ℤ (value_t u +ℤ value_p p)
  place_value Ordering.lt t u p q h e = refl
  place_value Ordering.eq t u p q h e =
      keep_cases (t.of +ℤ u.of) u.vars p
      ∙ ap (λ (z : ℤ). z +ℤ value_p p) (add_mul t.of u.of (value_m u.vars) ∙ ap (λ (m : List ℕ). t.of *ℤ value_m m +ℤ value_t u) (sym (h tt)))
      ∙ +ℤ_assoc (value_t t) (value_t u) (value_p p)
  place_value Ordering.gt t u p q h e = ap (λ (z : ℤ). value_t u +ℤ z) e ∙ add_swap (value_t u) (value_t t) (value_p p)

  add_t_value : (t : Term) (p : List Term) → value_p (add_t t p) ≡ value_t t +ℤ value_p p
  add_t_value t [] = keep_cases t.of t.vars []
  add_t_value t (u ∷ p) = place_value (order t.vars u.vars) t u p (add_t t p) (equal t.vars u.vars) (add_t_value t p)

  add_p_value : (p q : List Term) → value_p (add_p p q) ≡ value_p p +ℤ value_p q
  add_p_value [] q = sym (+ℤ_idl (value_p q))
  add_p_value (t ∷ p) q = add_t_value t (add_p p q) ∙ ap (λ (z : ℤ). value_t t +ℤ z) (add_p_value p q) ∙ sym (+ℤ_assoc (value_t t) (value_p p) (value_p q))

  four : (a b c d : ℤ) → (a *ℤ b) *ℤ (c *ℤ d) ≡ (a *ℤ c) *ℤ (b *ℤ d)
  four a b c d = mul_assoc a b (c *ℤ d) ∙ ap (λ (z : ℤ). a *ℤ z) (mul_swap b c d) ∙ sym (mul_assoc a c (b *ℤ d))

  mul_t_value : (t : Term) (p : List Term) → value_p (mul_t t p) ≡ value_t t *ℤ value_p p
  mul_t_value t [] = sym (*ℤ-zero (value_t t))
  mul_t_value t (u ∷ p) =
      add_t_value (term (t.of *ℤ u.of) (both t.vars u.vars)) (mul_t t p)
      ∙ ap (λ (z : ℤ). (t.of *ℤ u.of) *ℤ z +ℤ value_p (mul_t t p)) (both_value t.vars u.vars)
      ∙ ap (λ (z : ℤ). z +ℤ value_p (mul_t t p)) (four t.of u.of (value_m t.vars) (value_m u.vars))
      ∙ ap (λ (z : ℤ). value_t t *ℤ value_t u +ℤ z) (mul_t_value t p)
      ∙ sym (mul_add (value_t t) (value_t u) (value_p p))

  mul_p_value : (p q : List Term) → value_p (mul_p p q) ≡ value_p p *ℤ value_p q
  mul_p_value [] q = sym (zero-*ℤ (value_p q))
  mul_p_value (t ∷ p) q =
      add_p_value (mul_t t q) (mul_p p q) ∙ ap (λ (z : ℤ). z +ℤ value_p (mul_p p q)) (mul_t_value t q) ∙ ap (λ (z : ℤ). value_t t *ℤ value_p q +ℤ z) (mul_p_value p q) ∙ sym (add_mul (value_t t) (value_p p) (value_p q))

  minus_one : (a : ℤ) → (negsuc 0 *ℤ pos 1) *ℤ a ≡ neg_ℤ a
  minus_one a = neg_mul (pos 1) a ∙ ap neg_ℤ (one_mul a)

  norm_value : (e : Exp) → value_p (norm e) ≡ value e
  norm_value (var x) = +ℤ_idr (pos 1 *ℤ (ρ x *ℤ pos 1)) ∙ one_mul (ρ x *ℤ pos 1) ∙ *ℤ_comm (ρ x) (pos 1) ∙ one_mul (ρ x)
  norm_value (num c) = keep_cases c [] [] ∙ +ℤ_idr (c *ℤ pos 1) ∙ *ℤ_comm c (pos 1) ∙ one_mul c
  norm_value (plus a b) = add_p_value (norm a) (norm b) ∙ ap (λ (z : ℤ). z +ℤ value_p (norm b)) (norm_value a) ∙ ap (λ (z : ℤ). value a +ℤ z) (norm_value b)
  norm_value (less a b) =
      add_p_value (norm a) (mul_t (term (negsuc 0) []) (norm b)) ∙ ap (λ (z : ℤ). z +ℤ value_p (mul_t (term (negsuc 0) []) (norm b))) (norm_value a)
      ∙ ap (λ (z : ℤ). value a +ℤ z) (mul_t_value (term (negsuc 0) []) (norm b) ∙ minus_one (value_p (norm b)) ∙ ap neg_ℤ (norm_value b))
  norm_value (times a b) = mul_p_value (norm a) (norm b) ∙ ap (λ (z : ℤ). z *ℤ value_p (norm b)) (norm_value a) ∙ ap (λ (z : ℤ). value a *ℤ z) (norm_value b)

  -- two expressions with one normal form have one value: write the two sides, and `refl`
  pub solve : (e f : Exp) → norm e ≡ norm f → value e ≡ value f
  solve e f h = sym (norm_value e) ∙ ap value_p h ∙ norm_value f
