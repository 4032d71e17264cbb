-- Tests for a closed outcome of a collapse, by the neighbours of its two vertices.
use Rattle.std.proofs.Common.{◌≡◌, ℕ, ◌<◌, ◌≤◌, Bool, true, not, ◌&&◌, ◌||◌, eqb, leb, ◌⊎◌, [], ◌∷◌, get_or, sym, inl, inr, ⊎_elim, arith}
use Rattle.std.proofs.lemmas.Bool.{eqb-true, eqb-false, leb-true, or_cases, and_parts, and_from, not-true}
use Rattle.surface.specs.Surface.{Surface, next, Tri, Side, Within}
use Rattle.surface.specs.Closed.{Closed}
use Rattle.surface.specs.Collapse.{collapse}
use Rattle.surface.specs.Euler.{count}
use Rattle.surface.specs.Permitted.{HasThree, Link}
use Rattle.surface.proofs.Counting.{full_count}
use Rattle.surface.proofs.LocalTest.{local_test}
use Rattle.surface.proofs.Tris.{spin}
use Rattle.examples.proofs.Every.{every, every_at, if_so}
use Rattle.examples.proofs.Sided.{sided, side_told, told_side}

-- v has four neighbours or more
unfoldable pub four : Surface → ℕ → ℕ → ℕ → Bool
four S T V v = leb 4 (count (sided S T v) V)

-- the common neighbours of u and w are a and b, and one of u and w has four neighbours or more
unfoldable pub links : Surface → ℕ → ℕ → ℕ → ℕ → ℕ → ℕ → Bool
links S T V u w a b = every (λ c. not (sided S T u c && sided S T w c) || (eqb c a || eqb c b)) V && (four S T V u || four S T V w)

-- c is a common neighbour of u and w beside a and b
unfoldable pub shares : Surface → ℕ → ℕ → ℕ → ℕ → ℕ → ℕ → Bool
shares S T u w a b c = (sided S T u c && sided S T w c) && (not (eqb c a) && not (eqb c b))

-- x, y and z are the neighbours of v
unfoldable pub threes : Surface → ℕ → ℕ → ℕ → ℕ → ℕ → ℕ → Bool
threes S T V v x y z =
    (sided S T v x && (sided S T v y && sided S T v z))
    && ((not (eqb x y) && (not (eqb y z) && not (eqb z x))) && every (λ n. not (sided S T v n) || (eqb n x || (eqb n y || eqb n z))) V)

module _ (S : Surface) (C : Closed S) (T V : ℕ) (W : Within S T V) where
  end_low : (v n : ℕ) → Side S v n → n < V
  end_low v n (h, c, t) = W.vertices n (C.known (next h) n c v (spin t))

  -- what passes a test that all neighbours pass
  around : (v : ℕ) (f : ℕ → Bool) → every (λ n. not (sided S T v n) || f n) V ≡ true → (n : ℕ) → Side S v n → f n ≡ true
  around v f p n e = if_so _ _ (every_at (λ n. not (sided S T v n) || f n) V p n (end_low v n e)) (side_told S T V W v n e)

  four_no_three : (v : ℕ) → four S T V v ≡ true → HasThree S v → ⊥
  unfolding four
  four_no_three v p (x, y, z, t) =
      let q : 4 ≤ count (sided S T v) V = leb-true 4 _ p in
      let r : count (sided S T v) V ≤ 3 = full_count (sided S T v) V (x ∷ y ∷ z ∷ []) (λ n l i. place n (t.only n (told_side S T v n i))) in
      omega arith
    where
      place : (n : ℕ) → (n ≡ x) ⊎ ((n ≡ y) ⊎ (n ≡ z)) → (i : ℕ) × (i < 3) × (get_or (x ∷ y ∷ z ∷ []) i 0 ≡ n)
      place n (inl i) = (0, omega arith, sym i)
      place n (inr (inl i)) = (1, omega arith, sym i)
      place n (inr (inr i)) = (2, omega arith, sym i)

  linked : (u w a b : ℕ) → links S T V u w a b ≡ true → Link S u w a b
  unfolding links
  linked u w a b p =
      let (q, r) = and_parts _ _ p in
      record {
        common = λ c i j. ⊎_elim (λ e. inl (eqb-true c a e)) (λ e. inr (eqb-true c b e)) (or_cases _ _ (if_so _ _
            (every_at (λ c. not (sided S T u c && sided S T w c) || (eqb c a || eqb c b)) V q c (end_low u c i))
            (and_from _ _ (side_told S T V W u c i) (side_told S T V W w c j))));
        large = λ i j. ⊎_elim (λ e. four_no_three u e i) (λ e. four_no_three w e j) (or_cases _ _ r);
      }

  has_three : (v x y z : ℕ) → threes S T V v x y z ≡ true → HasThree S v
  unfolding threes
  has_three v x y z p =
      let (q, r) = and_parts _ _ p in
      let (a, q1) = and_parts _ _ q in
      let (b, c) = and_parts _ _ q1 in
      let (d, o) = and_parts _ _ r in
      let (d1, d2) = and_parts _ _ d in
      let (d3, d4) = and_parts _ _ d2 in (
        x,
        y,
        z,
        record {
          first = told_side S T v x a;
          second = told_side S T v y b;
          third = told_side S T v z c;
          apart = (eqb-false x y (not-true _ d1), eqb-false y z (not-true _ d3), eqb-false z x (not-true _ d4));
          only = λ n e. among n (or_cases _ _ (around v (λ n. eqb n x || (eqb n y || eqb n z)) o n e));
        },
      )
    where
      among : (n : ℕ) → (eqb n x ≡ true) ⊎ ((eqb n y || eqb n z) ≡ true) → (n ≡ x) ⊎ ((n ≡ y) ⊎ (n ≡ z))
      among n (inl i) = inl (eqb-true n x i)
      among n (inr i) = inr (⊎_elim (λ e. inl (eqb-true n y e)) (λ e. inr (eqb-true n z e)) (or_cases _ _ i))

  module _ {e f u w a b : ℕ} (te : Tri S e u w a) (tf : Tri S f w u b) where
    pub closes : links S T V u w a b ≡ true → Closed (collapse S u w)
    closes p = (local_test S C e f u w a b te tf).1 (linked u w a b p)

    pub shared : (c : ℕ) → shares S T u w a b c ≡ true → Closed (collapse S u w) → ⊥
    unfolding shares
    shared c p D =
        let (q, r) = and_parts _ _ p in
        let (i, j) = and_parts _ _ q in
        let (k, l) = and_parts _ _ r in
        ⊎_elim (eqb-false c a (not-true _ k)) (eqb-false c b (not-true _ l))
        (((local_test S C e f u w a b te tf).0 D).common c (told_side S T u c i) (told_side S T w c j))

    pub both_three : threes S T V u w a b ≡ true → threes S T V w u a b ≡ true → Closed (collapse S u w) → ⊥
    both_three p q D = ((local_test S C e f u w a b te tf).0 D).large (has_three u w a b p) (has_three w u a b q)
