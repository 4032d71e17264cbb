-- Zero normals, by the corners of a triangle.
use Rattle.std.proofs.Common.{◌≡◌, ℕ, zero, suc, ◌+◌, ◌*◌, ◌/◌, ◌<◌, ◌≤◌, List, [], length, get_or, drop, Some, None, Option, MatchOption, sym, ap, ◌∙◌, subst, arith}
use Rattle.std.proofs.lemmas.List.{get_or-take, get_or-drop, length-drop}
use Rattle.std.specs.List.{AllWithin, HoldsAt}
use Rattle.std.specs.Simd.{first_chunks}
use Rattle.surface.specs.Geometry.{normal, null}
use Rattle.surface.specs.Read.{read}
use Rattle.gathering.specs.Model.{point_of, surface_of}
use Rattle.judging.specs.Flaws.{Lowest, Flat}
use Rattle.judging.specs.Verdict.{NoneFlat}
use Rattle.geometry.specs.declared.Position.{Position}
use Rattle.judging.proofs.Whole.{whole_alive, alive_below}

module _ (ps : List Position) (cs : List ℕ) (t : ℕ) where
  pub flat_from : t < length cs / 3 →
      normal (point_of ps (get_or cs (3 * t) 0)) (point_of ps (get_or cs (3 * t + 1) 0)) (point_of ps (get_or cs (3 * t + 2) 0)) ≡ null →
      Flat (surface_of ps cs) (point_of ps) t
  unfolding read
  flat_from l e = (whole_alive cs (length ps) t l, e)

  pub flat_normal : Flat (surface_of ps cs) (point_of ps) t →
      normal (point_of ps (get_or cs (3 * t) 0)) (point_of ps (get_or cs (3 * t + 1) 0)) (point_of ps (get_or cs (3 * t + 2) 0)) ≡ null
  unfolding read
  flat_normal f = f.1

  pub flat_below : Flat (surface_of ps cs) (point_of ps) t → t < length cs / 3
  flat_below f = alive_below cs (length ps) t f.0

-- the corners of a triangle, in the list of the triangles
pub chunk_at : (cs : List ℕ) (k t j : ℕ) → t < k → 3 * k ≤ length cs → j < 3 → get_or (get_or (first_chunks 3 k cs) t []) j 0 ≡ get_or cs (3 * t + j) 0
chunk_at cs zero t j l m i = absurd (omega arith)
chunk_at cs (suc k) zero j l m i = get_or-take 3 cs j 0 i ∙ ap (λ (h : ℕ). get_or cs h 0) (omega arith)
chunk_at cs (suc k) (suc t) j l m i =
    chunk_at (drop 3 cs) k t j (omega arith) (omega (arith, length-drop 3 cs)) i ∙ get_or-drop 3 cs (3 * t + j) 0 ∙ ap (λ (h : ℕ). get_or cs h 0) (omega arith)

module _ (cs : List ℕ) (triangles : List (List ℕ)) (e : triangles ≡ first_chunks 3 (length cs / 3) cs) (t : ℕ) (l : t < length cs / 3) where
  corner : (j : ℕ) → j < 3 → get_or (get_or triangles t []) j 0 ≡ get_or cs (3 * t + j) 0
  corner j i = ap (λ (ts : List (List ℕ)). get_or (get_or ts t []) j 0) e ∙ chunk_at cs (length cs / 3) t j l (omega arith) i

  pub corner_a : get_or (get_or triangles t []) 0 0 ≡ get_or cs (3 * t) 0
  corner_a = corner 0 (omega arith) ∙ ap (λ (h : ℕ). get_or cs h 0) (omega arith)

  pub corner_b : get_or (get_or triangles t []) 1 0 ≡ get_or cs (3 * t + 1) 0
  corner_b = corner 1 (omega arith)

  pub corner_c : get_or (get_or triangles t []) 2 0 ≡ get_or cs (3 * t + 2) 0
  corner_c = corner 2 (omega arith)

  pub by_chunk : (P : ℕ → ℕ → ℕ → Type 0) → P (get_or cs (3 * t) 0) (get_or cs (3 * t + 1) 0) (get_or cs (3 * t + 2) 0) →
      P (get_or (get_or triangles t []) 0 0) (get_or (get_or triangles t []) 1 0) (get_or (get_or triangles t []) 2 0)
  by_chunk P p =
      subst (λ (x : ℕ). P x (get_or (get_or triangles t []) 1 0) (get_or (get_or triangles t []) 2 0)) (sym corner_a)
      (subst (λ (y : ℕ). P (get_or cs (3 * t) 0) y (get_or (get_or triangles t []) 2 0)) (sym corner_b)
      (subst (λ (z : ℕ). P (get_or cs (3 * t) 0) (get_or cs (3 * t + 1) 0) z) (sym corner_c) p))

  pub by_corner : (P : ℕ → ℕ → ℕ → Type 0) → P (get_or (get_or triangles t []) 0 0) (get_or (get_or triangles t []) 1 0) (get_or (get_or triangles t []) 2 0) →
      P (get_or cs (3 * t) 0) (get_or cs (3 * t + 1) 0) (get_or cs (3 * t + 2) 0)
  by_corner P p =
      subst (λ (x : ℕ). P x (get_or cs (3 * t + 1) 0) (get_or cs (3 * t + 2) 0)) corner_a
      (subst (λ (y : ℕ). P (get_or (get_or triangles t []) 0 0) y (get_or cs (3 * t + 2) 0)) corner_b
      (subst (λ (z : ℕ). P (get_or (get_or triangles t []) 0 0) (get_or (get_or triangles t []) 1 0) z) corner_c p))

-- the normal at the corners of one triangle is zero, or is not
abbrev pub Null : List Position → ℕ → ℕ → ℕ → Type 0
Null ps x y z = normal (point_of ps x) (point_of ps y) (point_of ps z) ≡ null

abbrev pub NullAt : List Position → List ℕ → Type 0
NullAt ps corners = Null ps (get_or corners 0 0) (get_or corners 1 0) (get_or corners 2 0)

abbrev pub NotNullAt : List Position → List ℕ → Type 0
NotNullAt ps corners = NullAt ps corners → ⊥

module _ (ps : List Position) (cs : List ℕ) (ts : List (List ℕ)) (e : ts ≡ first_chunks 3 (length cs / 3) cs) (long : length ts ≡ length cs / 3) where
  null_at : (t : ℕ) → Flat (surface_of ps cs) (point_of ps) t → NullAt ps (get_or ts t [])
  null_at t f = by_chunk cs ts e t (flat_below ps cs t f) (Null ps) (flat_normal ps cs t f)

  -- the first triangle with a zero normal, if there is one
  pub flat_told : (r : Option ℕ) → MatchOption r (AllWithin (NotNullAt ps) ts 0 (length ts)) (λ i. (i < length ts) × HoldsAt (NullAt ps) ts i × AllWithin (NotNullAt ps) ts 0 i) →
      MatchOption r (NoneFlat (surface_of ps cs) (point_of ps)) (λ t. Lowest (Flat (surface_of ps cs) (point_of ps)) t)
  flat_told None F = λ t f. let l : t < length cs / 3 = flat_below ps cs t f in F t [] (omega arith) (omega arith) (null_at t f)
  flat_told (Some t) (l, h, F) =
      let m : t < length cs / 3 = omega arith in
      record { here = flat_from ps cs t m (by_corner cs ts e t m (Null ps) (h [])); below = λ u k f. F u [] (omega arith) k (null_at u f) }
