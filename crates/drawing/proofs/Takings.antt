-- Points and triangles gathered one after the other.
use Rattle.std.proofs.Common.{◌≡◌, ℕ, zero, suc, ◌+◌, ◌*◌, ◌<◌, ◌≤◌, List, [], ◌∷◌, ◌++◌, length, get_or, Err, sym, refl, ap, ◌∙◌, subst, inl, inr, eq-or-lt_of_le, arith, length-append}
use Rattle.std.proofs.lemmas.List.{get_or_append_left, get_or-append-add, get_or_push, get_or_default}
use Rattle.geometry.specs.declared.Position.{Position}
use Rattle.gathering.specs.Model.{positions, corners}
use Rattle.gathering.specs.Gathered.{AddedVertex, AddedTriangle}
use Rattle.gathering.specs.declared.gathering.Gathering.{Gathering}
use Rattle.gathering.specs.declared.refusal.VertexRefusal.{VertexRefusal}
use Rattle.gathering.specs.declared.refusal.VertexRefusal.TheVariants.{TooManyVertices, CoordinateAbove255}
use Rattle.gathering.specs.declared.refusal.TriangleRefusal.{TriangleRefusal}
use Rattle.gathering.specs.declared.refusal.TriangleRefusal.TheVariants.{TooManyTriangles, UnknownCorner, EqualCorners}
use Rattle.drawing.specs.Points.{Quarter, Placed}
use Rattle.drawing.specs.Drawn.{position_at}
use Rattle.drawing.specs.Back.{PointsTaken, TrianglesTaken, PointsFit, TrianglesFit}
use Rattle.drawing.specs.declared.point.Point.{Point}

module _ (ps : List Point) where
  pub points_none : (qs : List Position) → qs ≡ [] → PointsTaken ps 0 qs
  points_none qs e = record { many = ap length e; are = λ i p q l P. absurd (omega arith) }

  -- x, y and z are what point n has in quarters
  module _ (n : ℕ) (l : n < length ps) (d : Point) (x y z : ℕ)
      (px : (k : ℕ) → Quarter k (get_or ps n d).x → x ≡ k) (py : (k : ℕ) → Quarter k (get_or ps n d).y → y ≡ k) (pz : (k : ℕ) → Quarter k (get_or ps n d).z → z ≡ k) where
    pub points_more : (qs qs' : List Position) → PointsTaken ps n qs → qs' ≡ qs ++ record { x = x; y = y; z = z } ∷ [] → PointsTaken ps (n + 1) qs'
    points_more qs qs' T e = rw e (record { many = length-append qs _ ∙ (let m = T.many in omega arith); are = are })
      where
        new : Position
        new = record { x = x; y = y; z = z }

        are : (i : ℕ) (p : Point) (q : Position) → i < n + 1 → Placed q (get_or ps i p) → position_at (qs ++ record { x = x; y = y; z = z } ∷ []) i ≡ q
        are i p q k P =
            let le : i ≤ n = omega arith in
            elim (eq-or-lt_of_le le) [
              | inl j ↦
                  let R : Placed q (get_or ps n d) = subst (Placed q) (get_or_default ps n p d l) (subst (λ (a : ℕ). Placed q (get_or ps a p)) j P) in
                  let a = px q.x R.x_quarter in
                  let b = py q.y R.y_quarter in
                  let c = pz q.z R.z_quarter in
                  get_or_push qs _ _ i (T.many ∙ sym j) ∙ (λ t. record { x = a t; y = b t; z = c t })
              | inr j ↦ get_or_append_left qs _ _ i (let m = T.many in omega arith) ∙ T.are i p q j P
            ]

    pub points_refused : (g h : Gathering) (e : VertexRefusal) → AddedVertex g x y z (Err e) h → PointsTaken ps n (positions g) → PointsFit ps → ⊥
    points_refused g h TooManyVertices (full, _) T F = omega (arith, F.few, T.many)
    points_refused g h CoordinateAbove255 (_, far, _) T F =
        let (q, R) = F.each n d l in
        let a = px q.x R.x_quarter in
        let b = py q.y R.y_quarter in
        let c = pz q.z R.z_quarter in
        omega (arith, far, R.x_quarter.low, R.y_quarter.low, R.z_quarter.low)

module _ (ts : List (List ℕ)) where
  pub triangles_none : (cs : List ℕ) → cs ≡ [] → TrianglesTaken ts 0 cs
  triangles_none cs e = record { many = ap length e; are = λ t k l i. absurd (omega arith) }

  -- e is triangle n
  module _ (n : ℕ) (l : n < length ts) (e : List ℕ) (is : e ≡ get_or ts n []) where
    pub triangles_more : (cs cs' : List ℕ) → TrianglesTaken ts n cs → cs' ≡ cs ++ get_or e 0 0 ∷ get_or e 1 0 ∷ get_or e 2 0 ∷ [] → TrianglesTaken ts (n + 1) cs'
    triangles_more cs cs' T w = rw w (record { many = length-append cs _ ∙ (let m = T.many in omega arith); are = are })
      where
        three : (k : ℕ) → k < 3 → get_or (get_or e 0 0 ∷ get_or e 1 0 ∷ get_or e 2 0 ∷ []) k 0 ≡ get_or e k 0
        three zero i = refl
        three (suc zero) i = refl
        three (suc (suc zero)) i = refl
        three (suc (suc (suc k))) i = absurd (omega arith)

        are : (t k : ℕ) → t < n + 1 → k < 3 → get_or (cs ++ get_or e 0 0 ∷ get_or e 1 0 ∷ get_or e 2 0 ∷ []) (3 * t + k) 0 ≡ get_or (get_or ts t []) k 0
        are t k i j =
            let le : t ≤ n = omega arith in
            elim (eq-or-lt_of_le le) [
              | inl a ↦
                  let b : 3 * t + k ≡ length cs + k = (let m = T.many in omega arith) in
                  ap (λ (x : ℕ). get_or (cs ++ get_or e 0 0 ∷ get_or e 1 0 ∷ get_or e 2 0 ∷ []) x 0) b ∙ get_or-append-add cs _ k 0 ∙ three k j
                  ∙ ap (λ (x : List ℕ). get_or x k 0) is ∙ ap (λ (x : ℕ). get_or (get_or ts x []) k 0) (sym a)
              | inr a ↦ get_or_append_left cs _ 0 (3 * t + k) (let m = T.many in omega arith) ∙ T.are t k a j
            ]

    pub triangles_refused : (g h : Gathering) (r : TriangleRefusal) → AddedTriangle g (get_or e 0 0) (get_or e 1 0) (get_or e 2 0) (Err r) h → TrianglesTaken ts n (corners g) →
        TrianglesFit ts (length (positions g)) → ⊥
    triangles_refused g h TooManyTriangles (full, _) T F = omega (arith, F.few, T.many)
    triangles_refused g h UnknownCorner (_, far, _) T F =
        let at : (k : ℕ) → get_or e k 0 ≡ get_or (get_or ts n []) k 0 = λ k. ap (λ (x : List ℕ). get_or x k 0) is in
        omega (arith, far, at 0, at 1, at 2, F.known n 0 l (omega arith), F.known n 1 l (omega arith), F.known n 2 l (omega arith))
    triangles_refused g h EqualCorners (_, _, equal, _) T F =
        let at : (k : ℕ) → get_or e k 0 ≡ get_or (get_or ts n []) k 0 = λ k. ap (λ (x : List ℕ). get_or x k 0) is in
        let (a, b, c) = F.differ n l in
        omega (arith, equal, at 0, at 1, at 2)
