-- What a price means: an exact sum of squares of six-volumes, though it is computed modulo 2 ^ 64.
use Rattle.std.specs.Prelude.{◌≡◌, ℕ, zero, suc, ◌+◌, ◌*◌, ◌/◌, ◌^◌, ◌<◌, ◌≤◌, Bool, cond, ◌&&◌, ◌||◌, ◌≢◌, List, length, ℤ, pos, vec_items, ◌==◌, slice_index_or, unsigned_abs}
use Rattle.surface.specs.Surface.{Surface, Side}
use Rattle.surface.specs.Geometry.{Vector, six_volume}
use Rattle.surface.specs.Euler.{total}
use Rattle.surface.specs.Collapse.{rename}
use Rattle.mesh.specs.Model.{surface, opening as opened, points, log as log_of}
use Rattle.mesh.specs.Stages.{record_at}
use Rattle.mesh.specs.declared.mesh.Mesh.{Mesh}
use Rattle.mesh.specs.declared.record.Record.{Record}
use Rattle.gauge.specs.Accounts.{changed, TwoOf}
use Rattle.planes.specs.declared.quadric.Quadric.{Quadric}
use Rattle.planes.specs.Quadrics as quadrics
use Rattle.planes.specs.Quadrics.{plus}
use Rattle.planes.specs.Accounts.{opening, price}

-- the account with the first k records merged, in order: each merges u into w
unfoldable pub merged : List Quadric → List Record → ℕ → List Quadric
merged account log zero = account
merged account log (suc k) = changed (λ x y. plus y x) quadrics.zero (record_at log k).u (record_at log k).w (merged account log k)

-- where a corner at the vertex c stands after the first k records: each sends what stands in u to w
unfoldable pub standing : List Record → ℕ → ℕ → ℕ
standing log zero c = c
standing log (suc k) c = rename (record_at log k).u (record_at log k).w (standing log k c)

-- none of the first k records sends v away
abbrev pub Stays : List Record → ℕ → ℕ → Type 0
Stays log k v = (i : ℕ) → i < k → (record_at log i).u ≢ v

-- the first k records are each of two of n vertices, and send no vertex away that was sent away before
abbrev pub Orderly : ℕ → List Record → ℕ → Type 0
Orderly n log k = (i : ℕ) → i < k → TwoOf n (record_at log i).u (record_at log i).w × Stays log i (record_at log i).u

-- the coordinates of p are whole numbers from 0 to 255
abbrev pub Byte : ℤ → Type 0
Byte z = (k : ℕ) × (k ≤ 255) × (z ≡ pos k)

abbrev pub Bytes : Vector → Type 0
Bytes p = Byte p.x × Byte p.y × Byte p.z

-- the square of the six-volume of triangle t at the point p
unfoldable pub square_at : Surface → (ℕ → Vector) → ℕ → Vector → ℕ
square_at S P t p =
    let v : ℤ = six_volume (P (S.corner (3 * t))) (P (S.corner (3 * t + 1))) (P (S.corner (3 * t + 2))) p in unsigned_abs v * unsigned_abs v

-- the sum of these squares over the corners that pass a test, of the live ones of the first 2048 triangles: the triangle counts once
-- for each such corner
unfoldable pub squares : Surface → (ℕ → Vector) → (ℕ → Bool) → Vector → ℕ
squares S P passes p = total (λ h. cond (S.alive (h / 3) && passes (S.corner h)) (square_at S P (h / 3) p) 0) 6144

-- after any orderly records the price of two vertices that were not sent away is the exact sum of the squares, at the point of w,
-- over the corners that stand in u or w
abbrev pub ExactSum : Type 0
ExactSum =
    (S : Surface) (P : ℕ → Vector) → ((v : ℕ) → Bytes (P v)) →
    (n : ℕ) (log : List Record) (k : ℕ) → Orderly n log k →
    (u w : ℕ) → TwoOf n u w → Stays log k u → Stays log k w →
    let account : List Quadric = merged (opening S P n) log k in
    let sum : ℕ = squares S P (λ c. (standing log k c == u) || standing log k c == w) (P w) in
    (price (slice_index_or account u quadrics.zero) (slice_index_or account w quadrics.zero) (P w) ≡ sum) × (sum < 2 ^ 64)

-- on a mesh, wherever it stands on its log: where (u, w) is a side, the price on the opening account with the done records merged is the
-- exact sum of the squares, at the point of w, over the corners of the opened triangles that stand in u or w
abbrev pub ExactOnMesh : Type 0
ExactOnMesh =
    (m : Mesh) → ((v : ℕ) → Bytes (points m v)) →
    (u w : ℕ) → Side (surface m) u w →
    let account : List Quadric = merged (opening (opened m) (points m) (length (vec_items m.positions))) (log_of m) m.position in
    let sum : ℕ = squares (opened m) (points m) (λ c. (standing (log_of m) m.position c == u) || standing (log_of m) m.position c == w) (points m w) in
    (price (slice_index_or account u quadrics.zero) (slice_index_or account w quadrics.zero) (points m w) ≡ sum) × (sum < 2 ^ 64)
