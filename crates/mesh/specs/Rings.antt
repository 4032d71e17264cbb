-- The half-edges round a vertex in turn.
use Rattle.std.specs.Prelude.{ℕ, zero, suc, ◌/◌, Bool, true, false, cond, ◌&&◌, ◌||◌, ◌==◌, List, [], ◌∷◌, Some, None, Option, vec_items, vec_len, slice_index}
use Rattle.surface.specs.Surface.{prev}
use Rattle.mesh.specs.Model.{held}
use Rattle.mesh.specs.declared.halfedges.HalfEdges.{HalfEdges}

-- the half-edge that follows h round the vertex at which h begins
abbrev pub on : HalfEdges → ℕ → ℕ
on e h = slice_index (vec_items e.twin) (prev h)

-- f leads from h to o in k steps at most, and in one at least
unfoldable pub returns_to : (ℕ → ℕ) → ℕ → ℕ → ℕ → Bool
returns_to f o zero h = false
returns_to f o (suc k) h = (f h == o) || returns_to f o k (f h)

-- the half-edges from h on, by f, up to the one before o: k at most
unfoldable pub before : (ℕ → ℕ) → ℕ → ℕ → ℕ → List ℕ
before f o zero h = []
before f o (suc k) h = h ∷ cond (f h == o) [] (before f o k (f h))

-- the half-edge ahead, if there is one, is live, and the way leads from it to first
abbrev pub returning : HalfEdges → ℕ → Option ℕ → Bool
returning e first None = true
returning e first (Some h) = (held e).alive (h / 3) && returns_to (on e) first (vec_len e.twin) h

-- the half-edges that are left
abbrev pub left_from : HalfEdges → ℕ → Option ℕ → List ℕ
left_from e first None = []
left_from e first (Some h) = before (on e) first (vec_len e.twin) h
