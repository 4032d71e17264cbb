-- How the lists of a mesh hang together with its log. S is the surface as it was opened.
use Rattle.std.specs.Prelude.{◌≡◌, ℕ, suc, ◌/◌, ◌<◌, Bool, true, false, not, ◌&&◌, List, nat_lt, slice_index, slice_index_or}
use Rattle.surface.specs.Surface.{Surface, next}
use Rattle.mesh.specs.Held.{opposite}
use Rattle.mesh.specs.Stages.{stage, record_at}
use Rattle.mesh.specs.declared.record.Record.{Record}

-- the lists hold the surface S, entry for entry
abbrev pub CornersAre : Surface → List ℕ → Type 0
CornersAre S corners = (h : ℕ) → slice_index corners h ≡ S.corner h

abbrev pub TrianglesAre : Surface → List Bool → Type 0
TrianglesAre S triangles = (t : ℕ) → slice_index_or triangles t false ≡ S.alive t

abbrev pub VerticesAre : Surface → List Bool → Type 0
VerticesAre S vertices = (v : ℕ) → slice_index_or vertices v false ≡ S.present v

-- triangle t died at record k, which is done
unfoldable pub died : Surface → List Record → ℕ → ℕ → ℕ → Bool
died S log position k t = nat_lt k position && ((stage S log k).alive t && not ((stage S log (suc k)).alive t))

-- each half-edge of a triangle that died has the twin that it had just before
abbrev pub TwinsDead : Surface → List Record → ℕ → List ℕ → Type 0
TwinsDead S log position twin = (k h : ℕ) → died S log position k (h / 3) ≡ true → opposite (stage S log k) h (slice_index twin h) ≡ true

-- a vertex that died at a done record has for its outgoing half-edge the one that was collapsed
abbrev pub OutDead : Surface → List Record → ℕ → List ℕ → Type 0
OutDead S log position out =
    (k : ℕ) → k < position →
    ((stage S log k).alive (slice_index out (record_at log k).u / 3) ≡ true)
    × ((stage S log k).corner (slice_index out (record_at log k).u) ≡ (record_at log k).u)
    × ((stage S log k).corner (next (slice_index out (record_at log k).u)) ≡ (record_at log k).w)
