-- The surfaces along a log of collapses.
use Rattle.std.specs.Prelude.{ℕ, zero, suc, ◌<◌, List, length, slice_index_or}
use Rattle.surface.specs.Surface.{Surface}
use Rattle.surface.specs.Geometry.{Vector}
use Rattle.surface.specs.Collapse.{collapse}
use Rattle.surface.specs.Permitted.{Permitted}
use Rattle.mesh.specs.declared.record.Record.{Record}

-- the record at place k of the log
abbrev pub record_at : List Record → ℕ → Record
record_at log k = slice_index_or log k (record { u = 0; w = 0 })

-- S with the first k records collapsed, in order
unfoldable pub stage : Surface → List Record → ℕ → Surface
stage S log zero = S
stage S log (suc k) = collapse (stage S log k) (record_at log k).u (record_at log k).w

-- each record is permitted where its turn comes
abbrev pub AllPermitted : Surface → (ℕ → Vector) → List Record → Type 0
AllPermitted S P log = (k : ℕ) → k < length log → ∥ Permitted (stage S log k) P (record_at log k).u (record_at log k).w ∥₁
