-- The tables of a surveyed surface.
use Rattle.std.specs.Prelude.{◌≡◌, ℕ, ◌<◌, List, length, Some, None, Ok, vec_items, Option, slice_index, slice_index_or}
use Rattle.surface.specs.Surface.{Surface, next}
use Rattle.gathering.specs.Model.{surface_of}
use Rattle.geometry.specs.declared.Position.{Position}
use Rattle.judging.specs.Verdict.{Judged}
use Rattle.judging.specs.declared.tables.Tables.{Tables}

-- what the entries of the table hold
pub record Entries (table : List (Option ℕ)) (held : List ℕ) : Type 0 where
  pub long : length held ≡ length table
  pub same : (k : ℕ) → k < length table → slice_index_or table k None ≡ Some (slice_index held k)

-- each of the first m half-edges has for twin one of them that runs opposite
pub record Twins (S : Surface) (m : ℕ) (twin : List ℕ) : Type 0 where
  pub long : length twin ≡ m
  pub inside : (h : ℕ) → h < m → slice_index twin h < m
  pub from : (h : ℕ) → h < m → S.corner (slice_index twin h) ≡ S.corner (next h)
  pub to : (h : ℕ) → h < m → S.corner (next (slice_index twin h)) ≡ S.corner h

-- at each of the first n vertices begins its half-edge, one of the first m
pub record Outs (S : Surface) (m n : ℕ) (out : List ℕ) : Type 0 where
  pub long : length out ≡ n
  pub inside : (v : ℕ) → v < n → slice_index out v < m
  pub from : (v : ℕ) → v < n → S.corner (slice_index out v) ≡ v

-- the surface is closed, with these counts and tables
abbrev pub Surveyed : List Position → List ℕ → Tables → Type 0
Surveyed ps cs t =
    Judged ps cs (Ok t.counts)
    × Twins (surface_of ps cs) (length cs) (vec_items t.twin)
    × Outs (surface_of ps cs) (length cs) (length ps) (vec_items t.out)
