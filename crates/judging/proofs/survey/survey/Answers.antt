use Rattle.std.proofs.Common.{◌≡◌, ℕ, ◌/◌, ◌%◌, ◌<◌, true, List, length, get_or, is_some, Some, None, vec_items, vec_len, Option, sym, ap, ◌∙◌, subst, arith}
use Rattle.surface.specs.Closed.{AllRinged}
use Rattle.surface.specs.Pieces.{Pieces}
use Rattle.surface.specs.Read.{whole}
use Rattle.geometry.specs.declared.Position.{Position}
use Rattle.gathering.specs.Limits.{Numbered, Differing}
use Rattle.gathering.specs.Model.{corners, point_of, surface_of, triangle_count}
use Rattle.gathering.specs.declared.gathering.Gathering.{Gathering}
use Rattle.judging.specs.Tables.{Entries, Twins, Outs, Surveyed}
use Rattle.judging.specs.Verdict.{FirstFlaw, WhyNot}
use Rattle.judging.specs.declared.verdict.Unjudged.TheVariants.{Flawed}
use Rattle.judging.specs.declared.judge.fans.Fans.{Fans}
use Rattle.judging.proofs.Floods.{carried}
use Rattle.judging.proofs.Surveys.{twin_full, last_full, twins_are, outs_are}
use Rattle.judging.proofs.Verdicts.{refused, closed, counted, some_entry}
use Rattle.judging.proofs.survey.survey.Goals as goal

-- the corners of a gathering make whole triangles
three : (g : Gathering) (cs : List ℕ) → cs ≡ corners g → length cs % 3 ≡ 0
three g cs e = omega (arith, ap (length {A = ℕ}) e, g.corners.ok.0, g.threes)

-- no entry is empty
abbrev Full : List (Option ℕ) → Type 0
Full table = (k : ℕ) → k < length table → is_some (get_or table k None) ≡ true

pub entries_of-requires : goal.entries_of-requires
entries_of-requires c =
    let pairs = c.in_ok-pairs.pairs in
    let fans = pairs.fans in
    let full = twin_full fans.corners.now (length c.positions-positions.result.now) fans.threes pairs.paired c.in_default.ensures.first.1 in
    record { full = subst Full (sym c.deref.ensures.value) full }

pub entries_of-requires-2 : goal.entries_of-requires-2
entries_of-requires-2 c =
    let fans = c.in_ok-pairs.pairs.fans in
    let many = ap (λ (f : Fans). vec_len f.last) c.in_ok-pairs.ensures.fans ∙ c.in_ok-new.ensures.vertices in
    let ringed = subst (λ (m : ℕ). AllRinged (whole fans.corners.now m)) (sym many) c.in_default.ensures.first.2 in
    record { full = subst Full (sym c.deref-2.ensures.value) (last_full fans.corners.now (vec_len fans.last) fans.threes fans.chained ringed) }

pub returns-in-Some-clause-why_not : goal.returns-in-Some-clause-why_not
returns-in-Some-clause-why_not c =
    let ps = c.positions-positions.result.now in
    let cs = c.corners-corners.result.now in
    let l = some_entry cs c.is_empty.result c.is_empty.ensures c.if-is_empty.false in
    let t : 0 < length cs / 3 = omega (arith, three c.args.gathering.now cs c.corners-corners.ensures.value) in
    let same = ap (λ (f : Fans). f.corners.now) c.in_ok-pairs.ensures.fans ∙ c.in_ok-new.ensures.corners in
    let first = subst (λ (x : List ℕ). FirstFlaw (surface_of ps x) (point_of ps) (Some c.in-Some.flaw)) same c.in-Some.ensures.first in
    carried (λ (x : List Position) (y : List ℕ). WhyNot x y (Flawed c.in-Some.flaw)) (sym c.positions-positions.ensures.value) (sym c.corners-corners.ensures.value)
    (refused (surface_of ps cs) (point_of ps) (triangle_count cs) (length ps) c.in-Some.flaw t first)

pub returns-clause-surveyed : goal.returns-clause-surveyed
returns-clause-surveyed c =
    let ps = c.positions-positions.result.now in
    let cs = c.corners-corners.result.now in
    let n = length ps in
    let pairs = c.in_ok-pairs.pairs in
    let fans = pairs.fans in
    let same = ap (λ (f : Fans). f.corners.now) c.in_ok-pairs.ensures.fans ∙ c.in_ok-new.ensures.corners in
    let many = ap (λ (f : Fans). vec_len f.last) c.in_ok-pairs.ensures.fans ∙ c.in_ok-new.ensures.vertices in
    let l = some_entry cs c.is_empty.result c.is_empty.ensures c.if-is_empty.false in
    let none = subst (λ (x : List ℕ). FirstFlaw (surface_of ps x) (point_of ps) None) same c.in_default.ensures.first in
    let g = c.args.gathering.now in
    let at = c.positions-positions.ensures.value in
    let held = c.corners-corners.ensures.value in
    let many_at : n ≡ vec_len g.positions = omega (arith, ap (length {A = Position}) at, g.positions.ok.0) in
    let numbered = carried Numbered held many_at g.numbered in
    let differing = subst Differing (sym held) g.differing in
    let threes = three g cs held in
    let K = closed cs n numbered differing threes l (point_of ps) none in
    let found = carried (λ (x : List ℕ) (m : ℕ). Pieces (whole x m) c.in_ok-pieces.pieces) (sym same) (sym many) c.in_ok-pieces.ensures.pieces in
    let p = subst (λ (x : ℕ). Pieces (whole cs n) x) (sym c.counts.ensures.pieces) found in
    let counts = counted cs n numbered differing threes l K c.counts.result c.counts.ensures.vertices c.counts.ensures.triangles c.counts.ensures.euler p in
    let twin = vec_items c.in_ok-twin.twin in
    let out = vec_items c.in_ok-out.out in
    let twins = twins_are fans.corners.now n fans.threes pairs.paired twin (subst (λ (t : List (Option ℕ)). Entries t twin) c.deref.ensures.value c.in_ok-twin.ensures.entries) in
    let outs = outs_are fans.corners.now (vec_len fans.last) fans.threes fans.chained out (subst (λ (t : List (Option ℕ)). Entries t out) c.deref-2.ensures.value c.in_ok-out.ensures.entries) in
    carried (λ (x : List Position) (y : List ℕ). Surveyed x y (record { counts = c.counts.result; twin = c.in_ok-twin.twin; out = c.in_ok-out.out })) (sym at) (sym held) (
      (K, none.3, counts),
      subst (λ (x : List ℕ). Twins (whole x n) (length x) twin) same twins,
      carried (λ (x : List ℕ) (m : ℕ). Outs (whole x m) (length x) m out) (sym same) (sym many) outs,
    )
