use Rattle.std.proofs.Common.{rules, ◌≡◌, ℕ, ◌+◌, ◌*◌, ◌<◌, ◌/◌, [], List, length, get_or, MatchOption, Option, sym, ap, ◌∙◌, subst, arith}
use Rattle.std.proofs.lemmas.Iterator.{IsFirst-from_position, YieldsList-from_slice}
use Rattle.std.proofs.lemmas.Iterator.Adapters.{serves_from_places}
use Rattle.std.proofs.lemmas.List.{get_or_default}
use Rattle.gathering.specs.Model.{point_of, surface_of}
use Rattle.judging.specs.Flaws.{Lowest, Flat}
use Rattle.judging.specs.Verdict.{NoneFlat}
use Rattle.judging.proofs.Flats.{NullAt, NotNullAt, corner_a, corner_b, corner_c, flat_told}
use Rattle.judging.proofs.judge.fans.Fans.first_flat.Goals as goal
use borrow.Author.Tests.{tests}

pub position-requires-clause-callable : goal.position-requires-clause-callable
position-requires-clause-callable c =
    let fans = c.args.self.now in
    let cs = fans.corners.now in
    let n = length c.args.positions.now in
    let ts = c.as_chunks.result.0.now in
    let front = c.as_chunks.ensures.front in
    serves_from_places (YieldsList-from_slice ts c.iter.ensures.rest) (λ x q k. search (rules, tests))
    (λ x k l i.
    let m : k < length cs / 3 = omega (arith, c.as_chunks.ensures.front_len) in
    let s : x.now ≡ get_or ts k [] = i ∙ get_or_default ts k x.now [] l in
    let ea = ap (λ (y : List ℕ). get_or y 0 0) s ∙ corner_a cs ts front k m in
    let eb = ap (λ (y : List ℕ). get_or y 1 0) s ∙ corner_b cs ts front k m in
    let ec = ap (λ (y : List ℕ). get_or y 2 0) s ∙ corner_c cs ts front k m in
    let a : get_or x.now 0 0 < n = omega (arith, ea, c.requires.vertices, fans.numbered (3 * k) (omega arith)) in
    let b : get_or x.now 1 0 < n = omega (arith, eb, c.requires.vertices, fans.numbered (3 * k + 1) (omega arith)) in
    let d : get_or x.now 2 0 < n = omega (arith, ec, c.requires.vertices, fans.numbered (3 * k + 2) (omega arith)) in
    search (rules, tests))

pub returns-in_err-t : goal.returns-in_err-t
returns-in_err-t c =
    let ps = c.args.positions.now in
    let cs = c.args.self.now.corners.now in
    let ts = c.as_chunks.result.0.now in
    let first = IsFirst-from_position _ _ _ (NullAt ps) (NotNullAt ps) c.position.ensures.ran (YieldsList-from_slice ts c.iter.ensures.rest) (λ x q k. search (rules, tests)) (λ x q k. search (rules, tests)) in
    let told = flat_told ps cs ts c.as_chunks.ensures.front c.as_chunks.ensures.front_len c.position.result first in
    record {
      lowest =
          subst (λ (r : Option ℕ). MatchOption r (NoneFlat (surface_of ps cs) (point_of ps)) (λ t. Lowest (Flat (surface_of ps cs) (point_of ps)) t)) (c.in_err-t.was ∙ sym c.from_residual.ensures) told;
    }

pub returns : goal.returns
returns c =
    let ps = c.args.positions.now in
    let cs = c.args.self.now.corners.now in
    let ts = c.as_chunks.result.0.now in
    let first = IsFirst-from_position _ _ _ (NullAt ps) (NotNullAt ps) c.position.ensures.ran (YieldsList-from_slice ts c.iter.ensures.rest) (λ x q k. search (rules, tests)) (λ x q k. search (rules, tests)) in
    let told = flat_told ps cs ts c.as_chunks.ensures.front c.as_chunks.ensures.front_len c.position.result first in
    record { lowest = subst (λ (r : Option ℕ). MatchOption r (NoneFlat (surface_of ps cs) (point_of ps)) (λ t. Lowest (Flat (surface_of ps cs) (point_of ps)) t)) c.in_ok-t.was told }
