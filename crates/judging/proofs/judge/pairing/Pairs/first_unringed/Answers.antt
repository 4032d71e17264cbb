use Rattle.std.proofs.Common.{rules, ◌<◌, vec_len, sym, subst, arith}
use Rattle.std.proofs.lemmas.Iterator.{first_from_Range, serves_from_Range}
use Rattle.surface.specs.Ring.{Ringed}
use Rattle.surface.specs.Read.{whole}
use Rattle.judging.specs.Rings.{FirstUnringed}
use Rattle.judging.proofs.Whole.{Searched, unringed_told}
use Rattle.judging.proofs.judge.pairing.Pairs.first_unringed.Goals as goal
use borrow.Author.Tests.{tests}

pub find-requires-clause-callable : goal.find-requires-clause-callable
find-requires-clause-callable c =
    let n = vec_len c.args.self.now.fans.last in
    let single = c.requires.single in
    let matched = c.requires.matched in
    serves_from_Range (λ x q k. search (rules, tests)) (λ x a b. let l : x < n = omega (arith, c.len.ensures) in λ y e. let m : y.now < n = omega arith in search (rules, tests))

pub overflow_cast-result : goal.overflow_cast-result
overflow_cast-result c =
    let fans = c.args.self.now.fans in
    let S = whole fans.corners.now (vec_len fans.last) in
    let first : Searched S c.len.result c.find.result =
    first_from_Range _ _ _ _ (λ v. Ringed S v → ⊥) (Ringed S) c.find.ensures.ran (λ x q k. search (rules, tests)) (λ x q k. search (rules, tests)) in
    let (_, l, _, _) = subst (Searched S c.len.result) c.in_ok-v.was first in
    omega (arith, c.len.ensures, fans.few_vertices)

pub returns-in_err-v : goal.returns-in_err-v
returns-in_err-v c =
    let fans = c.args.self.now.fans in
    let S = whole fans.corners.now (vec_len fans.last) in
    let first : Searched S c.len.result c.find.result =
    first_from_Range _ _ _ _ (λ v. Ringed S v → ⊥) (Ringed S) c.find.ensures.ran (λ x q k. search (rules, tests)) (λ x q k. search (rules, tests)) in
    let told = unringed_told fans.corners.now (vec_len fans.last) c.len.result c.len.ensures c.find.result first in
    record { lowest = subst (FirstUnringed S) (sym c.from_residual.ensures) (subst (FirstUnringed S) c.in_err-v.was told) }

pub returns : goal.returns
returns c =
    let fans = c.args.self.now.fans in
    let S = whole fans.corners.now (vec_len fans.last) in
    let first : Searched S c.len.result c.find.result =
    first_from_Range _ _ _ _ (λ v. Ringed S v → ⊥) (Ringed S) c.find.ensures.ran (λ x q k. search (rules, tests)) (λ x q k. search (rules, tests)) in
    let told = unringed_told fans.corners.now (vec_len fans.last) c.len.result c.len.ensures c.find.result first in
    record { lowest = subst (FirstUnringed S) c.in_ok-v.was told }
