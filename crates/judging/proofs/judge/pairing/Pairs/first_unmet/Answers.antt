use Rattle.std.proofs.Common.{rules, ℕ, ◌/◌, Option, sym, ◌∙◌, subst}
use Rattle.std.proofs.lemmas.Iterator.{IsFirst-from_position, YieldsList-from_slice}
use Rattle.std.specs.Option.{option_map}
use Rattle.surface.specs.Read.{whole}
use Rattle.judging.specs.Flaws.{FirstUnmet}
use Rattle.judging.proofs.Rules.{Held, Unheld, unmet_told}
use Rattle.judging.proofs.judge.pairing.Pairs.first_unmet.Goals as goal
use borrow.Author.Tests.{tests}

pub returns-in_err-h : goal.returns-in_err-h
returns-in_err-h c =
    let pairs = c.args.self.now in
    let S = whole pairs.fans.corners.now in
    let list = c.iter.ensures.rest ∙ c.deref.ensures.value in
    let first = IsFirst-from_position _ _ _ Unheld Held c.position.ensures.ran (YieldsList-from_slice pairs.twin.items list) (λ x q k. search (rules, tests)) (λ x q k. search (rules, tests)) in
    record {
      lowest = λ n.
          subst (λ (r : Option ℕ). FirstUnmet (S n) r) (sym c.from_residual.ensures)
          (subst (λ (r : Option ℕ). FirstUnmet (S n) (option_map (λ h. h / 3) r)) c.in_err-h.was (unmet_told pairs.paired pairs.fans.threes n c.position.result first));
    }

pub returns : goal.returns
returns c =
    let pairs = c.args.self.now in
    let S = whole pairs.fans.corners.now in
    let list = c.iter.ensures.rest ∙ c.deref.ensures.value in
    let first = IsFirst-from_position _ _ _ Unheld Held c.position.ensures.ran (YieldsList-from_slice pairs.twin.items list) (λ x q k. search (rules, tests)) (λ x q k. search (rules, tests)) in
    record {
      lowest = λ n.
          subst (λ (r : Option ℕ). FirstUnmet (S n) (option_map (λ h. h / 3) r)) c.in_ok-h.was (unmet_told pairs.paired pairs.fans.threes n c.position.result first);
    }
