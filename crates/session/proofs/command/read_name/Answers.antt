use Rattle.std.proofs.Common.{◌≡◌, ℕ, ◌<◌, Bool, List, ◌∷◌, ◌++◌, length, Some, None, Option, sym, refl, ap, ◌∙◌, take-append-drop, arith, Bor}
use Rattle.std.proofs.lemmas.Grind.{common_steps}
use Rattle.std.specs.List.{IsSplitAt}
use Rattle.std.specs.Option.{MatchOption, ok_or}
use Rattle.std.specs.Result.{MatchResult}
use Rattle.session.specs.Spelled.{Missing, no_count, short_name}
use Rattle.session.specs.declared.command.Fault.TheVariants as fault
use Rattle.session.proofs.command.read_name.Goals as goal

pub returns-in_err-count : goal.returns-in_err-count
returns-in_err-count c = grind (arith, common_steps, no_count)

-- a count, and as many of the bytes after it, if there are
named : (xs : List ℕ) (count : ℕ) (rest : List ℕ) (r : Option (Bor (List ℕ) × Bor (List ℕ))) → xs ≡ count ∷ rest → MatchOption r (length rest < count) (λ p. IsSplitAt rest count p.0.now p.1.now) →
    MatchResult (ok_or r fault.Missing) (λ p. xs ≡ length p.0.now ∷ (p.0.now ++ p.1.now)) (λ e. (e ≡ fault.Missing) × ((calls : Bool) → Missing calls (78 ∷ xs)))
named xs count rest (Some p) e s = let t = take-append-drop count rest in let (l, front, back, long, m) = s in cc
named xs count rest None e l = (refl, λ calls. rw e (short_name count rest l))

pub returns : goal.returns
returns c =
    let first = rw c.in_ok-count.ensures.ok_part at c.split_first.ensures.cases in
    let whole = first.0 ∙ ap (λ (n : ℕ). n ∷ c.in_ok-count.rest.now) (sym c.from.ensures) in
    rw c.ok_or-2.ensures.value (record { read = named c.args.bytes.now c.from.result c.in_ok-count.rest.now c.split_at_checked.result whole c.split_at_checked.ensures.cases })
