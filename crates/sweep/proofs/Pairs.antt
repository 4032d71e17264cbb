-- Two of the opened vertices, told from their number and from the entries.
use Rattle.std.proofs.Common.{ℕ, length, replicate, Ok, Err, Result, sym, subst, MatchResult}
use lib.ListN.{length-replicate}
use Rattle.gauge.specs.Accounts.{TwoOf, NotTwoOf}

pub two_entries : (n : ℕ) {u w : ℕ} → TwoOf n u w → TwoOf (length (replicate n (tt {0}))) u w
two_entries n {u} {w} p = subst (λ k. TwoOf k u w) (sym (length-replicate n (tt {0}))) p

pub not_entries : (n : ℕ) {u w : ℕ} → NotTwoOf n u w → NotTwoOf (length (replicate n (tt {0}))) u w
not_entries n {u} {w} p = subst (λ k. NotTwoOf k u w) (sym (length-replicate n (tt {0}))) p

-- what is refused, with what holds in both cases
pub pair_told : {N A B : Type 0} (n u w : ℕ) → A → B → (r : Result (Unit {0}) N) → MatchResult r (λ _. TwoOf n u w) (λ _. NotTwoOf n u w) →
    MatchResult r (λ _. TwoOf (length (replicate n (tt {0}))) u w × A) (λ _. NotTwoOf (length (replicate n (tt {0}))) u w × B)
pair_told n u w a b (Ok _) p = (two_entries n p, a)
pair_told n u w a b (Err _) p = (not_entries n p, b)
