use Rattle.std.proofs.Common.{◌≡◌, ℕ, zero, suc, ◌<◌, true, List, [], ◌∷◌, length, get_or, Some, None, Option, sym, refl, ap, ◌∙◌, subst, arith, rules, MatchOption}
use Rattle.std.specs.Iterator.{Yields}
use Rattle.std.specs.Iterator.Runs.{Run, AnyItem, YieldsRun}
use Rattle.std.specs.List.{filter_map}
use Rattle.std.specs.Option.{IsSomeAnd, option_map}
use Rattle.std.proofs.lemmas.Iterator.{YieldsList, YieldsList-from_slice, items_from_drains}
use Rattle.std.proofs.lemmas.Iterator.Consumers.{YieldsList-from_filter_map}
use Rattle.std.proofs.lemmas.List.{map-id}
use Rattle.queue.specs.Meaning.{Held, NoKeys}
use Rattle.queue.specs.declared.Key.{Key}
use Rattle.queue_trial.proofs.plain_least.Goals as goal

-- the keys that are there
abbrev there : List (Option (Key ℕ)) → List (Key ℕ)
there = filter_map (λ k. k)

none_there : (ks : List (Option (Key ℕ))) → length (there ks) ≡ 0 → NoKeys ks
none_there [] e n k h = let z : ◌≡◌ {A = ℕ} 0 1 = cc in omega arith
none_there (None ∷ ks) e zero k h = let z : ◌≡◌ {A = ℕ} 0 1 = cc in omega arith
none_there (None ∷ ks) e (suc n) k h = none_there ks e n k h
none_there (Some x ∷ ks) e n k h = absurd (omega arith)

held_there : (ks : List (Option (Key ℕ))) (i : ℕ) (d : Key ℕ) → i < length (there ks) → (n : ℕ) × Held ks n (get_or (there ks) i d)
held_there [] i d l = absurd (omega arith)
held_there (None ∷ ks) i d l = let (n, h) = held_there ks i d l in (suc n, h)
held_there (Some x ∷ ks) zero d l = (0, refl)
held_there (Some x ∷ ks) (suc i) d l = let (n, h) = held_there ks i d (omega arith) in (suc n, h)

some_is : (o : Option (Key ℕ)) (m : Key ℕ) → IsSomeAnd o (λ x. x ≡ m) → option_map (λ x. x) o ≡ Some m
some_is None m h = absurd h
some_is (Some x) m h = ap Some h

module _ {S : Type 0} {steps : S → Option (Key ℕ) → S → Type 0} {s : S} (ks : List (Option (Key ℕ))) (p : Run steps) (from : p.from ≡ s) (whole : p.whole ≡ true) (all : YieldsList steps (λ x. x) s (there ks)) where
  items_are : p.items ≡ there ks
  unfolding YieldsRun
  items_are = sym (map-id p.items) ∙ items_from_drains p.items (let (t, y, e) = p.gave.0 in (t, subst (λ x. Yields steps x p.items t) from y, λ _. e whole)) all

  found : (P : Key ℕ → Type 0) (r : Option (Key ℕ)) → MatchOption r (p.len ≡ 0) (λ m. AnyItem p (λ x. x ≡ m) × P m) → MatchOption r (NoKeys ks) (λ k. (n : ℕ) × Held ks n k)
  found P None e = none_there ks (ap length (sym items_are) ∙ sym p.long ∙ e)
  found P (Some m) h =
      let ((k, l, at), rest) = h in
      let (n, held) = held_there ks k m (omega (arith, p.long, ap length items_are)) in
      (n, held ∙ sym (ap (λ xs. Some (get_or xs k m)) items_are) ∙ sym (p.reads k m l) ∙ some_is (p.at k) m at)

pub returns : goal.returns
returns c =
    let (p, from, whole, h) = c.min_by_key.ensures.runs in
    found c.args.keys.now p from whole (YieldsList-from_filter_map {s = c.filter_map.result} _ (λ k. k) (YieldsList-from_slice c.args.keys.now cc) c.filter_map.ensures.closure (λ x r q k. search rules)) _ c.min_by_key.result h
