-- A list of calls and one call more.
use Rattle.std.proofs.Common.{◌≡◌, ℕ, ◌+◌, ◌<◌, List, [], ◌∷◌, ◌++◌, length, get_or, take, sym, refl, ap, ◌∙◌, subst, subst₂}
use Rattle.std.proofs.lemmas.List.{take_more}
use Rattle.order.specs.declared.Ordered.{Ghosts as Order}
use Rattle.gauge.specs.declared.Gauge.{Ghosts}
use Rattle.ledger.specs.Ledger.{Entry, Kept, none}
use Rattle.ledger.specs.declared.call.Call.{Call}
use Rattle.ledger.specs.declared.call.Answer.{Answer}
use Rattle.ledger.proofs.Runs.{kept_more}
use Rattle.opened_surface.specs.Tied.{book_of, Tied, Follows, FollowsAll}
use Rattle.opened_surface.specs.declared.thinning.Thinning.{Thinning}

module _ {G C E Z : Type 0} (m : Ghosts G C E Z) (o : Order C) (x : Thinning G C E Z o) where
  pub ran_none : Tied m o x → (rs : List (Answer C)) → rs ≡ [] → FollowsAll m o x [] rs x
  ran_none K rs e = record { kept = subst (λ l. Kept m o (m.setting x.gauge) (book_of x.mesh) [] l (book_of x.mesh)) (sym e) none; fixed = refl; tied = K }

  pub ran_more : (cs : List Call) (i : ℕ) (rs ts : List (Answer C)) (r : Answer C) (c : Call) (y z : Thinning G C E Z o) →
      FollowsAll m o x (take i cs) rs y → (Tied m o y → Follows m o y c r z) → ts ≡ rs ++ r ∷ [] → i < length cs → c ≡ get_or cs i c → FollowsAll m o x (take (i + 1) cs) ts z
  ran_more cs i rs ts r c y z R F e lt at =
      let W = F R.tied in
      let one : Entry m o (m.setting x.gauge) (book_of y.mesh) c r (book_of z.mesh) = subst (λ k. Entry m o k (book_of y.mesh) c r (book_of z.mesh)) R.fixed W.entry in
      let more = kept_more m o (m.setting x.gauge) R.kept one in
      let front : take (i + 1) cs ≡ take i cs ++ c ∷ [] = take_more cs i c lt ∙ ap (λ d. take i cs ++ d ∷ []) (sym at) in
      record { kept = subst₂ (λ f g. Kept m o (m.setting x.gauge) (book_of x.mesh) f g (book_of z.mesh)) (sym front) (sym e) more; fixed = W.fixed ∙ R.fixed; tied = W.tied }
