-- Going along the log, one move at a time.
use Rattle.std.proofs.Common.{◌≡◌, ℕ, ◌+◌, ◌-◌, ◌<◌, ◌≤◌, List, length, sym, refl, ap, ◌∙◌, subst, arith}
use Rattle.mesh.specs.Model.{log}
use Rattle.mesh.specs.declared.record.Record.{Record}
use Rattle.order.specs.declared.Ordered.{Ghosts as Order}
use Rattle.gauge.specs.declared.Gauge.{Ghosts}
use Rattle.ledger.specs.Book.{Book}
use Rattle.ledger.specs.Ledger.{placed_at, Entry, splits, nothing_done, redoes, nothing_ahead, goes, beyond_log}
use Rattle.ledger.specs.declared.call.Call.TheVariants.{Split, Redo, Go}
use Rattle.ledger.specs.declared.call.Refusal.TheVariants.{BeyondLog}
use Rattle.ledger.specs.declared.call.Answer.{Answer}
use Rattle.ledger.specs.declared.call.Answer.TheVariants.{Went, Refused}
use Rattle.opened_surface.specs.Tied.{book_of, Tied, Follows, Placed}
use Rattle.opened_surface.specs.declared.thinning.Thinning.{Thinning}

module _ {G C E Z : Type 0} (m : Ghosts G C E Z) (o : Order C) where
  split_one : (s : Z) (b d : Book) (r : Answer C) → Entry m o s b Split r d → 0 < b.position → d ≡ placed_at b (b.position - 1)
  split_one s b d r (splits l) p = refl
  split_one s b d r (nothing_done z) p = absurd (omega arith)

  redo_one : (s : Z) (b d : Book) (r : Answer C) → Entry m o s b Redo r d → b.position < length b.log → d ≡ placed_at b (b.position + 1)
  redo_one s b d r (redoes l) p = refl
  redo_one s b d r (nothing_ahead l) p = absurd (omega arith)

  module _ (x : Thinning G C E Z o) where
    pub placed_first : Tied m o x → (k : ℕ) → k ≡ x.mesh.position → Placed m o x k x
    placed_first K k i = record { book_is = ap (placed_at (book_of x.mesh)) (sym i); fixed = refl; tied = K }

    pub placed_at_lem : (y : Thinning G C E Z o) (j k : ℕ) → Placed m o x j y → j ≡ k → Placed m o x k y
    placed_at_lem y j k P i = subst (λ n. Placed m o x n y) i P

    module _ (k : ℕ) (y : Thinning G C E Z o) (P : Placed m o x k y) (z : Thinning G C E Z o) (r : Answer C) where
      -- one move back
      pub placed_back : (Tied m o y → Follows m o y Split r z) → 0 < k → (j : ℕ) → j ≡ k - 1 → Placed m o x j z
      placed_back F l j i =
          let W = F P.tied in
          let at : y.mesh.position ≡ k = ap (λ d. d.position) P.book_is in
          let e = split_one (m.setting y.gauge) (book_of y.mesh) (book_of z.mesh) r W.entry (omega arith) in
          let n : y.mesh.position - 1 ≡ j = omega arith in
          record { book_is = e ∙ ap (placed_at (book_of y.mesh)) n ∙ ap (λ d. placed_at d j) P.book_is; fixed = W.fixed ∙ P.fixed; tied = W.tied }

      -- and one forward
      pub placed_on : (Tied m o y → Follows m o y Redo r z) → k < length (log x.mesh) → (j : ℕ) → j ≡ k + 1 → Placed m o x j z
      placed_on F l j i =
          let W = F P.tied in
          let at : y.mesh.position ≡ k = ap (λ d. d.position) P.book_is in
          let long : length (log y.mesh) ≡ length (log x.mesh) = ap (λ d. length d.log) P.book_is in
          let e = redo_one (m.setting y.gauge) (book_of y.mesh) (book_of z.mesh) r W.entry (omega arith) in
          let n : y.mesh.position + 1 ≡ j = omega arith in
          record { book_is = e ∙ ap (placed_at (book_of y.mesh)) n ∙ ap (λ d. placed_at d j) P.book_is; fixed = W.fixed ∙ P.fixed; tied = W.tied }

    went_follows : (y : Thinning G C E Z o) (j k n : ℕ) → Placed m o x j y → j ≡ k → k ≤ length (log x.mesh) → n ≤ length (log x.mesh) → Follows m o x (Go k) (Went n) y
    went_follows y j k n P i l v =
        let done : Entry m o (m.setting x.gauge) (book_of x.mesh) (Go k) (Went n) (placed_at (book_of x.mesh) k) = goes l v in
        record {
          entry = subst (Entry m o (m.setting x.gauge) (book_of x.mesh) (Go k) (Went n)) (sym (P.book_is ∙ ap (placed_at (book_of x.mesh)) i)) done;
          fixed = P.fixed;
          tied = P.tied;
        }

    module _ (l : List Record) (p k : ℕ) (same : l ≡ log x.mesh) (at : p ≡ x.mesh.position) where
      pub log_beyond : Tied m o x → length l < k → Follows m o x (Go k) (Refused BeyondLog) x
      log_beyond K n = let i = ap length same in record { entry = beyond_log (omega arith); fixed = refl; tied = K }

      module _ (within : k ≤ length l) (y : Thinning G C E Z o) (n : ℕ) where
        pub back_goes : k < p → n ≡ p - k → (n ≤ x.mesh.position → Placed m o x (x.mesh.position - n) y) → Follows m o x (Go k) (Went n) y
        back_goes v d F =
            let i = ap length same in
            let j = x.mesh.placed in
            let q = x.mesh.log.ok.0 in
            went_follows y (x.mesh.position - n) k n (F (omega arith)) (omega arith) (omega arith) (omega arith)

        pub on_goes : p ≤ k → n ≡ k - p → (x.mesh.position + n ≤ length (log x.mesh) → Placed m o x (x.mesh.position + n) y) → Follows m o x (Go k) (Went n) y
        on_goes v d F =
            let i = ap length same in
            went_follows y (x.mesh.position + n) k n (F (omega arith)) (omega arith) (omega arith) (omega arith)
