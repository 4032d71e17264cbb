use Rattle.std.proofs.Common.{◌≢◌, length, vec_items, subst, arith, rules}
use Rattle.mesh.proofs.Round.{closed_held}
use Rattle.gauge.specs.Accounts.{TwoOf, NotTwoOf}
use Rattle.sweep.specs.Entries.{entries}
use Rattle.sweep.proofs.Costs.{Priced, priced}
use Rattle.sweep.proofs.Pairs.{two_entries, not_entries}
use Rattle.sweep.proofs.SweepGauge.cost.Goals as goal

pub returns-in_err-ok : goal.returns-in_err-ok
returns-in_err-ok c =
    let none : NotTwoOf c.args.self.now.count c.args.u c.args.w = search rules in
    let many = not_entries c.args.self.now.count none in
    record {
      priced =
          rw c.from_residual.ensures
          (λ (h, a, t) i j.
          let differ : c.args.u ≢ c.args.w = (closed_held c.args.mesh.now.edges).proper _ _ _ _ t in
          omega arith);
    }

pub returns : goal.returns
returns c =
    let m = c.args.mesh.now in
    let u = c.args.u in
    let w = c.args.w in
    let n = length (entries c.args.self.now) in
    let r = c.new.result in
    let pair : TwoOf c.args.self.now.count u w = search rules in
    let two = two_entries c.args.self.now.count pair in
    let told =
    priced c.edges-edges.result.now c.positions.result.now c.in_ok-e.ensures.leads.1 {n = n} two.1 two.2 _ _
    c.swept-volume.ensures.volume c.swept-volume.ensures.number r c.new.ensures in
    record {
      priced =
          subst (λ e. Priced e (vec_items m.positions) n u w r) c.edges-edges.ensures.value
          (subst (λ ps. Priced c.edges-edges.result.now ps n u w r) c.positions.ensures.value told);
    }
