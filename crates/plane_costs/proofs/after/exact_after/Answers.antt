use Rattle.plane_costs.proofs.Answered.{gathered_exact}
use Rattle.plane_costs.proofs.after.exact_after.Goals as goal

pub returns : goal.returns
returns c =
    let T = c.in_ok-thinned.ensures.outcome in
    record {
      outcome = record {
        thinned_by = T;
        answers_exact = gathered_exact c.args.gathering c.in_ok-thinned.thinned.opened.counts T.judged c.look_over.ensures.bytes T.promise.ledger;
        cost_is = c.exact_cost-cost.ensures.exact;
      };
    }
