use Rattle.std.proofs.Common.{refl}
use Rattle.std.proofs.lemmas.Result.{IfOk-weaker}
use Rattle.sweep.specs.Meaning.{by_sweep, fraction_order}
use Rattle.session.specs.declared.gauges.Gauge.TheVariants.{Sweep}
use Rattle.session.proofs.Drafts.{opened_replied, back_replied, back_fits}
use Rattle.session.proofs.draft.Draft.open_on_sweep.Goals as goal

pub returns-in-Ok : goal.returns-in-Ok
returns-in-Ok c =
    let on = c.opened_on.ensures.opened in
    let W = c.in-Ok.ensures.outcome in
    rw (on.state_is, on.reply_is)
    (record { replied = opened_replied by_sweep fraction_order Sweep c.args.self.named c.args.self.gathering c.new.result refl c.in-Ok.opened on.counts W on.counted; fit = λ calls. tt })

pub returns-in-Err : goal.returns-in-Err
returns-in-Err c =
    record {
      replied =
          IfOk-weaker c.not_opened.result _ _
          (λ p. back_replied by_sweep fraction_order Sweep c.args.self.named c.args.self.gathering c.new.result refl c.in-Err.unopened c.in-Err.ensures.outcome p.0 p.1) c.not_opened.ensures.back;
      fit = λ calls. IfOk-weaker c.not_opened.result _ _ (λ p B. back_fits _ _ _ p.0 p.1 B calls) c.not_opened.ensures.back;
    }
