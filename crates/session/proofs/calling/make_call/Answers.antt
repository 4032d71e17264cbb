use Rattle.std.proofs.Common.{Err, refl, ap, ◌∙◌}
use Rattle.std.proofs.lemmas.Result.{err_from_is_err_and}
use Rattle.ledger.specs.declared.call.Refusal.TheVariants.{NonePermitted, NothingDone, NothingAhead, BeyondLog}
use Rattle.opened_surface.specs.Calls.{step_answer, split_answer, redo_answer, go_answer}
use Rattle.session.specs.Calls.{collapsed, stepped, split, redone, went, refused}
use Rattle.session.proofs.Callings.{called_on, none_refused}
use Rattle.session.proofs.calling.make_call.Goals as goal

pub returns-in_err-cost-in-Collapse : goal.returns-in_err-cost-in-Collapse
returns-in_err-cost-in-Collapse g c =
    let p = err_from_is_err_and c.from_residual.result c.from_residual.ensures.1 in
    rw (c.in-Collapse.is, p.1, p.2) (record { replied = called_on g.G.Gauge g.G.Cost.Ordered c.args.opened.now c.collapse.new.self _ refused (c.in_err-cost-in-Collapse.ensures.called) })

pub returns-in_ok-cost-in-Collapse : goal.returns-in_ok-cost-in-Collapse
returns-in_ok-cost-in-Collapse g c = rw (c.in-Collapse.is, c.priced.ensures.value) (record { replied = called_on g.G.Gauge g.G.Cost.Ordered c.args.opened.now c.collapse.new.self _ collapsed (c.in_ok-cost-in-Collapse.ensures.called) })

pub returns-in_err-cost-in-Step : goal.returns-in_err-cost-in-Step
returns-in_err-cost-in-Step g c =
    let p = err_from_is_err_and c.from_residual-in_err-cost-in-Step.result c.from_residual-in_err-cost-in-Step.ensures.1 in
    let e = c.in_err-cost-in-Step.ensures in
    rw c.in-Step.is (record { replied = none_refused g.G.Gauge g.G.Cost.Ordered c.args.opened.now c.step.new.self _ step_answer c.step.result _ NonePermitted _ refl e.ok_part e.value (p.1 ∙ ap Err p.2) (c.step.ensures.called) })

pub returns-in_ok-cost-in-Step : goal.returns-in_ok-cost-in-Step
returns-in_ok-cost-in-Step g c =
    let k = c.in_ok-cost-in-Step in
    rw (c.in-Step.is, c.priced-in-Step.ensures.value) (record { replied = called_on g.G.Gauge g.G.Cost.Ordered c.args.opened.now c.step.new.self _ stepped (rw k.ensures.ok_part at c.step.ensures.called) })

pub returns-in_err-position-in-Split : goal.returns-in_err-position-in-Split
returns-in_err-position-in-Split g c =
    let p = err_from_is_err_and c.from_residual-in_err-position-in-Split.result c.from_residual-in_err-position-in-Split.ensures.1 in
    let e = c.in_err-position-in-Split.ensures in
    rw c.in-Split.is (record { replied = none_refused g.G.Gauge g.G.Cost.Ordered c.args.opened.now c.split.new.self _ split_answer c.split.result _ NothingDone _ refl e.ok_part e.value (p.1 ∙ ap Err p.2) (c.split.ensures.called) })

pub returns-in_ok-position-in-Split : goal.returns-in_ok-position-in-Split
returns-in_ok-position-in-Split g c = rw c.in-Split.is (record { replied = called_on g.G.Gauge g.G.Cost.Ordered c.args.opened.now c.split.new.self _ split (rw c.in_ok-position-in-Split.ensures.ok_part at c.split.ensures.called) })

pub returns-in_err-position-in-Redo : goal.returns-in_err-position-in-Redo
returns-in_err-position-in-Redo g c =
    let p = err_from_is_err_and c.from_residual-in_err-position-in-Redo.result c.from_residual-in_err-position-in-Redo.ensures.1 in
    let e = c.in_err-position-in-Redo.ensures in
    rw c.in-Redo.is (record { replied = none_refused g.G.Gauge g.G.Cost.Ordered c.args.opened.now c.redo.new.self _ redo_answer c.redo.result _ NothingAhead _ refl e.ok_part e.value (p.1 ∙ ap Err p.2) (c.redo.ensures.called) })

pub returns-in_ok-position-in-Redo : goal.returns-in_ok-position-in-Redo
returns-in_ok-position-in-Redo g c = rw c.in-Redo.is (record { replied = called_on g.G.Gauge g.G.Cost.Ordered c.args.opened.now c.redo.new.self _ redone (rw c.in_ok-position-in-Redo.ensures.ok_part at c.redo.ensures.called) })

pub returns-in_err-_moves-in-Go : goal.returns-in_err-_moves-in-Go
returns-in_err-_moves-in-Go g c =
    let p = err_from_is_err_and c.from_residual-in_err-_moves-in-Go.result c.from_residual-in_err-_moves-in-Go.ensures.1 in
    let e = c.in_err-_moves-in-Go.ensures in
    rw c.in-Go.is (record { replied = none_refused g.G.Gauge g.G.Cost.Ordered c.args.opened.now c.go.new.self _ go_answer c.go.result _ BeyondLog _ refl e.ok_part e.value (p.1 ∙ ap Err p.2) (c.go.ensures.called) })

pub returns-in_ok-_moves-in-Go : goal.returns-in_ok-_moves-in-Go
returns-in_ok-_moves-in-Go g c = rw c.in-Go.is (record { replied = called_on g.G.Gauge g.G.Cost.Ordered c.args.opened.now c.go.new.self _ went (rw c.in_ok-_moves-in-Go.ensures.ok_part at c.go.ensures.called) })
