use Rattle.std.proofs.Common.{eqb, vec_items}
use Rattle.std.proofs.Math.Bool.{not}
use Rattle.session.specs.Fits.{Fits}
use Rattle.session.specs.Held.{held}
use Rattle.session.specs.Replies.{Replied}
use Rattle.session.proofs.Runs.{further, going_first, done, done_fault, session_last, going_next}
use Rattle.session.proofs.run.answer.Goals as goal
use Rattle.session.proofs.run.answer.Goals.{in-Open+in_ok-next-in-Open, in_default}

pub returns-in-Err : goal.returns-in-Err
returns-in-Err g c =
    let G = c.loop-read.invariant.0 in
    record { answered = done_fault _ _ _ _ _ _ G c.write_fault.result _ c.in-Err.fault c.in-Err.ensures.read c.write_fault.ensures.written }

pub returns-then-stops : goal.returns-then-stops
returns-then-stops g c =
    let G = c.loop-read.invariant.0 in
    let k = held c.match-command.state in
    let r = c.match-command.answer in
    let replied : Replied (held c.loop-read.state) c.in-Ok.read.0 r k =
    elim c.match-command.branch [
      | in-Open+in_ok-next-in-Open w ↦ rw (w.in-Open.is, w.state-is, w.answer-is) w.in_ok-next-in-Open.ensures.replied
      | in_default w ↦ rw (w.state-is, w.answer-is) w.obey-answer.ensures.replied
    ] in
    let last = session_last _ _ _ _ _ _ G c.in-Ok.read.0 c.in-Ok.read.1.now r k c.in-Ok.ensures.read replied c.if-stops.ensures.value in
    record { answered = done _ _ _ _ _ _ G _ _ last c.in_ok-write_answer.ensures.written }

pub loop-read-preserved : goal.loop-read-preserved
loop-read-preserved g c =
    let G = c.loop-read.invariant.0 in
    let k = held c.match-command.state in
    let r = c.match-command.answer in
    let replied : Replied (held c.loop-read.state) c.in-Ok.read.0 r k =
    elim c.match-command.branch [
      | in-Open+in_ok-next-in-Open w ↦ rw (w.in-Open.is, w.state-is, w.answer-is) w.in_ok-next-in-Open.ensures.replied
      | in_default w ↦ rw (w.state-is, w.answer-is) w.obey-answer.ensures.replied
    ] in
    let fits : Fits (not (eqb g.row.CALLS 0)) c.match-command.state =
    elim c.match-command.branch [
      | in-Open+in_ok-next-in-Open w ↦ rw w.state-is w.in_ok-next-in-Open.ensures.fit
      | in_default w ↦ rw w.state-is w.obey-answer.ensures.fit
    ] in
    (going_next _ _ _ _ _ _ G c.in-Ok.read.0 c.in-Ok.read.1.now r k c.in-Ok.ensures.read replied (vec_items c.write_answer.new.out) c.if-stops.ensures.value c.in_ok-write_answer.ensures.written, fits)

pub loop-read-init : goal.loop-read-init
loop-read-init g c = (going_first _ c.args.input.now (vec_items c.args.out.now) (held c.in_ok-state.state) c.in_ok-state.ensures.empty, c.in_ok-state.ensures.fit _)

pub loop-read-smaller : goal.loop-read-smaller
loop-read-smaller g c = further _ c.loop-read.rest.now c.in-Ok.read.0 c.in-Ok.read.1.now c.in-Ok.ensures.read
