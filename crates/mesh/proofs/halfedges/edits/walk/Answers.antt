use Rattle.std.proofs.Common.{◌<◌, arith, length-set}
use Rattle.mesh.proofs.Walking.{start, inside, inside_prev, fewer, step, finish}
use Rattle.mesh.proofs.halfedges.edits.walk.Goals as goal

pub loop-h-init : goal.loop-h-init
loop-h-init c = start c.requires.ready

pub overflow_cast-corners : goal.overflow_cast-corners
overflow_cast-corners c = omega (arith, inside c.requires.ready c.loop-h.invariant c.loop-h.auto.corners, c.requires.ready.few)

pub offset_bounds-corners-h : goal.offset_bounds-corners-h
offset_bounds-corners-h c = omega (arith, inside c.requires.ready c.loop-h.invariant c.loop-h.auto.corners, c.requires.ready.few)

pub bounds-corners-h : goal.bounds-corners-h
bounds-corners-h c = omega (arith, inside c.requires.ready c.loop-h.invariant c.loop-h.auto.corners)

pub offset_bounds-twin-preceding : goal.offset_bounds-twin-preceding
offset_bounds-twin-preceding c =
    let p : c.preceding.result < 6144 = rw c.preceding.ensures.value (omega (arith, inside_prev c.requires.ready c.loop-h.invariant c.loop-h.auto.corners, c.requires.ready.linked, c.requires.ready.few)) in
    omega arith

pub bounds-twin-preceding : goal.bounds-twin-preceding
bounds-twin-preceding c = rw c.preceding.ensures.value (inside_prev c.requires.ready c.loop-h.invariant c.loop-h.auto.corners)

pub loop-h-smaller : goal.loop-h-smaller
loop-h-smaller c = rw length-set (fewer c.requires.ready c.loop-h.invariant c.loop-h.auto.corners)

pub loop-h-preserved : goal.loop-h-preserved
loop-h-preserved c = rw c.preceding.ensures.value (step c.requires.ready c.loop-h.invariant c.loop-h.auto.corners c.loop-h-test.true)

pub bounds-corners-last : goal.bounds-corners-last
bounds-corners-last c = omega (arith, inside c.requires.ready c.loop-h.invariant c.loop-h.auto.corners, c.loop-h-test.false)

pub returns : goal.returns
returns c = record { moved = finish c.requires.ready c.loop-h.invariant c.loop-h.auto.corners c.loop-h-test.false }
