use Rattle.std.proofs.Common.{sym, refl, ◌∙◌}
use Rattle.queue.specs.Meaning.{keys_of}
use Rattle.opened_surface.proofs.Ringed.{priced_grown, priced_covered, opened_grown, opened_covered}
use Rattle.opened_surface.proofs.stale.marking.mark_around.Goals as goal

pub returns-then-is_blind : goal.returns-then-is_blind
returns-then-is_blind g c =
    let three = c.mark_ring.ensures.wider in
    record {
      grown = opened_grown g.G.TellingGauge.blind c.args.mesh.now c.args.u c.args.w c.args.stale.now (record { repriced = c.mark_in-2.new.set; reopened = c.mark_ring.new.set }) (keys_of c.mark_in.new.set) (keys_of c.mark_in-2.new.set) c.mark_in.ensures.wider c.mark_in-2.ensures.wider c.mark_in.ensures.marked c.mark_in-2.ensures.marked refl three;
      covered = λ sized s. opened_covered g.G.TellingGauge.blind c.args.mesh.now c.args.u c.args.w c.args.stale.now (record { repriced = c.mark_in-2.new.set; reopened = c.mark_ring.new.set }) (keys_of c.mark_in.new.set) (keys_of c.mark_in-2.new.set) c.mark_in.ensures.wider c.mark_in-2.ensures.wider c.mark_in.ensures.marked c.mark_in-2.ensures.marked refl three sized s (sym c.is_blind.ensures.value ∙ c.if-is_blind.true) c.mark_ring.ensures.round;
    }

pub returns-else-is_blind : goal.returns-else-is_blind
returns-else-is_blind g c =
    let three = c.mark_ring-else-is_blind.ensures.wider in
    record {
      grown = priced_grown g.G.TellingGauge.blind c.args.mesh.now c.args.u c.args.w c.args.stale.now (record { repriced = c.mark_ring-else-is_blind.new.set; reopened = c.args.stale.now.reopened }) (keys_of c.mark_in.new.set) (keys_of c.mark_in-2.new.set) c.mark_in.ensures.wider c.mark_in-2.ensures.wider c.mark_in.ensures.marked c.mark_in-2.ensures.marked three refl;
      covered = λ sized s. priced_covered g.G.TellingGauge.blind c.args.mesh.now c.args.u c.args.w c.args.stale.now (record { repriced = c.mark_ring-else-is_blind.new.set; reopened = c.args.stale.now.reopened }) (keys_of c.mark_in.new.set) (keys_of c.mark_in-2.new.set) c.mark_in.ensures.wider c.mark_in-2.ensures.wider c.mark_in.ensures.marked c.mark_in-2.ensures.marked three refl sized s c.mark_ring-else-is_blind.ensures.round;
    }
