use Rattle.std.proofs.Common.{◌≡◌, true, get_or, is_some, None, sym, ap, ◌∙◌, subst}
use Rattle.queue.specs.Meaning.{keys_of}
use Rattle.opened_surface.specs.Mending.{Fit}
use Rattle.opened_surface.proofs.Walked.{flag_set, left_alone}
use Rattle.opened_surface.proofs.keys.refresh.Goals as goal

pub returns-then-is_some : goal.returns-then-is_some
returns-then-is_some g c =
    let keys = keys_of c.args.queue.now in
    let some : is_some (get_or keys c.args.h None) ≡ true =
    ap (λ i. is_some (get_or keys i None)) (sym c.from.ensures) ∙ sym (ap is_some c.key.ensures) ∙ sym c.if-is_some.ensures in
    record {
      refreshed = λ f. left_alone g.G.Gauge c.args.mesh.now c.args.gauge.now c.args.h keys (subst (λ how. Fit g.G.Gauge c.args.mesh.now c.args.gauge.now how keys) (flag_set g.row.ONLY_MISSING c.if-this-ne0.true) f) some;
    }
