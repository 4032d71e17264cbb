use Rattle.std.proofs.Common.{sym, refl}
use Rattle.std.proofs.lemmas.List.{set-get_or}
use Rattle.sweep.specs.Entries.{entries}
use Rattle.sweep.proofs.Pairs.{pair_told}
use Rattle.sweep.proofs.SweepGauge.part.Goals as goal

pub returns : goal.returns
returns c =
    let s = c.args.self.now in
    record {
      parted = pair_told s.count c.args.u c.args.w (sym (set-get_or (entries s) c.args.w tt)) refl c.check_pair.result c.check_pair.ensures.pair;
      setting = refl;
      capacity = refl;
    }
