use Rattle.std.proofs.Common.{◌∙◌}
use Rattle.drawing.proofs.Lows.{live_told}
use Rattle.drawing.proofs.places.is_vertex.Goals as goal

pub returns : goal.returns
returns c = record { value = c.is_some.ensures ∙ live_told c.args.edges.now c.args.v _ c.outgoing.ensures.begins }
