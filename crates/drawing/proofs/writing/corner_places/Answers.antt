use Rattle.std.proofs.Common.{◌∙◌, arith}
use Rattle.drawing.proofs.Lows.{few_triangles, live_low, first_low, second_low, third_low, corners_read}
use Rattle.drawing.proofs.writing.corner_places.Goals as goal

pub overflow_mul-h : goal.overflow_mul-h
overflow_mul-h c = let e = c.args.edges.now in omega (arith, live_low e c.args.t c.requires.live, few_triangles e)

pub bounds-places-a : goal.bounds-places-a
bounds-places-a c = omega (arith, first_low c.args.edges.now c.args.t c.requires.live)

pub bounds-places-b : goal.bounds-places-b
bounds-places-b c = omega (arith, second_low c.args.edges.now c.args.t c.requires.live)

pub bounds-places-c : goal.bounds-places-c
bounds-places-c c = omega (arith, third_low c.args.edges.now c.args.t c.requires.live)

pub returns : goal.returns
returns c =
    record {
      value =
          corners_read c.args.edges.now c.args.t c.requires.live c.args.places.now c.requires.numbered _ _ _
          (c.from-a.ensures ∙ c.start.ensures.value) (c.from-b.ensures ∙ c.end.ensures.value) (c.from-c.ensures ∙ c.third.ensures.value);
    }
