use Rattle.std.proofs.Common.{◌≡◌, ◌<◌, length, vec_items, sym, refl, ◌∙◌, arith}
use Rattle.std.proofs.lemmas.List.Edits.{swapped_from_swap}
use Rattle.std.proofs.lemmas.Bool.{lt-ltb}
use Rattle.queue.proofs.Fills.{filled_exchanged, keys_exchanged}
use Rattle.queue.proofs.Queues.{seats}
use Rattle.queue.proofs.heap.Heap.exchange.Goals as goal

pub invariant_of-self : goal.invariant_of-self
invariant_of-self g c =
    let q = c.args.self.now in
    let a = c.args.a in
    let b = c.args.b in
    let xs = vec_items q.seating.number in
    let zs = vec_items c.exchange.new.self.number in
    let la : a < length xs = omega (arith, seats q, q.counted, c.requires.a_within) in
    let lb : b < length xs = omega (arith, seats q, q.counted, c.requires.b_within) in
    let long : length zs ≡ length xs = omega (arith, seats q, q.even, c.exchange.new.self.number.ok.0, c.exchange.ensures.len) in
    let swap = swapped_from_swap xs zs a b 0 la lb c.exchange.ensures.items in
    let same = lt-ltb a q.count c.requires.a_within ∙ sym (lt-ltb b q.count c.requires.b_within) in
    record { even = c.exchange.ensures.len ∙ q.even; counted = q.counted; filled = filled_exchanged xs zs (vec_items q.keys) a b swap q.count long la lb same q.filled }

pub returns : goal.returns
returns g c =
    let q = c.args.self.now in
    let a = c.args.a in
    let b = c.args.b in
    let xs = vec_items q.seating.number in
    let zs = vec_items c.exchange.new.self.number in
    let la : a < length xs = omega (arith, seats q, q.counted, c.requires.a_within) in
    let lb : b < length xs = omega (arith, seats q, q.counted, c.requires.b_within) in
    let swap = swapped_from_swap xs zs a b 0 la lb c.exchange.ensures.items in
    record { keys = refl; count = refl; exchanged = keys_exchanged xs zs (vec_items q.keys) a b swap }
