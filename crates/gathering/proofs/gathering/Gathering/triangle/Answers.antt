use Rattle.std.proofs.Common.{◌≡◌, ℕ, ◌%◌, List, [], ◌∷◌, ◌++◌, length, vec_items, vec_len, sym, subst, arith}
use Rattle.gathering.specs.Limits.{Numbered, Differing}
use Rattle.gathering.proofs.Appended.{one_by_one, numbered_more, differing_more}
use Rattle.gathering.proofs.gathering.Gathering.triangle.Goals as goal

-- src/gathering/calls.rt:60:9
pub invariant_of-self : goal.invariant_of-self
invariant_of-self c =
    let g = c.args.self.now in
    let cs = vec_items g.corners in
    let x = c.args.a in
    let y = c.args.b in
    let z = c.args.c in
    let after : vec_items c.push_reserved-3.new.self ≡ cs ++ x ∷ y ∷ z ∷ [] = cc (one_by_one cs x y z, c.push_reserved.ensures.items, c.push_reserved-2.ensures.items, c.push_reserved-3.ensures.items) in
    let m : length cs % 3 ≡ 0 = subst (λ (n : ℕ). n % 3 ≡ 0) g.corners.ok.0 g.threes in record { vertices = g.vertices; triangles = omega arith; threes = omega (arith, g.threes); vertex_room = g.vertex_room; corner_room = omega (arith, g.corner_room); numbered = subst (λ (l : List ℕ). Numbered l (vec_len g.positions)) (sym after) (numbered_more cs x y z (vec_len g.positions) g.numbered (omega arith) (omega arith) (omega arith)); differing = subst (λ (l : List ℕ). Differing l) (sym after) (differing_more cs x y z m g.differing c.if-a-b.false c.if-b-c.false c.if-c-a.false) }
