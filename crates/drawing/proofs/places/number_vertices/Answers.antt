use Rattle.std.proofs.Common.{◌≡◌, ℕ, ◌<◌, ◌≢◌, length, get_or, set, vec_len, sym, ◌∙◌, arith, get_or-set_other, get_or-set_same, below_more}
use Rattle.mesh.specs.Model.{held}
use Rattle.drawing.specs.Places.{place}
use Rattle.drawing.proofs.Counts.{count_zero, count_on, count_off, count_most}
use Rattle.drawing.proofs.places.number_vertices.Goals as goal
use Rattle.drawing.proofs.places.number_vertices.Goals.{then-is_vertex, else-is_vertex}

pub loop-v-init : goal.loop-v-init
loop-v-init c = (sym (count_zero (held c.args.edges.now).present), λ v l. absurd (omega arith))

pub overflow_add-place : goal.overflow_add-place
overflow_add-place c =
    let m = count_most (held c.args.edges.now).present c.loop-v.v in
    let f = c.args.edges.now.few_vertices in
    let i = c.loop-v.invariant.0 in
    omega arith

pub loop-v-preserved : goal.loop-v-preserved
loop-v-preserved c =
    let e = c.args.edges.now in
    let f = (held e).present in
    let v = c.loop-v.v in
    let k = c.loop-v.place in
    let l = c.loop-v.places in
    let r = sym c.is_vertex.ensures.value in
    let i = c.loop-v.invariant.0 in
    let lt : v < length l = omega arith in (
      elim c.if-is_vertex.branch [
        | then-is_vertex w ↦ let n = count_on f v (r ∙ w.if-is_vertex.true) in let j = w.place-is in omega arith
        | else-is_vertex w ↦ let n = count_off f v (r ∙ w.if-is_vertex.false) in let j = w.place-is in omega arith
      ],
      below_more (λ (j : ℕ). get_or (set l v k) j 0 ≡ place (held e) j) v
          (λ j m. let ne : j ≢ v = omega arith in get_or-set_other l v j k 0 ne ∙ c.loop-v.invariant.1 j m)
          (get_or-set_same l v k 0 lt ∙ i),
    )

pub returns : goal.returns
returns c =
    let e = c.args.edges.now in
    let i : c.loop-v.v ≡ vec_len e.vertices = omega arith in
    record { numbered = λ v l. c.loop-v.invariant.1 v (omega arith) }
