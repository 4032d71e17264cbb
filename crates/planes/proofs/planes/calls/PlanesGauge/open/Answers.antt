use Rattle.std.proofs.Common.{◌≡◌, length, replicate, vec_items, vec_len, sym, ap, ◌∙◌, arith, take_all, rules}
use Rattle.std.proofs.lemmas.Grind.{common_steps}
use Rattle.std.proofs.lemmas.List.{with_items_is, length-replicate}
use Rattle.mesh.specs.Model.{surface, points}
use Rattle.planes.specs.Quadrics.{zero}
use Rattle.planes.specs.AccountsLemmas.{gathered_none, gathered_opening}
use Rattle.planes.proofs.planes.calls.PlanesGauge.open.Goals as goal

pub returns-clause-opened : goal.returns-clause-opened
returns-clause-opened c =
    let m = c.args.mesh.now in
    let n = length (vec_items m.positions) in
    let table = c.resize.new.self in
    let xs = c.gather.new.table in
    let count : length c.positions-n.result.now ≡ n = ap length c.positions-n.ensures.value in
    let empty : vec_items table ≡ replicate n zero = search (rules, common_steps) in
    let long : length xs ≡ vec_len table = c.gather.auto.table ∙ c.deref_mut.ensures.len in
    let size : length xs ≡ n = omega (arith, long, table.ok.0, ap length empty, length-replicate n zero) in
    let none = gathered_none (surface m) (points m) c.deref_mut.result.now (λ k l. search (rules, common_steps)) in
    let all = c.gather.ensures.gathered none in (
      omega arith,
      with_items_is table xs long ∙ sym (take_all n xs (omega arith)) ∙ gathered_opening (surface m) (points m) n xs (omega arith) all,
    )
