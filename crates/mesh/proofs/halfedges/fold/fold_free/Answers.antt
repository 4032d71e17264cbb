use Rattle.std.proofs.Common.{◌≡◌, ap, ◌∙◌}
use Rattle.surface.specs.Geometry.{dot, normal}
use Rattle.geometry.specs.Values.{value_of, vector_of}
use Rattle.mesh.proofs.FoldTest.{sign_told}
use Rattle.mesh.proofs.halfedges.fold.fold_free.Goals as goal

pub returns : goal.returns
returns c =
    let n = normal (vector_of c.args.from) (vector_of c.args.q) (vector_of c.args.r) in
    let is : c.scalar_product.result ≡ dot n _ =
    c.scalar_product.ensures.value ∙ ap (λ v. dot v (value_of c.normal_of-2.result)) c.normal_of.ensures.value ∙ ap (dot n) c.normal_of-2.ensures.value in
    record { above = sign_told _ _ is c.scalar_product.ensures.bound }
