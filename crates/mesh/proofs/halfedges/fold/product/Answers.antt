use Rattle.std.proofs.Common.{◌*ℤ◌, lit<, w64, SFits}
use Rattle.std.proofs.lemmas.Int.{to_z-of_z}
use Rattle.geometry.proofs.Bounds.{mul_bounded, fits_64}
use Rattle.mesh.proofs.halfedges.fold.product.Goals as goal

pub overflow_mul-result : goal.overflow_mul-result
overflow_mul-result c =
    let x = c.args in
    let fa : SFits w64 x.a = c.ranges.a in
    let fb : SFits w64 x.b = c.ranges.b in
    simp to_z-of_z (fits_64 16913002500 (x.a *ℤ x.b) (mul_bounded 130050 130050 x.a x.b c.requires.small.0 c.requires.small.1) (lit< tt))

pub returns : goal.returns
returns c =
    let x = c.args in
    let fa : SFits w64 x.a = c.ranges.a in
    let fb : SFits w64 x.b = c.ranges.b in
    let p = mul_bounded 130050 130050 x.a x.b c.requires.small.0 c.requires.small.1 in
    let fp : SFits w64 (x.a *ℤ x.b) = fits_64 16913002500 (x.a *ℤ x.b) p (lit< tt) in
    record { value = simp to_z-of_z; bound = simp to_z-of_z p }
