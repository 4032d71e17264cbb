use Rattle.std.proofs.Common.{◌*ℤ◌, ap, lit<, w64, SFits}
use Rattle.std.proofs.lemmas.Int.{to_z-of_z}
use Rattle.geometry.proofs.Bounds.{mul_bounded, fits_64}
use Rattle.sweep.proofs.volume.along.Goals as goal

pub overflow_mul-result : goal.overflow_mul-result
overflow_mul-result c =
    let n = c.args.n in
    let d = c.difference.result in
    let fn : SFits w64 n = c.ranges.n in
    let fd : SFits w64 d = fits_64 255 d c.difference.ensures.bound (lit< tt) in
    simp to_z-of_z (fits_64 33162750 _ (mul_bounded 130050 255 n d c.requires.small c.difference.ensures.bound) (lit< tt))

pub returns : goal.returns
returns c =
    let n = c.args.n in
    let d = c.difference.result in
    let fn : SFits w64 n = c.ranges.n in
    let fd : SFits w64 d = fits_64 255 d c.difference.ensures.bound (lit< tt) in
    let b = mul_bounded 130050 255 n d c.requires.small c.difference.ensures.bound in
    let fp : SFits w64 (n *ℤ d) = fits_64 33162750 _ b (lit< tt) in
    record { value = simp to_z-of_z (ap (λ z. n *ℤ z) c.difference.ensures.value); bound = simp to_z-of_z b }
