use Rattle.std.proofs.Common.{◌-ℤ◌, ◌*ℤ◌, lit<, w64, SFits}
use Rattle.std.proofs.lemmas.Int.{to_z-of_z}
use Rattle.geometry.proofs.Bounds.{mul_bounded, sub_bounded, fits_64}
use Rattle.geometry.proofs.minor.Goals as goal

pub overflow_sub-result : goal.overflow_sub-result
overflow_sub-result c =
    let x = c.args in
    let p = mul_bounded 255 255 x.a x.d c.requires.small.0 c.requires.small.3 in
    let q = mul_bounded 255 255 x.b x.c c.requires.small.1 c.requires.small.2 in
    let fa : SFits w64 x.a = c.ranges.a in
    let fb : SFits w64 x.b = c.ranges.b in
    let fc : SFits w64 x.c = c.ranges.c in
    let fd : SFits w64 x.d = c.ranges.d in
    let fp : SFits w64 (x.a *ℤ x.d) = fits_64 65025 _ p (lit< tt) in
    let fq : SFits w64 (x.b *ℤ x.c) = fits_64 65025 _ q (lit< tt) in
    simp to_z-of_z (fits_64 130050 _ (sub_bounded 65025 65025 (x.a *ℤ x.d) (x.b *ℤ x.c) p q) (lit< tt))

pub returns : goal.returns
returns c =
    let x = c.args in
    let p = mul_bounded 255 255 x.a x.d c.requires.small.0 c.requires.small.3 in
    let q = mul_bounded 255 255 x.b x.c c.requires.small.1 c.requires.small.2 in
    let r = sub_bounded 65025 65025 (x.a *ℤ x.d) (x.b *ℤ x.c) p q in
    let fa : SFits w64 x.a = c.ranges.a in
    let fb : SFits w64 x.b = c.ranges.b in
    let fc : SFits w64 x.c = c.ranges.c in
    let fd : SFits w64 x.d = c.ranges.d in
    let fp : SFits w64 (x.a *ℤ x.d) = fits_64 65025 _ p (lit< tt) in
    let fq : SFits w64 (x.b *ℤ x.c) = fits_64 65025 _ q (lit< tt) in
    let fr : SFits w64 (x.a *ℤ x.d -ℤ x.b *ℤ x.c) = fits_64 130050 _ r (lit< tt) in
    record { value = simp to_z-of_z; bound = simp to_z-of_z r }
