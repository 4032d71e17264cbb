use Rattle.std.proofs.Common.{◌≡◌, ◌+ℤ◌, ◌*ℤ◌, ap, ◌∙◌, lit<, w64, SFits}
use Rattle.std.proofs.lemmas.Int.{to_z-of_z}
use Rattle.surface.specs.Geometry.{dot, minus}
use Rattle.geometry.specs.Values.{value_of, vector_of}
use Rattle.geometry.proofs.Bounds.{add_bounded, fits_64, same_64}
use Rattle.sweep.proofs.volume.six_volume.Goals as goal

pub overflow_add-result : goal.overflow_add-result
overflow_add-result c =
    let p = c.along.result in
    let q = c.along-2.result in
    let fp : SFits w64 p = fits_64 33162750 p c.along.ensures.bound (lit< tt) in
    let fq : SFits w64 q = fits_64 33162750 q c.along-2.ensures.bound (lit< tt) in
    simp to_z-of_z (fits_64 66325500 (p +ℤ q) (add_bounded 33162750 33162750 p q c.along.ensures.bound c.along-2.ensures.bound) (lit< tt))

pub overflow_add-result-2 : goal.overflow_add-result-2
overflow_add-result-2 c =
    let p = c.along.result in
    let q = c.along-2.result in
    let r = c.along-3.result in
    let fp : SFits w64 p = fits_64 33162750 p c.along.ensures.bound (lit< tt) in
    let fq : SFits w64 q = fits_64 33162750 q c.along-2.ensures.bound (lit< tt) in
    let fr : SFits w64 r = fits_64 33162750 r c.along-3.ensures.bound (lit< tt) in
    let s = add_bounded 33162750 33162750 p q c.along.ensures.bound c.along-2.ensures.bound in
    let fs : SFits w64 (p +ℤ q) = fits_64 66325500 (p +ℤ q) s (lit< tt) in
    simp to_z-of_z (fits_64 99488250 (p +ℤ q +ℤ r) (add_bounded 66325500 33162750 (p +ℤ q) r s c.along-3.ensures.bound) (lit< tt))

pub returns : goal.returns
returns c =
    let p = c.along.result in
    let q = c.along-2.result in
    let r = c.along-3.result in
    let fp : SFits w64 p = fits_64 33162750 p c.along.ensures.bound (lit< tt) in
    let fq : SFits w64 q = fits_64 33162750 q c.along-2.ensures.bound (lit< tt) in
    let fr : SFits w64 r = fits_64 33162750 r c.along-3.ensures.bound (lit< tt) in
    let s = add_bounded 33162750 33162750 p q c.along.ensures.bound c.along-2.ensures.bound in
    let fs : SFits w64 (p +ℤ q) = fits_64 66325500 (p +ℤ q) s (lit< tt) in
    let t = add_bounded 66325500 33162750 (p +ℤ q) r s c.along-3.ensures.bound in
    let ft : SFits w64 (p +ℤ q +ℤ r) = fits_64 99488250 (p +ℤ q +ℤ r) t (lit< tt) in
    let n = c.normal_of-n.result in
    let nx = same_64 130050 n.x c.normal_of-n.ensures.bound.0 (lit< tt) in
    let ny = same_64 130050 n.y c.normal_of-n.ensures.bound.1 (lit< tt) in
    let nz = same_64 130050 n.z c.normal_of-n.ensures.bound.2 (lit< tt) in
    let way = minus (vector_of c.args.top) (vector_of c.args.p) in
    let vx : p ≡ n.x *ℤ way.x = cc (c.along.ensures.value, nx) in
    let vy : q ≡ n.y *ℤ way.y = cc (c.along-2.ensures.value, ny) in
    let vz : r ≡ n.z *ℤ way.z = cc (c.along-3.ensures.value, nz) in
    let v : p +ℤ q +ℤ r ≡ dot (value_of n) way = cc (vx, vy, vz) in
    record { value = simp to_z-of_z (v ∙ ap (λ m. dot m way) c.normal_of-n.ensures.value); bound = simp to_z-of_z t }
