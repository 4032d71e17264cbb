use Rattle.std.proofs.Common.{◌≡◌, ◌+ℤ◌, ◌*ℤ◌, lit<, w64, SFits}
use Rattle.std.proofs.lemmas.Int.{to_z-of_z}
use Rattle.geometry.proofs.Bounds.{add_bounded, fits_64, same_64}
use Rattle.mesh.proofs.halfedges.fold.scalar_product.Goals as goal

pub overflow_add-result : goal.overflow_add-result
overflow_add-result c =
    let p = c.product.result in
    let q = c.product-2.result in
    let fp : SFits w64 p = fits_64 16913002500 p c.product.ensures.bound (lit< tt) in
    let fq : SFits w64 q = fits_64 16913002500 q c.product-2.ensures.bound (lit< tt) in
    simp to_z-of_z (fits_64 33826005000 (p +ℤ q) (add_bounded 16913002500 16913002500 p q c.product.ensures.bound c.product-2.ensures.bound) (lit< tt))

pub overflow_add-result-2 : goal.overflow_add-result-2
overflow_add-result-2 c =
    let p = c.product.result in
    let q = c.product-2.result in
    let r = c.product-3.result in
    let fp : SFits w64 p = fits_64 16913002500 p c.product.ensures.bound (lit< tt) in
    let fq : SFits w64 q = fits_64 16913002500 q c.product-2.ensures.bound (lit< tt) in
    let fr : SFits w64 r = fits_64 16913002500 r c.product-3.ensures.bound (lit< tt) in
    let s = add_bounded 16913002500 16913002500 p q c.product.ensures.bound c.product-2.ensures.bound in
    let fs : SFits w64 (p +ℤ q) = fits_64 33826005000 (p +ℤ q) s (lit< tt) in
    simp to_z-of_z (fits_64 50739007500 (p +ℤ q +ℤ r) (add_bounded 33826005000 16913002500 (p +ℤ q) r s c.product-3.ensures.bound) (lit< tt))

pub returns : goal.returns
returns c =
    let p = c.product.result in
    let q = c.product-2.result in
    let r = c.product-3.result in
    let fp : SFits w64 p = fits_64 16913002500 p c.product.ensures.bound (lit< tt) in
    let fq : SFits w64 q = fits_64 16913002500 q c.product-2.ensures.bound (lit< tt) in
    let fr : SFits w64 r = fits_64 16913002500 r c.product-3.ensures.bound (lit< tt) in
    let s = add_bounded 16913002500 16913002500 p q c.product.ensures.bound c.product-2.ensures.bound in
    let fs : SFits w64 (p +ℤ q) = fits_64 33826005000 (p +ℤ q) s (lit< tt) in
    let t = add_bounded 33826005000 16913002500 (p +ℤ q) r s c.product-3.ensures.bound in
    let ft : SFits w64 (p +ℤ q +ℤ r) = fits_64 50739007500 (p +ℤ q +ℤ r) t (lit< tt) in
    let n = c.args.n in
    let m = c.args.m in
    let nx = same_64 130050 n.x c.requires.first_small.0 (lit< tt) in
    let ny = same_64 130050 n.y c.requires.first_small.1 (lit< tt) in
    let nz = same_64 130050 n.z c.requires.first_small.2 (lit< tt) in
    let mx = same_64 130050 m.x c.requires.second_small.0 (lit< tt) in
    let my = same_64 130050 m.y c.requires.second_small.1 (lit< tt) in
    let mz = same_64 130050 m.z c.requires.second_small.2 (lit< tt) in
    let vx : p ≡ n.x *ℤ m.x = cc (c.product.ensures.value, nx, mx) in
    let vy : q ≡ n.y *ℤ m.y = cc (c.product-2.ensures.value, ny, my) in
    let vz : r ≡ n.z *ℤ m.z = cc (c.product-3.ensures.value, nz, mz) in
    record { value = simp to_z-of_z (cc (vx, vy, vz)); bound = simp to_z-of_z t }
