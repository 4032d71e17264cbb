-- A collapse keeps the number of pieces.
use Rattle.std.proofs.Common.{◌≡◌, ℕ, ◌<◌, true, map, get_or, sym, refl, ◌∙◌, subst}
use Rattle.std.proofs.lemmas.List.{length-map, get_or-map}
use Rattle.surface.specs.Surface.{Surface}
use Rattle.surface.specs.Collapse.{rename, collapse}
use Rattle.surface.specs.Pieces.{Pieces}
use Rattle.surface.specs.Laws.{PiecesKept}
use Rattle.surface.proofs.Sealed.{Sealed}
use Rattle.surface.proofs.Pinch.{Pinch}
use Rattle.surface.proofs.Collapse.{rename_miss, present_parts}
use Rattle.surface.proofs.Pinched.{pinch}
use Rattle.surface.proofs.FromRings.{sealed}
use Rattle.surface.proofs.Chains.{chain_from, chain_to, kept, unkept}

module _ {S : Surface} (K : Sealed S) {e f u w a b : ℕ} (P : Pinch S (collapse S u w) (rename u w) e f u w a b) (n : ℕ) where
  there : Pieces S n → Pieces (collapse S u w) n
  there p =
      record {
        roots = map (rename u w) p.roots;
        many = length-map p.roots (rename u w) ∙ p.many;
        live = λ i l. subst (λ x. (collapse S u w).present x ≡ true) (sym (at i l)) ((P.I.vertex (root i)).1 (get_or p.roots i 0, p.live i l, refl));
        apart = λ i j l m c. p.apart i j l m (unkept K P c (get_or p.roots i 0) (get_or p.roots j 0) (sym (at i l)) (sym (at j m)));
        reached = λ v q.
            let (x, d) = present_parts S u w v q in
            let (i, l, c) = p.reached v x in
            (i, l, chain_to (sym (at i l)) (chain_from (rename_miss u w v d) (kept K P c)));
      }
    where
      root : ℕ → ℕ
      root i = rename u w (get_or p.roots i 0)

      at : (i : ℕ) → i < n → get_or (map (rename u w) p.roots) i 0 ≡ rename u w (get_or p.roots i 0)
      at i l = get_or-map (rename u w) p.roots i 0 0 (subst (λ x. i < x) (sym p.many) l)

  back : Pieces (collapse S u w) n → Pieces S n
  back p =
      record {
        roots = p.roots;
        many = p.many;
        live = λ i l. (present_parts S u w (get_or p.roots i 0) (p.live i l)).0;
        apart = λ i j l m c. p.apart i j l m (chain_to (same j m) (chain_from (same i l) (kept K P c)));
        reached = λ v q.
            let (i, l, c) = p.reached (rename u w v) ((P.I.vertex (rename u w v)).1 (v, q, refl)) in
            (i, l, unkept K P c v (get_or p.roots i 0) refl (same i l));
      }
    where
      same : (i : ℕ) → i < n → rename u w (get_or p.roots i 0) ≡ get_or p.roots i 0
      same i l = rename_miss u w (get_or p.roots i 0) (present_parts S u w (get_or p.roots i 0) (p.live i l)).1

pub pieces_kept : PiecesKept
pieces_kept S C u w (e, a, te) D n =
    let K : Sealed S = sealed C in
    let (f, b, tf) = K.matched te in
    let P : Pinch S (collapse S u w) (rename u w) e f u w a b = pinch K te tf in
    (there K P n, back K P n)
