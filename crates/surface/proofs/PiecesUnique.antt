-- There is one number of pieces.
use Rattle.std.proofs.Common.{ℕ, ◌≤◌, get_or, arith}
use Rattle.surface.specs.Surface.{Surface}
use Rattle.surface.specs.Pieces.{Chain, Pieces}
use Rattle.surface.specs.Laws.{PiecesUnique}
use Rattle.surface.proofs.Pigeon.{pigeon}
use Rattle.surface.proofs.Chains.{chain_then, chain_back}

most : {S : Surface} {m n : ℕ} → Pieces S m → Pieces S n → m ≤ n
most {S} {m} {n} p q =
    pigeon m n (λ i j. Chain S (get_or p.roots i 0) (get_or q.roots j 0)) (λ i l. q.reached (get_or p.roots i 0) (p.live i l))
    (λ i k j l o c d. p.apart i k l o (chain_then c (chain_back d)))

pub pieces_unique : PiecesUnique
pieces_unique S m n p q = omega (arith, most p q, most q p)
