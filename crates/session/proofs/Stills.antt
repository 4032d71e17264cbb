-- Without calls, what was opened stays as it was opened.
use Rattle.std.proofs.Common.{◌≡◌, ℕ, zero, suc, ◌/◌, ◌≤◌, true, false, List, [], ◌∷◌, ◌++◌, length, get_or, replicate, Ok, refl, ap, arith}
use Rattle.std.proofs.lemmas.Bool.{both_ways}
use Rattle.std.proofs.lemmas.List.{get_or-replicate}
use Rattle.surface.specs.Read.{read}
use Rattle.gathering.specs.Model.{positions, corners, surface_of, triangle_count}
use Rattle.geometry.specs.declared.Position.{Position}
use Rattle.judging.specs.Verdict.{Judged, Counted}
use Rattle.judging.specs.declared.verdict.Counts.{Counts}
use Rattle.ledger.specs.Book.{surface_now}
use Rattle.mesh.specs.Stages.{stage}
use Rattle.opened_surface.specs.Openings.{first_book}
use Rattle.session.specs.Lines.{Line, triangle_line, triangle_lines}
use Rattle.session.specs.Replies as rule
use Rattle.session.specs.Still.{not_opened, as_opened, StaysOpened, KeepsOpened, WritesGathered, EndsWithCounts, gathered_lines}
use Rattle.session.specs.declared.reply.Reply.TheVariants.{Ended}
use Rattle.session.specs.declared.still.Still.{Still}
use Rattle.session.proofs.JudgedOnce.{counted_once}

pub stays_opened : StaysOpened
stays_opened h k c r w (rule.Replied.refused x) a = a
stays_opened h k c r w (rule.Replied.obeyed (rule.Obeys.name f e)) a = not_opened
stays_opened h k c r w (rule.Replied.obeyed (rule.Obeys.vertex f)) a = not_opened
stays_opened h k c r w (rule.Replied.obeyed (rule.Obeys.triangle f)) a = not_opened
stays_opened h k c r w (rule.Replied.obeyed (rule.Obeys.open_closed {ps} {cs} {n} g p j l)) a = as_opened ps cs n j
stays_opened h k c r w (rule.Replied.obeyed rule.Obeys.write) a = a
stays_opened h k c r w (rule.Replied.obeyed rule.Obeys.end_early) a = a
stays_opened h k c r w (rule.Replied.obeyed (rule.Obeys.end x)) a = a
stays_opened h k c r w (rule.Replied.called x) a = absurd (both_ways false refl w)

lines_below : (ps : List Position) (cs : List ℕ) (n : ℕ) → n ≤ triangle_count cs → triangle_lines (surface_of ps cs) n ≡ gathered_lines cs n
unfolding read
lines_below ps cs zero l = refl
lines_below ps cs (suc n) l =
    let lives : get_or (replicate (length cs / 3) true) n false ≡ true = get_or-replicate (length cs / 3) n true false l in
    rw lives (ap (λ (ls : List Line). ls ++ triangle_line (surface_of ps cs) n ∷ []) (lines_below ps cs n (omega (arith, l))))

pub keeps_opened : KeepsOpened
keeps_opened on b c k r (rule.Replied.refused x) w = refl
keeps_opened on b c k r (rule.Replied.obeyed rule.Obeys.write) w = refl
keeps_opened on b c k r (rule.Replied.obeyed (rule.Obeys.end x)) w = refl
keeps_opened on b c k r (rule.Replied.called x) w = absurd (both_ways false refl w)

pub writes_gathered : WritesGathered
unfolding stage
writes_gathered on ps cs = lines_below ps cs (triangle_count cs) (omega arith)

pub ends_with_counts : EndsWithCounts
unfolding stage
ends_with_counts on ps cs n r k j (rule.Replied.obeyed (rule.Obeys.end {n = m} x)) = ap (λ (x : Counts). Ok (Ended x)) (counted_once (surface_of ps cs) (triangle_count cs) (length ps) m n x j.2)
ends_with_counts on ps cs n r k j (rule.Replied.refused (rule.Refuses.already_opened c g)) = absurd g

-- the counts of the judge are those of the surface as it is opened
pub still_counted : (s : Still) → Judged (positions s.gathering) (corners s.gathering) (Ok s.counts) →
    Counted (surface_now (first_book (positions s.gathering) (corners s.gathering))) (triangle_count (corners s.gathering)) (length (positions s.gathering)) s.counts
unfolding stage
still_counted s j = j.2
