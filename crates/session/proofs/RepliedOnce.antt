-- A command has one answer.
use Rattle.std.proofs.Common.{◌≡◌, ℕ, Bool, ◌⊎◌, List, [], ◌∷◌, Ok, Result, sym, refl, ap, ◌∙◌, subst, inl, inr, arith, Bor, Err}
use Rattle.judging.specs.Verdict.{Judged}
use Rattle.geometry.specs.declared.Position.{Position}
use Rattle.gathering.specs.declared.refusal.VertexRefusal.{VertexRefusal}
use Rattle.gathering.specs.declared.refusal.VertexRefusal.TheVariants.{TooManyVertices, CoordinateAbove255}
use Rattle.gathering.specs.declared.refusal.TriangleRefusal.{TriangleRefusal}
use Rattle.gathering.specs.declared.refusal.TriangleRefusal.TheVariants.{TooManyTriangles, UnknownCorner, EqualCorners}
use Rattle.judging.specs.declared.verdict.Flaw.{Flaw}
use Rattle.judging.specs.declared.verdict.Counts.{Counts}
use Rattle.session.specs.Gauges.{gauge_number, most_vertices}
use Rattle.session.specs.Held.{Held, opened}
use Rattle.ledger.specs.Book.{surface_now}
use Rattle.opened_surface.specs.Openings.{first_book}
use Rattle.opened_surface.specs.declared.opened.opening.OpenRefusal.TheVariants.{Flawed}
use Rattle.session.specs.Lines.{opened as opened_line, named, ended, refused}
use Rattle.session.specs.Numbers.{number}
use Rattle.session.specs.Replies as rule
use Rattle.session.specs.Replies.{Replied, Refuses, Obeys, NameFits, NameRefused, VertexFits, VertexRefused, TriangleFits, TriangleRefused}
use Rattle.session.specs.declared.command.Command.{Command}
use Rattle.session.specs.declared.command.Command.TheVariants.{Name}
use Rattle.session.specs.declared.gauges.Gauge.{Gauge}
use Rattle.session.specs.declared.gauges.Gauge.TheVariants.{Planes, Sweep}
use Rattle.session.specs.declared.refusal.Refusal.{Refusal}
use Rattle.session.specs.declared.refusal.Refusal.TheVariants as no
use Rattle.session.specs.declared.reply.Reply.{Reply}
use Rattle.session.proofs.Decoded.{Alike, names, same}
use Rattle.session.proofs.CalledOnce.{Once, called_once}
use Rattle.session.proofs.JudgedOnce.{judged_once, counted_once}

name_fits : (b : Bool) (l : List ℕ) → NameRefused b l → NameFits b l → ⊥
name_fits b l (inl t) f = let e = f.first in let z : ◌≡◌ {A = ℕ} 0 1 = cc in omega arith
name_fits b l (inr (inl t)) f = omega (arith, f.some)
name_fits b l (inr (inr t)) f = omega (arith, f.short)

vertex_fits : (ps : List Position) (x y z : ℕ) (e : VertexRefusal) → VertexRefused ps x y z e → VertexFits ps x y z → ⊥
vertex_fits ps x y z TooManyVertices r f = omega (arith, f.room)
vertex_fits ps x y z CoordinateAbove255 r f = omega (arith, f.near, r.1)

vertex_once : (ps : List Position) (x y z : ℕ) (d e : VertexRefusal) → VertexRefused ps x y z d → VertexRefused ps x y z e → d ≡ e
vertex_once ps x y z TooManyVertices TooManyVertices a b = refl
vertex_once ps x y z TooManyVertices CoordinateAbove255 a b = absurd (omega arith)
vertex_once ps x y z CoordinateAbove255 TooManyVertices a b = absurd (omega arith)
vertex_once ps x y z CoordinateAbove255 CoordinateAbove255 a b = refl

triangle_fits : (ps : List Position) (cs : List ℕ) (a b c : ℕ) (e : TriangleRefusal) → TriangleRefused ps cs a b c e → TriangleFits ps cs a b c → ⊥
triangle_fits ps cs a b c TooManyTriangles r f = omega (arith, f.room)
triangle_fits ps cs a b c UnknownCorner r f = omega (arith, f.gathered, r.1)
triangle_fits ps cs a b c EqualCorners r f = equal r.2
  where
    equal : (a ≡ b) ⊎ ((b ≡ c) ⊎ (c ≡ a)) → ⊥
    equal (inl e) = f.differ.0 e
    equal (inr (inl e)) = f.differ.1 e
    equal (inr (inr e)) = f.differ.2 e

triangle_once : (ps : List Position) (cs : List ℕ) (a b c : ℕ) (d e : TriangleRefusal) → TriangleRefused ps cs a b c d → TriangleRefused ps cs a b c e → d ≡ e
triangle_once ps cs a b c TooManyTriangles TooManyTriangles r s = refl
triangle_once ps cs a b c TooManyTriangles UnknownCorner r s = absurd (omega arith)
triangle_once ps cs a b c TooManyTriangles EqualCorners r s = absurd (omega arith)
triangle_once ps cs a b c UnknownCorner TooManyTriangles r s = absurd (omega arith)
triangle_once ps cs a b c UnknownCorner UnknownCorner r s = refl
triangle_once ps cs a b c UnknownCorner EqualCorners r s = absurd (omega (arith, r.1, s.1))
triangle_once ps cs a b c EqualCorners TooManyTriangles r s = absurd (omega arith)
triangle_once ps cs a b c EqualCorners UnknownCorner r s = absurd (omega (arith, r.1, s.1))
triangle_once ps cs a b c EqualCorners EqualCorners r s = refl

gauge_once : (g h : Gauge) (k : ℕ) → gauge_number g ≡ k → gauge_number h ≡ k → g ≡ h
gauge_once Planes Planes k a b = refl
gauge_once Planes Sweep k a b = absurd (omega arith)
gauge_once Sweep Planes k a b = absurd (omega arith)
gauge_once Sweep Sweep k a b = refl

flaw_once : (ps : List Position) (cs : List ℕ) (f g : Flaw) → Judged ps cs (Err f) → Judged ps cs (Err g) → f ≡ g
flaw_once ps cs f g a b = let e = judged_once ps cs (Err f) (Err g) a b in cc

flaw_or_counts : (ps : List Position) (cs : List ℕ) (f : Flaw) (n : Counts) → Judged ps cs (Err f) → Judged ps cs (Ok n) → ⊥
flaw_or_counts ps cs f n a b = let e = judged_once ps cs (Err f) (Ok n) a b in let z : ◌≡◌ {A = ℕ} 0 1 = cc in omega arith

counts_once : (ps : List Position) (cs : List ℕ) (n m : Counts) → Judged ps cs (Ok n) → Judged ps cs (Ok m) → n ≡ m
counts_once ps cs n m a b = let e = judged_once ps cs (Ok n) (Ok m) a b in cc

refuses_once : {h : Held} {c : Command} {d e : Refusal} → Refuses h c d → Refuses h c e → d ≡ e
refuses_once (rule.Refuses.already_opened c g) (rule.Refuses.already_opened b q) = refl
refuses_once (rule.Refuses.not_opened c g) (rule.Refuses.not_opened b q) = refl
refuses_once (rule.Refuses.not_opened c g) (rule.Refuses.name q) = absurd g
refuses_once (rule.Refuses.not_opened c g) (rule.Refuses.vertex q) = absurd g
refuses_once (rule.Refuses.not_opened c g) (rule.Refuses.triangle q) = absurd g
refuses_once (rule.Refuses.not_opened c g) (rule.Refuses.no_gauge q) = absurd g
refuses_once (rule.Refuses.not_opened c g) (rule.Refuses.flawed i p q) = absurd g
refuses_once (rule.Refuses.not_opened c g) (rule.Refuses.too_many i n p q l) = absurd g
refuses_once (rule.Refuses.name r) (rule.Refuses.not_opened b q) = absurd q
refuses_once (rule.Refuses.name r) (rule.Refuses.name q) = refl
refuses_once (rule.Refuses.vertex r) (rule.Refuses.not_opened b q) = absurd q
refuses_once (rule.Refuses.vertex {ps} {x} {y} {z} {e = d} r) (rule.Refuses.vertex {e} q) = ap no.Vertex (vertex_once ps x y z d e r q)
refuses_once (rule.Refuses.triangle r) (rule.Refuses.not_opened b q) = absurd q
refuses_once (rule.Refuses.triangle {ps} {cs} {a} {b} {c} {e = d} r) (rule.Refuses.triangle {e} q) = ap no.Triangle (triangle_once ps cs a b c d e r q)
refuses_once (rule.Refuses.no_gauge r) (rule.Refuses.not_opened b q) = absurd q
refuses_once (rule.Refuses.no_gauge r) (rule.Refuses.no_gauge q) = refl
refuses_once (rule.Refuses.no_gauge r) (rule.Refuses.flawed i p q) = absurd (r i p)
refuses_once (rule.Refuses.no_gauge r) (rule.Refuses.too_many i n p q l) = absurd (r i p)
refuses_once (rule.Refuses.flawed g p r) (rule.Refuses.not_opened b q) = absurd q
refuses_once (rule.Refuses.flawed g p r) (rule.Refuses.no_gauge q) = absurd (q g p)
refuses_once (rule.Refuses.flawed {ps} {cs} {flaw = f} g p r) (rule.Refuses.flawed {flaw} i q s) = ap (λ (x : Flaw). no.Open (Flawed x)) (flaw_once ps cs f flaw r s)
refuses_once (rule.Refuses.flawed {ps} {cs} {flaw} g p r) (rule.Refuses.too_many i n q s l) = absurd (flaw_or_counts ps cs flaw n r s)
refuses_once (rule.Refuses.too_many g n p r l) (rule.Refuses.not_opened b q) = absurd q
refuses_once (rule.Refuses.too_many g n p r l) (rule.Refuses.no_gauge q) = absurd (q g p)
refuses_once (rule.Refuses.too_many {ps} {cs} g n p r l) (rule.Refuses.flawed {flaw} i q s) = absurd (flaw_or_counts ps cs flaw n s r)
refuses_once (rule.Refuses.too_many g n p r l) (rule.Refuses.too_many i m q s k) = refl

refused_not_obeyed : {h k : Held} {c : Command} {e : Refusal} {r : Reply} → Refuses h c e → Obeys h c r k → ⊥
refused_not_obeyed (rule.Refuses.already_opened c g) rule.Obeys.write = g
refused_not_obeyed (rule.Refuses.already_opened c g) (rule.Obeys.end n) = g
refused_not_obeyed (rule.Refuses.not_opened c g) (rule.Obeys.name f e) = g
refused_not_obeyed (rule.Refuses.not_opened c g) (rule.Obeys.vertex f) = g
refused_not_obeyed (rule.Refuses.not_opened c g) (rule.Obeys.triangle f) = g
refused_not_obeyed (rule.Refuses.not_opened c g) (rule.Obeys.open_closed i p q l) = g
refused_not_obeyed (rule.Refuses.not_opened c g) rule.Obeys.end_early = g
refused_not_obeyed (rule.Refuses.name {named} {s} r) (rule.Obeys.name f e) = name_fits named s.now r f
refused_not_obeyed (rule.Refuses.vertex {ps} {x} {y} {z} {e} r) (rule.Obeys.vertex f) = vertex_fits ps x y z e r f
refused_not_obeyed (rule.Refuses.triangle {ps} {cs} {a} {b} {c} {e} r) (rule.Obeys.triangle f) = triangle_fits ps cs a b c e r f
refused_not_obeyed (rule.Refuses.no_gauge r) (rule.Obeys.open_closed i p q l) = r i p
refused_not_obeyed (rule.Refuses.flawed {ps} {cs} {flaw} g p r) (rule.Obeys.open_closed {n} i q s l) = flaw_or_counts ps cs flaw n r s
refused_not_obeyed (rule.Refuses.too_many g n p r m) (rule.Obeys.open_closed {k} i q s l) = omega (arith, ap most_vertices (gauge_once g i k p q))

obeys_once : {h k l : Held} {c : Command} {r s : Reply} → Obeys h c r k → Obeys h c s l → Once k (Ok r) l (Ok s)
obeys_once (rule.Obeys.name f e) (rule.Obeys.name g d) = (refl, λ at. ap (λ (b : List ℕ). named b ∷ []) (e ∙ sym d))
obeys_once (rule.Obeys.vertex f) (rule.Obeys.vertex g) = (refl, λ at. refl)
obeys_once (rule.Obeys.triangle f) (rule.Obeys.triangle g) = (refl, λ at. refl)
obeys_once (rule.Obeys.open_closed {ps} {cs} {k} {n} g p r l) (rule.Obeys.open_closed {n = m} i q s t) =
    (ap (λ (x : Gauge). opened x (first_book ps cs)) (gauge_once g i k p q), λ at. ap (λ (x : Counts). opened_line x ∷ []) (counts_once ps cs n m r s))
obeys_once rule.Obeys.write rule.Obeys.write = (refl, λ at. refl)
obeys_once rule.Obeys.end_early rule.Obeys.end_early = (refl, λ at. refl)
obeys_once (rule.Obeys.end {b} {n} x) (rule.Obeys.end {n = m} y) = (refl, λ at. ap (λ (k : Counts). ended k ∷ []) (counted_once (surface_now b) b.triangles b.vertices n m x y))

pub replied_once : {h k l : Held} {c : Command} {r s : Result Reply Refusal} → Replied h c r k → Replied h c s l → Once k r l s
replied_once (rule.Replied.refused a) (rule.Replied.refused b) = (refl, λ at. ap (λ (e : Refusal). refused (number e) at ∷ []) (refuses_once a b))
replied_once (rule.Replied.refused a) (rule.Replied.obeyed b) = absurd (refused_not_obeyed a b)
replied_once (rule.Replied.obeyed a) (rule.Replied.refused b) = absurd (refused_not_obeyed b a)
replied_once (rule.Replied.refused (rule.Refuses.already_opened c g)) (rule.Replied.called x) = absurd g
replied_once (rule.Replied.called x) (rule.Replied.refused (rule.Refuses.already_opened c g)) = absurd g
replied_once (rule.Replied.obeyed a) (rule.Replied.obeyed b) = obeys_once a b
replied_once (rule.Replied.obeyed a) (rule.Replied.called x) = elim a [ ]
replied_once (rule.Replied.called x) (rule.Replied.obeyed b) = elim b [ ]
replied_once (rule.Replied.called {on} {b} {d} {c} {r} x) (rule.Replied.called {d = e} {r = t} y) = called_once on b d e c r t x y

-- commands of one spelling are answered alike
named_alike : {h k : Held} {r : Result Reply Refusal} (s t : Bor (List ℕ)) → s.now ≡ t.now → Replied h (Name t) r k → Replied h (Name s) r k
named_alike s t e (rule.Replied.refused (rule.Refuses.already_opened c g)) = rule.Replied.refused (rule.Refuses.already_opened (Name s) tt)
named_alike s t e (rule.Replied.refused (rule.Refuses.not_opened c g)) = absurd g
named_alike s t e (rule.Replied.refused (rule.Refuses.name {named} q)) = rule.Replied.refused (rule.Refuses.name (subst (λ (l : List ℕ). NameRefused named l) (sym e) q))
named_alike s t e (rule.Replied.obeyed (rule.Obeys.name {named} f d)) = rule.Replied.obeyed (rule.Obeys.name (subst (λ (l : List ℕ). NameFits named l) (sym e) f) (d ∙ sym e))

pub replied_alike : {h k : Held} {c d : Command} {r : Result Reply Refusal} → Alike c d → Replied h d r k → Replied h c r k
replied_alike {h} {k} {r} (same e) a = subst (λ (x : Command). Replied h x r k) (sym e) a
replied_alike (names {s} {t} e) a = named_alike s t e a
