-- What a command is answered, and what is held after it.
use Rattle.std.specs.Prelude.{◌≡◌, ℕ, ◌<◌, ◌≤◌, Bool, true, false, ◌≢◌, ◌⊎◌, List, [], ◌∷◌, ◌++◌, length, pos, Ok, Err, Result}
use Rattle.std.specs.Borrow.{Bor}
use Rattle.gathering.specs.Gathered.{Far, Unknown, Equal, AllKnown}
use Rattle.gathering.specs.Model.{triangle_count}
use Rattle.judging.specs.Verdict.{Judged, Counted}
use Rattle.geometry.specs.declared.Position.{Position}
use Rattle.gathering.specs.declared.refusal.VertexRefusal.{VertexRefusal}
use Rattle.gathering.specs.declared.refusal.VertexRefusal.TheVariants.{TooManyVertices, CoordinateAbove255}
use Rattle.gathering.specs.declared.refusal.TriangleRefusal.{TriangleRefusal}
use Rattle.gathering.specs.declared.refusal.TriangleRefusal.TheVariants.{TooManyTriangles, UnknownCorner, EqualCorners}
use Rattle.judging.specs.declared.verdict.Flaw.{Flaw}
use Rattle.judging.specs.declared.verdict.Counts.{Counts}
use Rattle.ledger.specs.Book.{Book, surface_now}
use Rattle.ledger.specs.declared.call.Call.{Call as A-call}
use Rattle.opened_surface.specs.Openings.{first_book}
use Rattle.opened_surface.specs.declared.opened.opening.OpenRefusal.TheVariants.{Flawed, TooManyVertices as TooLarge}
use Rattle.session.specs.Calls.{RepliedOn}
use Rattle.session.specs.Gauges.{gauge_number, most_vertices}
use Rattle.session.specs.Held.{Held, gathering, opened}
use Rattle.session.specs.declared.command.Command.{Command}
use Rattle.session.specs.declared.command.Command.TheVariants.{Name, Vertex, Triangle, Open, Call, Write, End}
use Rattle.session.specs.declared.gauges.Gauge.{Gauge}
use Rattle.session.specs.declared.refusal.Refusal.{Refusal}
use Rattle.session.specs.declared.refusal.Refusal.TheVariants as no
use Rattle.session.specs.declared.reply.Reply.{Reply}
use Rattle.session.specs.declared.reply.Reply.TheVariants.{Nothing, Named, Opened, Triangles, Ended}

-- the command belongs to gathering
abbrev pub Gathers : Command → Type 0
Gathers (Name s) = Unit {0}
Gathers (Vertex x y z) = Unit {0}
Gathers (Triangle a b c) = Unit {0}
Gathers (Open gauge) = Unit {0}
Gathers (Call c) = ⊥
Gathers Write = ⊥
Gathers End = ⊥

-- the command belongs to an opened surface
abbrev pub Works : Command → Type 0
Works (Name s) = ⊥
Works (Vertex x y z) = ⊥
Works (Triangle a b c) = ⊥
Works (Open gauge) = ⊥
Works (Call c) = Unit {0}
Works Write = Unit {0}
Works End = ⊥

-- a name is taken once, and has 1 to 40 bytes
pub record NameFits (named : Bool) (bytes : List ℕ) : Type 0 where
  pub first : named ≡ false
  pub some : 0 < length bytes
  pub short : length bytes ≤ 40

abbrev pub NameRefused : Bool → List ℕ → Type 0
NameRefused named bytes = (named ≡ true) ⊎ ((length bytes ≡ 0) ⊎ (40 < length bytes))

-- there is room for one more of at most 1,024 vertices, and each coordinate is at most 255
pub record VertexFits (ps : List Position) (x y z : ℕ) : Type 0 where
  pub room : length ps < 1024
  pub near : (x ≤ 255) × (y ≤ 255) × (z ≤ 255)

abbrev pub VertexRefused : List Position → ℕ → ℕ → ℕ → VertexRefusal → Type 0
VertexRefused ps x y z TooManyVertices = 1024 ≤ length ps
VertexRefused ps x y z CoordinateAbove255 = (length ps < 1024) × Far x y z

-- there is room for one more of at most 2,048 triangles, its corners are gathered vertices, and they differ
pub record TriangleFits (ps : List Position) (cs : List ℕ) (a b c : ℕ) : Type 0 where
  pub room : triangle_count cs < 2048
  pub gathered : AllKnown (length ps) a b c
  pub differ : (a ≢ b) × (b ≢ c) × (c ≢ a)

abbrev pub TriangleRefused : List Position → List ℕ → ℕ → ℕ → ℕ → TriangleRefusal → Type 0
TriangleRefused ps cs a b c TooManyTriangles = 2048 ≤ triangle_count cs
TriangleRefused ps cs a b c UnknownCorner = (triangle_count cs < 2048) × Unknown (length ps) a b c
TriangleRefused ps cs a b c EqualCorners = (triangle_count cs < 2048) × AllKnown (length ps) a b c × Equal a b c

-- the first reason to refuse the command, in the order: the other state, the name, the gauge, and then what the call itself refuses
pub data Refuses : Held → Command → Refusal → Type 0 where
  already_opened : {on : Gauge} {b : Book} (c : Command) → Gathers c → Refuses (opened on b) c no.OtherState
  not_opened : {named : Bool} {ps : List Position} {cs : List ℕ} (c : Command) → Works c → Refuses (gathering named ps cs) c no.OtherState
  name : {named : Bool} {ps : List Position} {cs : List ℕ} {s : Bor (List ℕ)} → NameRefused named s.now → Refuses (gathering named ps cs) (Name s) no.Name
  vertex : {named : Bool} {ps : List Position} {cs : List ℕ} {x y z : ℕ} {e : VertexRefusal} → VertexRefused ps x y z e → Refuses (gathering named ps cs) (Vertex x y z) (no.Vertex e)
  triangle : {named : Bool} {ps : List Position} {cs : List ℕ} {a b c : ℕ} {e : TriangleRefusal} → TriangleRefused ps cs a b c e → Refuses (gathering named ps cs) (Triangle a b c) (no.Triangle e)
  no_gauge : {named : Bool} {ps : List Position} {cs : List ℕ} {k : ℕ} → ((g : Gauge) → gauge_number g ≢ k) → Refuses (gathering named ps cs) (Open k) no.UnknownGauge
  flawed : {named : Bool} {ps : List Position} {cs : List ℕ} {k : ℕ} {flaw : Flaw} (g : Gauge) → gauge_number g ≡ k → Judged ps cs (Err flaw) → Refuses (gathering named ps cs) (Open k) (no.Open (Flawed flaw))
  too_many : {named : Bool} {ps : List Position} {cs : List ℕ} {k : ℕ} (g : Gauge) (n : Counts) → gauge_number g ≡ k → Judged ps cs (Ok n) → most_vertices g < length ps → Refuses (gathering named ps cs) (Open k) (no.Open TooLarge)

-- a command that is obeyed, its answer, and what is held then
pub data Obeys : Held → Command → Reply → Held → Type 0 where
  name : {named : Bool} {ps : List Position} {cs : List ℕ} {s t : Bor (List ℕ)} → NameFits named s.now → t.now ≡ s.now → Obeys (gathering named ps cs) (Name s) (Named t) (gathering true ps cs)
  vertex : {named : Bool} {ps : List Position} {cs : List ℕ} {x y z : ℕ} → VertexFits ps x y z → Obeys (gathering named ps cs) (Vertex x y z) Nothing (gathering named (ps ++ record { x = x; y = y; z = z } ∷ []) cs)
  triangle : {named : Bool} {ps : List Position} {cs : List ℕ} {a b c : ℕ} → TriangleFits ps cs a b c → Obeys (gathering named ps cs) (Triangle a b c) Nothing (gathering named ps (cs ++ a ∷ b ∷ c ∷ []))
  open_closed : {named : Bool} {ps : List Position} {cs : List ℕ} {k : ℕ} {n : Counts} (g : Gauge) → gauge_number g ≡ k → Judged ps cs (Ok n) → length ps ≤ most_vertices g → Obeys (gathering named ps cs) (Open k) (Opened n) (opened g (first_book ps cs))
  write : {on : Gauge} {b : Book} → Obeys (opened on b) Write Triangles (opened on b)
  end_early : {named : Bool} {ps : List Position} {cs : List ℕ} → Obeys (gathering named ps cs) End (Ended (record { vertices = 0; triangles = 0; euler = pos 0; pieces = 0 })) (gathering named ps cs)
  -- the counts of the surface as it is then
  end : {on : Gauge} {b : Book} {n : Counts} → Counted (surface_now b) b.triangles b.vertices n → Obeys (opened on b) End (Ended n) (opened on b)

-- a refused command changes nothing; a call on the opened surface is answered as the ledger has it
pub data Replied : Held → Command → Result Reply Refusal → Held → Type 0 where
  refused : {h : Held} {c : Command} {e : Refusal} → Refuses h c e → Replied h c (Err e) h
  obeyed : {h k : Held} {c : Command} {r : Reply} → Obeys h c r k → Replied h c (Ok r) k
  called : {on : Gauge} {b d : Book} {c : A-call} {r : Result Reply Refusal} → RepliedOn on b c r d → Replied (opened on b) (Call c) r (opened on d)
