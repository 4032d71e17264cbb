-- What the calls on a gathering answer, by the rules of the session.
use Rattle.std.proofs.Common.{◌≡◌, ℕ, Bool, List, Ok, Err, subst}
use Rattle.gathering.specs.Gathered.{Unchanged, AddedVertex, AddedTriangle}
use Rattle.gathering.specs.Model.{positions, corners}
use Rattle.gathering.specs.declared.gathering.Gathering.{Gathering}
use Rattle.geometry.specs.declared.Position.{Position}
use Rattle.gathering.specs.declared.refusal.VertexRefusal.{VertexRefusal}
use Rattle.gathering.specs.declared.refusal.VertexRefusal.TheVariants.{TooManyVertices, CoordinateAbove255}
use Rattle.gathering.specs.declared.refusal.TriangleRefusal.{TriangleRefusal}
use Rattle.gathering.specs.declared.refusal.TriangleRefusal.TheVariants.{TooManyTriangles, UnknownCorner, EqualCorners}
use Rattle.session.specs.Held.{Held, gathering}
use Rattle.session.specs.Replies as rule
use Rattle.session.specs.Replies.{Replied, Refuses, VertexRefused, TriangleRefused}
use Rattle.session.specs.declared.command.Command.{Command}
use Rattle.session.specs.declared.command.Command.TheVariants.{Vertex, Triangle}
use Rattle.session.specs.declared.refusal.Refusal.{Refusal}
use Rattle.session.specs.declared.refusal.Refusal.TheVariants as no
use Rattle.session.specs.declared.reply.Reply.TheVariants.{Nothing}

abbrev gathers : Bool → Gathering → Held
gathers named g = gathering named (positions g) (corners g)

same_lists : (named : Bool) (ps qs : List Position) (cs ds : List ℕ) → qs ≡ ps → ds ≡ cs → gathering named ps cs ≡ gathering named qs ds
same_lists named ps qs cs ds e f = cc

unchanged : (named : Bool) (g h : Gathering) → Unchanged g h → gathers named g ≡ gathers named h
unchanged named g h u = same_lists named (positions g) (positions h) (corners g) (corners h) u.positions_same u.corners_same

-- a refusal that leaves the lists as they were
refusing : (named : Bool) (g h : Gathering) (c : Command) (e : Refusal) → Refuses (gathers named g) c e → Unchanged g h → Replied (gathers named g) c (Err e) (gathers named h)
refusing named g h c e r u = subst (λ (k : Held). Replied (gathers named g) c (Err e) k) (unchanged named g h u) (rule.Replied.refused r)

module _ (named : Bool) (g h : Gathering) (x y z : ℕ) where
  pub vertex_taken : AddedVertex g x y z (Ok tt) h → Replied (gathers named g) (Vertex x y z) (Ok Nothing) (gathers named h)
  vertex_taken t =
      subst (λ (k : Held). Replied (gathers named g) (Vertex x y z) (Ok Nothing) k)
      (same_lists named _ _ _ _ t.appended t.corners_same)
      (rule.Replied.obeyed (rule.Obeys.vertex (record { room = t.room; near = t.near })))

  pub vertex_refused : (e : VertexRefusal) → AddedVertex g x y z (Err e) h → Replied (gathers named g) (Vertex x y z) (Err (no.Vertex e)) (gathers named h)
  vertex_refused TooManyVertices t = refusing named g h _ _ (rule.Refuses.vertex {e = TooManyVertices} t.0) t.1
  vertex_refused CoordinateAbove255 t = refusing named g h _ _ (rule.Refuses.vertex {e = CoordinateAbove255} (t.0, t.1)) t.2

module _ (named : Bool) (g h : Gathering) (a b c : ℕ) where
  pub triangle_taken : AddedTriangle g a b c (Ok tt) h → Replied (gathers named g) (Triangle a b c) (Ok Nothing) (gathers named h)
  triangle_taken t =
      subst (λ (k : Held). Replied (gathers named g) (Triangle a b c) (Ok Nothing) k)
      (same_lists named _ _ _ _ t.positions_same t.appended)
      (rule.Replied.obeyed (rule.Obeys.triangle (record { room = t.room; gathered = t.gathered; differ = t.differ })))

  pub triangle_refused : (e : TriangleRefusal) → AddedTriangle g a b c (Err e) h → Replied (gathers named g) (Triangle a b c) (Err (no.Triangle e)) (gathers named h)
  triangle_refused TooManyTriangles t = refusing named g h _ _ (rule.Refuses.triangle {e = TooManyTriangles} t.0) t.1
  triangle_refused UnknownCorner t = refusing named g h _ _ (rule.Refuses.triangle {e = UnknownCorner} (t.0, t.1)) t.2
  triangle_refused EqualCorners t = refusing named g h _ _ (rule.Refuses.triangle {e = EqualCorners} (t.0, t.1, t.2)) t.3
