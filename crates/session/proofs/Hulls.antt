-- What is read of the opened surface is what its book has.
use Rattle.std.proofs.Common.{◌≡◌, vec_len, Result, sym, ap, ◌∙◌, subst}
use Rattle.judging.specs.Verdict.{Counted}
use Rattle.judging.specs.declared.verdict.Counts.{Counts}
use Rattle.mesh.specs.Laws.{triangle_slots, vertex_slots}
use Rattle.mesh.specs.Model.{held, surface}
use Rattle.mesh.specs.declared.halfedges.HalfEdges.{HalfEdges}
use Rattle.mesh.proofs.Meshes.{now_is}
use Rattle.drawing.proofs.Lows.{triangle_slots_lem}
use Rattle.ledger.specs.Book.{surface_now}
use Rattle.ledger.specs.declared.call.Call.{Call as A-call}
use Rattle.opened_surface.specs.Tied.{book_of}
use Rattle.session.specs.Calls.{RepliedOn}
use Rattle.session.specs.Held.{held_hull, hull_mesh, hull_gauge, opened}
use Rattle.session.specs.Lines.{triangle_lines}
use Rattle.session.specs.Session.{held_lines}
use Rattle.session.specs.Replies.{Replied, called}
use Rattle.session.specs.declared.command.Command.TheVariants.{Call}
use Rattle.session.specs.declared.gauges.Gauge.{Gauge}
use Rattle.session.specs.declared.hull.Hull.{Hull}
use Rattle.session.specs.declared.refusal.Refusal.{Refusal}
use Rattle.session.specs.declared.reply.Reply.{Reply}

pub hull_lines : (h : Hull) (e : HalfEdges) → e ≡ (hull_mesh h).edges → triangle_lines (held e) (vec_len e.triangles) ≡ held_lines (held_hull h)
hull_lines h e i =
    let x = hull_mesh h in
    ap (λ (k : HalfEdges). triangle_lines (held k) (vec_len k.triangles)) i
    ∙ ap (λ S. triangle_lines S (vec_len x.edges.triangles)) (now_is x)
    ∙ ap (triangle_lines (surface_now (book_of x))) (triangle_slots_lem x)

pub hull_counted : (h : Hull) (n : Counts) → Counted (surface (hull_mesh h)) (triangle_slots (hull_mesh h)) (vertex_slots (hull_mesh h)) n → Counted (surface_now (book_of (hull_mesh h))) (triangle_slots (hull_mesh h)) (vertex_slots (hull_mesh h)) n
hull_counted h n K = subst (λ S. Counted S (triangle_slots (hull_mesh h)) (vertex_slots (hull_mesh h)) n) (now_is (hull_mesh h)) K

-- a call leaves the surface on its gauge
pub hull_called : (h k : Hull) (c : A-call) (r : Result Reply Refusal) → hull_gauge k ≡ hull_gauge h → RepliedOn (hull_gauge h) (book_of (hull_mesh h)) c r (book_of (hull_mesh k)) → Replied (held_hull h) (Call c) r (held_hull k)
hull_called h k c r i K = subst (λ (g : Gauge). Replied (held_hull h) (Call c) r (opened g (book_of (hull_mesh k)))) (sym i) (called K)
