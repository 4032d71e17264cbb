-- Opening what is gathered, by the rules of the session.
use Rattle.std.proofs.Common.{◌≡◌, Bool, length, Ok, Result, sym, refl, subst, arith}
use Rattle.gathering.specs.Model.{positions, corners, triangle_count}
use Rattle.gathering.specs.declared.gathering.Gathering.{Gathering}
use Rattle.judging.specs.Verdict.{Judged, Counted}
use Rattle.judging.specs.declared.verdict.Counts.{Counts}
use Rattle.mesh.specs.Laws.{triangle_slots, vertex_slots}
use Rattle.mesh.specs.Model.{surface}
use Rattle.order.specs.declared.Ordered.{Ghosts as Order}
use Rattle.gauge.specs.declared.Gauge.{Ghosts}
use Rattle.ledger.specs.Book.{Book}
use Rattle.opened_surface.specs.Openings.{OpenedWith, WhyNot, HandedBack}
use Rattle.opened_surface.specs.Parts.{mesh_of}
use Rattle.opened_surface.specs.Tied.{book_of}
use Rattle.opened_surface.specs.declared.opened.Opened.{Opened}
use Rattle.opened_surface.specs.declared.opened.opening.OpenRefusal.{OpenRefusal}
use Rattle.opened_surface.specs.declared.opened.opening.OpenRefusal.TheVariants.{Flawed, TooManyVertices}
use Rattle.opened_surface.specs.declared.opened.opening.Unopened.{Unopened}
use Rattle.opened_surface.specs.declared.opened.opening.Why.{Why}
use Rattle.opened_surface.specs.declared.opened.opening.Why.TheVariants as why
use Rattle.session.specs.Back.{BackWith}
use Rattle.session.specs.Fits.{Fits}
use Rattle.session.specs.Gauges.{gauge_number, most_vertices}
use Rattle.session.specs.Held.{gathering, opened, held}
use Rattle.session.specs.Replies as rule
use Rattle.session.specs.Replies.{Replied, Refuses}
use Rattle.session.specs.declared.command.Command.TheVariants.{Open}
use Rattle.session.specs.declared.gauges.Gauge.{Gauge}
use Rattle.session.specs.declared.refusal.Refusal.{Refusal}
use Rattle.session.specs.declared.refusal.Refusal.TheVariants as no
use Rattle.session.specs.declared.reply.Reply.{Reply}
use Rattle.session.specs.declared.reply.Reply.TheVariants as reply
use Rattle.session.specs.declared.state.State.{State}

-- what is refused is gathered on, with calls and without them
pub back_fits : (g : Gathering) (named : Bool) (why : Why) (state : State) (r : Result Reply Refusal) → BackWith g named why state r → (calls : Bool) → Fits calls state
back_fits g named why state r B calls = rw B.state_is tt

module _ {G C E Z : Type 0} (m : Ghosts G C E Z) (o : Order C) (on : Gauge) (named : Bool) (g : Gathering) (gauge : G) (most : m.capacity gauge ≡ most_vertices on) where
  -- it is opened
  pub opened_replied : (x : Opened G C E Z m o) (n : Counts) → OpenedWith m o g gauge x → Counted (surface (mesh_of x)) (triangle_slots (mesh_of x)) (vertex_slots (mesh_of x)) n →
      Replied (gathering named (positions g) (corners g)) (Open (gauge_number on)) (Ok (reply.Opened n)) (opened on (book_of (mesh_of x)))
  opened_replied x n W K =
      let first = subst (λ (b : Book). Counted (surface (mesh_of x)) b.triangles b.vertices n) W.book_is K in
      let counted = subst (λ S. Counted S (triangle_count (corners g)) (length (positions g)) n) W.surface_is first in
      let judged : Judged (positions g) (corners g) (Ok n) = (W.judged.0, W.judged.1, counted) in
      subst (λ (b : Book). Replied (gathering named (positions g) (corners g)) (Open (gauge_number on)) (Ok (reply.Opened n)) (opened on b)) (sym W.book_is)
      (rule.Replied.obeyed (rule.Obeys.open_closed on refl judged (let t = W.taken in omega (arith, most))))

  not_opened : (e : OpenRefusal) → WhyNot m g gauge (why.Refused e) → Refuses (gathering named (positions g) (corners g)) (Open (gauge_number on)) (no.Open e)
  not_opened (Flawed f) J = rule.Refuses.flawed on refl J
  not_opened TooManyVertices ((n, J), l) = rule.Refuses.too_many on n refl J (omega (arith, most))

  -- or goes on being gathered
  pub back_replied : (f : Unopened G) → HandedBack m g gauge f → (state : State) (r : Result Reply Refusal) → BackWith f.gathering named f.why state r →
      Replied (gathering named (positions g) (corners g)) (Open (gauge_number on)) r (held state)
  back_replied f H state r B =
      let W : WhyNot m g gauge (why.Refused B.refusal) = subst (λ (w : Why). WhyNot m g gauge w) B.reason_is H.why_not in
      rw (B.state_is, B.reply_is, H.gathering_same) (rule.Replied.refused (not_opened B.refusal W))
