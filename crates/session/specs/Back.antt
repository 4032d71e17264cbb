-- A gathering that is opened, and one that goes on being gathered.
use Rattle.std.specs.Prelude.{◌≡◌, Bool, Ok, Err, Result}
use Rattle.gathering.specs.declared.gathering.Gathering.{Gathering}
use Rattle.judging.specs.Verdict.{Counted}
use Rattle.judging.specs.declared.verdict.Counts.{Counts}
use Rattle.mesh.specs.Laws.{triangle_slots, vertex_slots}
use Rattle.mesh.specs.Model.{surface}
use Rattle.opened_surface.specs.declared.opened.opening.OpenRefusal.{OpenRefusal}
use Rattle.opened_surface.specs.declared.opened.opening.Why.{Why}
use Rattle.opened_surface.specs.declared.opened.opening.Why.TheVariants as why
use Rattle.session.specs.Held.{hull_mesh}
use Rattle.session.specs.declared.hull.Hull.{Hull}
use Rattle.session.specs.declared.refusal.Refusal.{Refusal}
use Rattle.session.specs.declared.refusal.Refusal.TheVariants.{Open}
use Rattle.session.specs.declared.reply.Reply.{Reply}
use Rattle.session.specs.declared.reply.Reply.TheVariants.{Opened as opened_reply}
use Rattle.session.specs.declared.state.State.{State}
use Rattle.session.specs.declared.state.State.TheVariants.{Gathering as Gathers, Opened as opened_state}

-- the hull is worked on, and its counts are answered
pub record OpenedOn (h : Hull) (state : State) (reply : Result Reply Refusal) : Type 0 where
  pub counts : Counts
  pub counted : Counted (surface (hull_mesh h)) (triangle_slots (hull_mesh h)) (vertex_slots (hull_mesh h)) counts
  pub state_is : state ≡ opened_state h
  pub reply_is : reply ≡ Ok (opened_reply counts)

-- it is refused, and is what it was
pub record BackWith (g : Gathering) (named : Bool) (reason : Why) (state : State) (reply : Result Reply Refusal) : Type 0 where
  pub refusal : OpenRefusal
  pub reason_is : reason ≡ why.Refused refusal
  pub state_is : state ≡ Gathers (record { gathering = g; named = named })
  pub reply_is : reply ≡ Err (Open refusal)
