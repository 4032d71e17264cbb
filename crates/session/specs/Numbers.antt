-- The numbers of the refusals.
use Rattle.std.specs.Prelude.{ℕ}
use Rattle.gathering.specs.Refusals.{vertex_number, triangle_number}
use Rattle.ledger.specs.Numbers.{number as call_number}
use Rattle.opened_surface.specs.Openings.{open_number}
use Rattle.session.specs.declared.refusal.Refusal.{Refusal}
use Rattle.session.specs.declared.refusal.Refusal.TheVariants.{UnknownCommand, MissingOperands, OtherState, Name, TooLong, UnknownGauge, Vertex, Triangle, Open, Call}

abbrev pub number : Refusal → ℕ
number (Vertex e) = vertex_number e
number (Triangle e) = triangle_number e
number (Open e) = open_number e
number (Call e) = call_number e
number UnknownCommand = 21
number MissingOperands = 22
number OtherState = 23
number Name = 24
number TooLong = 25
number UnknownGauge = 26
