-- Why a gathering is not judged, as a reason why it is not opened.
use Rattle.judging.specs.declared.verdict.Unjudged.{Unjudged}
use Rattle.judging.specs.declared.verdict.Unjudged.TheVariants.{Flawed as broken, NoMemory as no_memory}
use Rattle.opened_surface.specs.declared.opened.opening.OpenRefusal.TheVariants.{Flawed}
use Rattle.opened_surface.specs.declared.opened.opening.Why.{Why}
use Rattle.opened_surface.specs.declared.opened.opening.Why.TheVariants.{Refused, NoMemory}

abbrev pub why_of : Unjudged → Why
why_of (broken f) = Refused (Flawed f)
why_of no_memory = NoMemory
