-- Which command some bytes begin with.
use Rattle.std.specs.Prelude.{◌≡◌, ℕ, Bool, List, [], ◌∷◌, ◌++◌}
use Rattle.session.specs.declared.command.Command.{Command}
use Rattle.session.specs.declared.command.Fault.{Fault}
use Rattle.session.specs.declared.command.Fault.TheVariants as fault
use Rattle.session.specs.declared.command.Fault.TheVariants.{Over}
use Rattle.session.specs.Spelled.{spelled, Known, Unknown, Missing}

-- the bytes begin with the command c of the session, and the rest follows it
pub record Read (calls : Bool) (bytes : List ℕ) (c : Command) (rest : List ℕ) : Type 0 where
  pub known : Known calls c
  pub bytes_are : bytes ≡ spelled c ++ rest

-- the bytes begin with no command, by this fault
abbrev pub ReadFault : Bool → List ℕ → Fault → Type 0
ReadFault calls bytes Over = bytes ≡ []
ReadFault calls bytes fault.Unknown = (b : ℕ) × (rest : List ℕ) × (bytes ≡ b ∷ rest) × Unknown calls b
ReadFault calls bytes fault.Missing = Missing calls bytes
