-- How commands are spelled: a letter, and then the operands. A session takes calls or does without them.
use Rattle.std.specs.Prelude.{◌≡◌, ℕ, ◌/◌, ◌%◌, ◌<◌, Bool, true, false, ◌≢◌, List, [], ◌∷◌, ◌++◌, length}
use Rattle.ledger.specs.declared.call.Call.TheVariants.{Collapse, Step, Split, Redo, Go}
use Rattle.session.specs.declared.command.Command.{Command}
use Rattle.session.specs.declared.command.Command.TheVariants.{Name, Vertex, Triangle, Open, Call, Write, End}

-- a number of 16 bits, low byte first
abbrev pub word : ℕ → List ℕ
word n = n % 256 ∷ n / 256 ∷ []

-- the letters are N, V, T, O, C, S, P, R, G, W and E; a name follows the count of its bytes
abbrev pub spelled : Command → List ℕ
spelled (Name s) = 78 ∷ length s.now ∷ s.now
spelled (Vertex x y z) = 86 ∷ word x ++ (word y ++ word z)
spelled (Triangle a b c) = 84 ∷ word a ++ (word b ++ word c)
spelled (Open gauge) = 79 ∷ gauge ∷ []
spelled (Call (Collapse u w)) = 67 ∷ word u ++ word w
spelled (Call Step) = 83 ∷ []
spelled (Call Split) = 80 ∷ []
spelled (Call Redo) = 82 ∷ []
spelled (Call (Go k)) = 71 ∷ word k
spelled Write = 87 ∷ []
spelled End = 69 ∷ []

-- the command is one of the session: one that calls, only where calls are taken
abbrev pub Known : Bool → Command → Type 0
Known calls (Name s) = Unit {0}
Known calls (Vertex x y z) = Unit {0}
Known calls (Triangle a b c) = Unit {0}
Known calls (Open gauge) = Unit {0}
Known calls (Call c) = calls ≡ true
Known calls Write = Unit {0}
Known calls End = Unit {0}

-- no command of the session begins with the byte
abbrev pub Unknown : Bool → ℕ → Type 0
Unknown false b = (b ≢ 78) × (b ≢ 86) × (b ≢ 84) × (b ≢ 79) × (b ≢ 87) × (b ≢ 69)
Unknown true b =
    (b ≢ 78) × (b ≢ 86) × (b ≢ 84) × (b ≢ 79) × (b ≢ 67) × (b ≢ 83) × (b ≢ 80) × (b ≢ 82) × (b ≢ 71) × (b ≢ 87) × (b ≢ 69)

-- the bytes end before the operands of the command of the session that they begin with do
pub data Missing (calls : Bool) : List ℕ → Type 0 where
  no_count : Missing calls (78 ∷ [])
  short_name : (n : ℕ) (rest : List ℕ) → length rest < n → Missing calls (78 ∷ n ∷ rest)
  short_vertex : (rest : List ℕ) → length rest < 6 → Missing calls (86 ∷ rest)
  short_triangle : (rest : List ℕ) → length rest < 6 → Missing calls (84 ∷ rest)
  no_gauge : Missing calls (79 ∷ [])
  short_collapse : (rest : List ℕ) → calls ≡ true → length rest < 4 → Missing calls (67 ∷ rest)
  short_go : (rest : List ℕ) → calls ≡ true → length rest < 2 → Missing calls (71 ∷ rest)

-- the session stops after the command
abbrev pub stops : Command → Bool
stops (Name s) = false
stops (Vertex x y z) = false
stops (Triangle a b c) = false
stops (Open gauge) = false
stops (Call c) = false
stops Write = false
stops End = true
