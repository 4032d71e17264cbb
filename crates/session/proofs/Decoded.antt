-- A command and what follows it are known by the bytes.
use Rattle.std.proofs.Common.{◌≡◌, ℕ, ◌+◌, ◌*◌, ◌/◌, ◌%◌, ◌<◌, Bool, true, false, cond, eqb, ltb, ◌⊎◌, List, [], ◌∷◌, ◌++◌, length, take, drop, sym, refl, ap, ◌∙◌, subst, inl, inr, arith, length-append, Bor, le-ltb, lt-ltb, ne_eqb}
use Rattle.std.proofs.lemmas.List.{take_at, drop_at}
use Rattle.ledger.specs.declared.call.Call.TheVariants.{Collapse, Step, Split, Redo, Go}
use Rattle.session.specs.declared.command.Command.{Command}
use Rattle.session.specs.declared.command.Command.TheVariants.{Name, Vertex, Triangle, Open, Call, Write, End}
use Rattle.session.specs.declared.command.Fault.{Fault}
use Rattle.session.specs.declared.command.Fault.TheVariants as fault
use Rattle.session.specs.Spelled.{spelled, stops, Known, Unknown, Missing, no_count, short_name, short_vertex, short_triangle, no_gauge, short_collapse, short_go}

-- what stands at the front of some bytes
pub data Front : Type 0 where
  got : Command → List ℕ → Front
  not : Fault → Front

abbrev pub three : (ℕ → ℕ → ℕ → Command) → List ℕ → Front
three f [] = not fault.Missing
three f (a ∷ []) = not fault.Missing
three f (a ∷ b ∷ []) = not fault.Missing
three f (a ∷ b ∷ c ∷ []) = not fault.Missing
three f (a ∷ b ∷ c ∷ d ∷ []) = not fault.Missing
three f (a ∷ b ∷ c ∷ d ∷ x ∷ []) = not fault.Missing
three f (a ∷ b ∷ c ∷ d ∷ x ∷ y ∷ rest) = got (f (a + 256 * b) (c + 256 * d) (x + 256 * y)) rest

abbrev pub gauge : List ℕ → Front
gauge [] = not fault.Missing
gauge (k ∷ rest) = got (Open k) rest

abbrev pub two : List ℕ → Front
two [] = not fault.Missing
two (a ∷ []) = not fault.Missing
two (a ∷ b ∷ []) = not fault.Missing
two (a ∷ b ∷ c ∷ []) = not fault.Missing
two (a ∷ b ∷ c ∷ d ∷ rest) = got (Call (Collapse (a + 256 * b) (c + 256 * d))) rest

abbrev pub one : List ℕ → Front
one [] = not fault.Missing
one (a ∷ []) = not fault.Missing
one (a ∷ b ∷ rest) = got (Call (Go (a + 256 * b))) rest

-- the command, where `make` makes that of a name
abbrev pub made : (List ℕ → Command) → Command → Command
made make (Name s) = make s.now
made make (Vertex x y z) = Vertex x y z
made make (Triangle a b c) = Triangle a b c
made make (Open k) = Open k
made make (Call c) = Call c
made make Write = Write
made make End = End

whole : (x : ℕ) → x % 256 + 256 * (x / 256) ≡ x
whole x = omega arith

three_short : (f : ℕ → ℕ → ℕ → Command) (rest : List ℕ) → length rest < 6 → three f rest ≡ not fault.Missing
three_short f [] l = refl
three_short f (a ∷ []) l = refl
three_short f (a ∷ b ∷ []) l = refl
three_short f (a ∷ b ∷ c ∷ []) l = refl
three_short f (a ∷ b ∷ c ∷ d ∷ []) l = refl
three_short f (a ∷ b ∷ c ∷ d ∷ x ∷ []) l = refl
three_short f (a ∷ b ∷ c ∷ d ∷ x ∷ y ∷ rest) l = absurd (omega arith)

two_short : (rest : List ℕ) → length rest < 4 → two rest ≡ not fault.Missing
two_short [] l = refl
two_short (a ∷ []) l = refl
two_short (a ∷ b ∷ []) l = refl
two_short (a ∷ b ∷ c ∷ []) l = refl
two_short (a ∷ b ∷ c ∷ d ∷ rest) l = absurd (omega arith)

one_short : (rest : List ℕ) → length rest < 2 → one rest ≡ not fault.Missing
one_short [] l = refl
one_short (a ∷ []) l = refl
one_short (a ∷ b ∷ rest) l = absurd (omega arith)

-- the front, where `make` makes the command of a name, and calls are taken or not
module _ (calls : Bool) (make : List ℕ → Command) where
  abbrev pub name : List ℕ → Front
  name [] = not fault.Missing
  name (n ∷ rest) = cond (ltb (length rest) n) (not fault.Missing) (got (make (take n rest)) (drop n rest))

  abbrev pub call : ℕ → List ℕ → Front
  call b rest =
      cond (eqb b 67) (two rest) (cond (eqb b 83) (got (Call Step) rest) (cond (eqb b 80) (got (Call Split) rest)
      (cond (eqb b 82) (got (Call Redo) rest) (cond (eqb b 71) (one rest) (not fault.Unknown)))))

  abbrev pub decoded : List ℕ → Front
  decoded [] = not fault.Over
  decoded (b ∷ rest) =
      cond (eqb b 78) (name rest) (cond (eqb b 86) (three Vertex rest) (cond (eqb b 84) (three Triangle rest)
      (cond (eqb b 79) (gauge rest) (cond (eqb b 87) (got Write rest) (cond (eqb b 69) (got End rest) (cond calls (call b rest) (not fault.Unknown)))))))

  pub decoded_spelled : (c : Command) (rest : List ℕ) → Known calls c → decoded (spelled c ++ rest) ≡ got (made make c) rest
  decoded_spelled (Name s) rest k =
      let long : ltb (length (s.now ++ rest)) (length s.now) ≡ false = le-ltb _ _ (omega (arith, length-append s.now rest)) in
      ap (λ (b : Bool). cond b (not fault.Missing) (got (make (take (length s.now) (s.now ++ rest))) (drop (length s.now) (s.now ++ rest)))) long
      ∙ ap (λ (l : List ℕ). got (make l) (drop (length s.now) (s.now ++ rest))) (take_at s.now rest (length s.now) refl)
      ∙ ap (λ (l : List ℕ). got (make s.now) l) (drop_at s.now rest (length s.now) refl)
  decoded_spelled (Vertex x y z) rest k =
      ap (λ (n : ℕ). got (Vertex n (y % 256 + 256 * (y / 256)) (z % 256 + 256 * (z / 256))) rest) (whole x)
      ∙ ap (λ (n : ℕ). got (Vertex x n (z % 256 + 256 * (z / 256))) rest) (whole y)
      ∙ ap (λ (n : ℕ). got (Vertex x y n) rest) (whole z)
  decoded_spelled (Triangle x y z) rest k =
      ap (λ (n : ℕ). got (Triangle n (y % 256 + 256 * (y / 256)) (z % 256 + 256 * (z / 256))) rest) (whole x)
      ∙ ap (λ (n : ℕ). got (Triangle x n (z % 256 + 256 * (z / 256))) rest) (whole y)
      ∙ ap (λ (n : ℕ). got (Triangle x y n) rest) (whole z)
  decoded_spelled (Open g) rest k = refl
  decoded_spelled (Call (Collapse u w)) rest k =
      ap (λ (x : Bool). cond x (got (Call (Collapse (u % 256 + 256 * (u / 256)) (w % 256 + 256 * (w / 256)))) rest) (not fault.Unknown)) k
      ∙ ap (λ (n : ℕ). got (Call (Collapse n (w % 256 + 256 * (w / 256)))) rest) (whole u)
      ∙ ap (λ (n : ℕ). got (Call (Collapse u n)) rest) (whole w)
  decoded_spelled (Call Step) rest k = ap (λ (x : Bool). cond x (got (Call Step) rest) (not fault.Unknown)) k
  decoded_spelled (Call Split) rest k = ap (λ (x : Bool). cond x (got (Call Split) rest) (not fault.Unknown)) k
  decoded_spelled (Call Redo) rest k = ap (λ (x : Bool). cond x (got (Call Redo) rest) (not fault.Unknown)) k
  decoded_spelled (Call (Go j)) rest k =
      ap (λ (x : Bool). cond x (got (Call (Go (j % 256 + 256 * (j / 256)))) rest) (not fault.Unknown)) k ∙ ap (λ (n : ℕ). got (Call (Go n)) rest) (whole j)
  decoded_spelled Write rest k = refl
  decoded_spelled End rest k = refl

  pub decoded_missing : {bytes : List ℕ} → Missing calls bytes → decoded bytes ≡ not fault.Missing
  decoded_missing no_count = refl
  decoded_missing (short_name n rest l) = ap (λ (b : Bool). cond b (not fault.Missing) (got (make (take n rest)) (drop n rest))) (lt-ltb (length rest) n l)
  decoded_missing (short_vertex rest l) = three_short Vertex rest l
  decoded_missing (short_triangle rest l) = three_short Triangle rest l
  decoded_missing no_gauge = refl
  decoded_missing (short_collapse rest t l) = ap (λ (x : Bool). cond x (two rest) (not fault.Unknown)) t ∙ two_short rest l
  decoded_missing (short_go rest t l) = ap (λ (x : Bool). cond x (one rest) (not fault.Unknown)) t ∙ one_short rest l

pub decoded_unknown : (calls : Bool) (make : List ℕ → Command) (b : ℕ) (rest : List ℕ) → Unknown calls b → decoded calls make (b ∷ rest) ≡ not fault.Unknown
decoded_unknown false make b rest u =
    rw (ne_eqb b 78 u.0) (rw (ne_eqb b 86 u.1) (rw (ne_eqb b 84 u.2) (rw (ne_eqb b 79 u.3) (rw (ne_eqb b 87 u.4) (rw (ne_eqb b 69 u.5) refl)))))
decoded_unknown true make b rest u =
    rw (ne_eqb b 78 u.0) (rw (ne_eqb b 86 u.1) (rw (ne_eqb b 84 u.2) (rw (ne_eqb b 79 u.3) (rw (ne_eqb b 67 u.4) (rw (ne_eqb b 83 u.5) (rw (ne_eqb b 80 u.6)
    (rw (ne_eqb b 82 u.7) (rw (ne_eqb b 71 u.8) (rw (ne_eqb b 87 u.9) (rw (ne_eqb b 69 u.10) refl))))))))))

-- commands of one spelling: names of the same bytes, or the same command
pub data Alike : Command → Command → Type 0 where
  names : {s t : Bor (List ℕ)} → s.now ≡ t.now → Alike (Name s) (Name t)
  same : {c d : Command} → c ≡ d → Alike c d

pub alike_spelled : {c d : Command} → Alike c d → spelled c ≡ spelled d
alike_spelled (names e) = ap (λ (l : List ℕ). 78 ∷ length l ∷ l) e
alike_spelled (same e) = ap spelled e

pub alike_stops : {c d : Command} → Alike c d → stops c ≡ stops d
alike_stops (names e) = refl
alike_stops (same e) = ap stops e

parts : (c d : Command) (rest more : List ℕ) → got c rest ≡ got d more → (c ≡ d) × (rest ≡ more)
parts c d rest more e = (cc, cc)

-- a name, or a command that `make` leaves alone
kind : (c : Command) → ((s : Bor (List ℕ)) × (c ≡ Name s)) ⊎ ((make : List ℕ → Command) → made make c ≡ c)
kind (Name s) = inl (s, refl)
kind (Vertex x y z) = inr (λ make. refl)
kind (Triangle a b c) = inr (λ make. refl)
kind (Open k) = inr (λ make. refl)
kind (Call c) = inr (λ make. refl)
kind Write = inr (λ make. refl)
kind End = inr (λ make. refl)

abbrev bytes_of : Command → List ℕ
bytes_of (Name s) = s.now
bytes_of (Vertex x y z) = []
bytes_of (Triangle a b c) = []
bytes_of (Open k) = []
bytes_of (Call c) = []
bytes_of Write = []
bytes_of End = []

module _ (calls : Bool) (c d : Command) (rest more : List ℕ) (j : Known calls c) (k : Known calls d) (e : spelled c ++ rest ≡ spelled d ++ more) where
  both : (make : List ℕ → Command) → (made make c ≡ made make d) × (rest ≡ more)
  both make = parts (made make c) (made make d) rest more (sym (decoded_spelled calls make c rest j) ∙ ap (decoded calls make) e ∙ decoded_spelled calls make d more k)

  pub rest_same : rest ≡ more
  rest_same = (both (λ l. End)).1

  pub alike : Alike c d
  alike = go (kind c) (kind d)
    where
      differ : {A : Type 0} → End ≡ Write → A
      differ p = let z : ◌≡◌ {A = ℕ} 0 1 = cc in absurd (omega arith)

      go : ((s : Bor (List ℕ)) × (c ≡ Name s)) ⊎ ((make : List ℕ → Command) → made make c ≡ c) → ((t : Bor (List ℕ)) × (d ≡ Name t)) ⊎ ((make : List ℕ → Command) → made make d ≡ d) → Alike c d
      go (inl p) (inl q) =
          let s = p.0 in
          let make : List ℕ → Command = λ l. Name (record s { now = l }) in
          let f : bytes_of (made make (Name s)) ≡ bytes_of (made make (Name q.0)) = ap (λ (x : Command). bytes_of (made make x)) (sym p.1) ∙ ap bytes_of (both make).0 ∙ ap (λ (x : Command). bytes_of (made make x)) q.1 in
          subst (λ (x : Command). Alike x d) (sym p.1) (subst (λ (x : Command). Alike (Name s) x) (sym q.1) (names f))
      go (inl p) (inr g) =
          let end : made (λ l. End) c ≡ End = ap (made (λ l. End)) p.1 in
          let write : made (λ l. Write) c ≡ Write = ap (made (λ l. Write)) p.1 in
          differ (sym end ∙ (both (λ l. End)).0 ∙ g (λ l. End) ∙ sym (g (λ l. Write)) ∙ sym (both (λ l. Write)).0 ∙ write)
      go (inr f) (inl q) =
          let end : made (λ l. End) d ≡ End = ap (made (λ l. End)) q.1 in
          let write : made (λ l. Write) d ≡ Write = ap (made (λ l. Write)) q.1 in
          differ (sym end ∙ sym (both (λ l. End)).0 ∙ f (λ l. End) ∙ sym (f (λ l. Write)) ∙ (both (λ l. Write)).0 ∙ write)
      go (inr f) (inr g) = same (sym (f (λ l. End)) ∙ (both (λ l. End)).0 ∙ g (λ l. End))
