-- Which bytes spell a token: a rule for each form, over the table of commands.
use Rattle.std.specs.Prelude.{◌≡◌, ◌≢◌, ℕ, ◌+◌, ◌<◌, ◌≤◌, ◌↔◌, Result, Ok, Err, true, false, List, [], ◌∷◌, ◌++◌, length, Some, None, MatchBool, ◌⊎◌}
use Rattle.std.specs.List.{AllByRecursion}
use Rattle.teco_core.specs.declared.code.Code.{Code}
use Rattle.teco_core.specs.declared.code.Code.TheVariants.{Ill, Iqn, Iqc, Utc}
use Rattle.teco_core.specs.Ascii.{is_digit, is_filler, upper}
use Rattle.teco_core.specs.Register.{register_of}
use Rattle.teco_scan.specs.declared.command.Modifiers.{Modifiers}
use Rattle.teco_scan.specs.declared.command.Row.{Row}
use Rattle.teco_scan.specs.declared.command.Name.{Name}
use Rattle.teco_scan.specs.declared.command.Name.TheVariants.{One, Two, Three, Control}
use Rattle.teco_scan.specs.declared.command.Form.{Form}
use Rattle.teco_scan.specs.declared.command.Form.TheVariants as form
use Rattle.teco_scan.specs.declared.command.Bare.{Bare}
use Rattle.teco_scan.specs.declared.command.BlockMark.{BlockMark}
use Rattle.teco_scan.specs.declared.command.RegisterCommand.{RegisterCommand}
use Rattle.teco_scan.specs.declared.command.TextCommand.{TextCommand}
use Rattle.teco_scan.specs.declared.command.Test.{Test}
use Rattle.teco_core.specs.declared.profile.Profile.{Profile}
use Rattle.teco_core.specs.declared.profile.Profile.TheVariants.{Named, Wide}
use Rattle.teco_scan.specs.Scan.{digits, bare, register, byte, text, set_text, replace, Instruction, step, mark, decide, tag, escape, TokenMeaning, test_of, admits, no_modifiers, token_from, scan, scan_here}
use Prim.Native.Char.{code}
use Rattle.teco_core.specs.declared.ascii.TheConstants.{ESC}

-- modifiers that lead from these to those: at most one @ and two colons, in any order
pub data Marks : Modifiers → List ℕ → Modifiers → Type 0 where
  no_mark : {m : Modifiers} → Marks m [] m
  at_mark : {m n : Modifiers} {bs : List ℕ} → m.at ≡ false → Marks (record m { at = true }) bs n
      → Marks m (code "@" ∷ bs) n
  colon_mark : {m n : Modifiers} {bs : List ℕ} → m.colons ≢ 2
      → Marks (record m { colons = m.colons + 1 }) bs n → Marks m (code ":" ∷ bs) n

-- letters are of either case; a control command is its byte, or a caret and its letter
pub data SpellsName : Name → List ℕ → Type 0 where
  one_spelled : {l b : ℕ} → upper b ≡ l → SpellsName (One l) (b ∷ [])
  two_spelled : {l k b c : ℕ} → upper b ≡ l → upper c ≡ k → SpellsName (Two l k) (b ∷ c ∷ [])
  three_spelled : {l k j b c d : ℕ} → upper b ≡ l → upper c ≡ k → upper d ≡ j
      → SpellsName (Three l k j) (b ∷ c ∷ d ∷ [])
  control_spelled : {l b : ℕ} → b + 64 ≡ l → SpellsName (Control l) (b ∷ [])
  caret_spelled : {l b : ℕ} → upper b ≡ l → SpellsName (Control l) (code "^" ∷ b ∷ [])

-- what comes before the first text: with @ the delimiter, which is any byte; else nothing, and the delimiter is the usual one
abbrev pub Delimits : Modifiers → ℕ → ℕ → List ℕ → Type 0
Delimits m usual d bs = MatchBool m.at (bs ≡ d ∷ []) ((d ≡ usual) × (bs ≡ []))

-- a text without its delimiter, and then the delimiter
abbrev pub TextUpTo : ℕ → List ℕ → List ℕ → Type 0
TextUpTo d t bs = AllByRecursion (λ b. b ≢ d) t × (bs ≡ t ++ d ∷ [])

-- the form that a test follows, in each profile
abbrev pub test_form : Profile → Form
test_form Named = form.Test
test_form Wide = form.WideTest

-- the form is that of the tests of a profile, in which the byte names this one
abbrev pub NamesTest : Form → ℕ → Test → Type 0
NamesTest f b t = (p : Profile) × (f ≡ test_form p) × (test_of p b ≡ Some t)

-- what follows the name; a refused name has no rule
pub data SpellsOperand : Form → Modifiers → Instruction → List ℕ → Type 0 where
  bare_spelled : {c : Bare} {m : Modifiers} → SpellsOperand (form.Bare c) m (step (bare c)) []
  mark_spelled : {c : BlockMark} {m : Modifiers} → SpellsOperand (form.Mark c) m (mark c) []
  escape_spelled : {m : Modifiers} → SpellsOperand form.Escape m escape []
  register_spelled : {c : RegisterCommand} {m : Modifiers} {b q : ℕ} → register_of b ≡ Some q
      → SpellsOperand (form.Register c) m (step (register c q)) (b ∷ [])
  byte_spelled : {m : Modifiers} {b : ℕ} → SpellsOperand form.Byte m (step (byte b)) (b ∷ [])
  test_spelled : {f : Form} {m : Modifiers} {b : ℕ} {t : Test} → NamesTest f b t
      → SpellsOperand f m (decide t) (b ∷ [])
  text_spelled : {c : TextCommand} {usual : ℕ} {m : Modifiers} {t bs : List ℕ} (d : ℕ) (front back : List ℕ)
      → Delimits m usual d front → TextUpTo d t back → bs ≡ front ++ back
      → SpellsOperand (form.Text c usual) m (step (text c t)) bs
  tag_spelled : {m : Modifiers} {t bs : List ℕ} → TextUpTo (code "!") t bs → SpellsOperand form.Tag m (tag t) bs
  set_text_spelled : {q : ℕ} {m : Modifiers} {t bs : List ℕ} (b d : ℕ) (front back : List ℕ)
      → register_of b ≡ Some q → Delimits m ESC d front → TextUpTo d t back → bs ≡ b ∷ (front ++ back)
      → SpellsOperand form.SetText m (step (set_text q t)) bs
  replace_spelled : {m : Modifiers} {t u bs : List ℕ} (d : ℕ) (front old new : List ℕ) → Delimits m ESC d front
      → TextUpTo d t old → TextUpTo d u new → bs ≡ front ++ (old ++ new)
      → SpellsOperand form.Replace m (step (replace t u)) bs

abbrev pub Among : Row → List Row → Type 0
Among r [] = ⊥
Among r (s ∷ rows) = (r ≡ s) ⊎ Among r rows

-- modifiers that a row admits, its name, and then these bytes
pub record BeginsWithRow (rows : List Row) (row : Row) (m : Modifiers) (bs more : List ℕ) : Type 0 where
  pub among : Among row rows
  pub admitted : admits row m ≡ true
  pub marks : List ℕ
  pub name : List ℕ
  pub marked : Marks no_modifiers marks m
  pub named : SpellsName row.name name
  pub whole : bs ≡ marks ++ (name ++ more)

-- a run of digits, or a command of the rows
pub data Spells (rows : List Row) : TokenMeaning → List ℕ → Type 0 where
  run_spelled : {bs : List ℕ} → 0 < length bs → AllByRecursion (λ b. is_digit b ≡ true) bs
      → Spells rows (record { modifiers = no_modifiers; instruction = step (digits bs) }) bs
  command_spelled : {m : Modifiers} {i : Instruction} {bs : List ℕ} (row : Row) (operand : List ℕ)
      → BeginsWithRow rows row m bs operand → SpellsOperand row.form m i operand
      → Spells rows (record { modifiers = m; instruction = i }) bs

-- the bytes begin with a token
abbrev pub BeginsWithToken : List Row → List ℕ → Type 0
BeginsWithToken rows bs = (t : TokenMeaning) × (front : List ℕ) × (rest : List ℕ) × Spells rows t front
    × (bs ≡ front ++ rest)

-- some token's spelling goes on from the bytes, or is they
abbrev pub IsFront : List Row → List ℕ → Type 0
IsFront rows bs = (t : TokenMeaning) × (more : List ℕ) × Spells rows t (bs ++ more)

-- a refused name is there
abbrev pub IsRefused : List Row → List ℕ → Type 0
IsRefused rows bs = (row : Row) × (m : Modifiers) × (more : List ℕ) × BeginsWithRow rows row m bs more
    × (row.form ≡ form.Refused)

abbrev pub NeedsRegister : Form → Type 0
NeedsRegister (form.Register c) = Unit {0}
NeedsRegister form.SetText = Unit {0}
NeedsRegister _ = ⊥

-- the bytes fit a spelling up to its register, and the next one names none
abbrev pub LacksRegister : List Row → List ℕ → Type 0
LacksRegister rows bs = (row : Row) × (m : Modifiers) × (b : ℕ) × (more : List ℕ)
    × BeginsWithRow rows row m bs (b ∷ more) × NeedsRegister row.form × (register_of b ≡ None)

-- the bytes fit a spelling up to its test, and the next one names none
abbrev pub LacksTest : List Row → List ℕ → Type 0
LacksTest rows bs = (row : Row) × (m : Modifiers) × (b : ℕ) × (more : List ℕ)
    × BeginsWithRow rows row m bs (b ∷ more) × (p : Profile) × (row.form ≡ test_form p) × (test_of p b ≡ None)

-- The laws of spelling, of bytes that begin with no filler. What is read is spelled so.
abbrev pub IsSpelled : List Row → Type 0
IsSpelled rows = (bs rest : List ℕ) (t : TokenMeaning) → token_from rows bs ≡ Ok (t, rest) → (front : List ℕ)
    × Spells rows t front × (bs ≡ front ++ rest)

-- something was read, and no more than this is left after it
abbrev pub LeavesAtMost : {A : Type 0} → List ℕ → Result (A × List ℕ) Code → Type 0
LeavesAtMost rest (Ok x) = length x.1 ≤ length rest
LeavesAtMost rest (Err e) = ⊥

-- Of the tokens that the bytes begin with none is longer than the one that is read, but where a refused name is.
abbrev pub IsLongest : List Row → Type 0
IsLongest rows = (front rest : List ℕ) (t : TokenMeaning) → Spells rows t front
    → LeavesAtMost rest (token_from rows (front ++ rest)) ⊎ IsRefused rows (front ++ rest)

-- UTC is read exactly where the bytes are a front of a spelling, and no token begins there.
abbrev pub IsCutExactly : List Row → Type 0
IsCutExactly rows = (bs : List ℕ) → 0 < length bs
    → (token_from rows bs ≡ Err Utc) ↔ (IsFront rows bs × (¬ BeginsWithToken rows bs))

-- IQN exactly where the bytes fit a spelling up to its register, and IQC up to its test.
abbrev pub LacksRegisterExactly : List Row → Type 0
LacksRegisterExactly rows = (bs : List ℕ) → (token_from rows bs ≡ Err Iqn) ↔ LacksRegister rows bs

abbrev pub LacksTestExactly : List Row → Type 0
LacksTestExactly rows = (bs : List ℕ) → (token_from rows bs ≡ Err Iqc) ↔ LacksTest rows bs

-- nothing of all this
pub record IsNothing (rows : List Row) (bs : List ℕ) : Type 0 where
  pub no_token : ¬ BeginsWithToken rows bs
  pub no_front : ¬ IsFront rows bs
  pub no_register : ¬ LacksRegister rows bs
  pub no_test : ¬ LacksTest rows bs

-- ILL exactly where a refused name is, or nothing of all this is so.
abbrev pub IsIllExactly : List Row → Type 0
IsIllExactly rows = (bs : List ℕ) → 0 < length bs
    → (token_from rows bs ≡ Err Ill) ↔ (IsRefused rows bs ⊎ IsNothing rows bs)

-- No other fault is read.
abbrev pub IsFaultOfFour : List Row → Type 0
IsFaultOfFour rows = (bs : List ℕ) (c : Code) → token_from rows bs ≡ Err c → (c ≡ Ill) ⊎ (c ≡ Iqn) ⊎ (c ≡ Iqc)
    ⊎ (c ≡ Utc)

abbrev pub BeginsNoFiller : List ℕ → Type 0
BeginsNoFiller [] = Unit {0}
BeginsNoFiller (b ∷ bs) = is_filler b ≡ false

-- What is found is what is after the fillers.
abbrev pub PassesFillers : Type 0
PassesFillers = (p : Profile) (fillers bs : List ℕ) → AllByRecursion (λ b. is_filler b ≡ true) fillers → BeginsNoFiller bs
    → scan p (fillers ++ bs) ≡ scan_here p bs
