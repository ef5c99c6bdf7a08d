-- Reading one token from the front of bytes.
use Rattle.std.specs.Prelude.{ℕ, option_and_then, ◌+◌, Bool, true, false, ◌&&◌, ◌||◌, not, List, [], ◌∷◌, codes, Option, Some, None, Result, Ok, Err, nat_le, ◌==◌, if◌then◌else◌}
use Rattle.teco_core.specs.declared.code.Code.{Code}
use Rattle.teco_core.specs.declared.code.Code.TheVariants.{Ill, Iqn, Iqc, Utc}
use Rattle.teco_core.specs.Refusal.{◌>>=◌}
use Rattle.teco_core.specs.Ascii.{is_digit, is_filler, upper}
use Rattle.teco_core.specs.Register.{register_of}
use Rattle.teco_scan.specs.declared.command.Modifiers.{Modifiers}
use Rattle.teco_scan.specs.declared.command.Row.{Row}
use Rattle.teco_scan.specs.declared.command.Name.{Name}
use Rattle.teco_scan.specs.declared.command.Name.TheVariants.{One, Two, Three, Control}
use Rattle.teco_scan.specs.declared.command.Form.{Form}
use Rattle.teco_scan.specs.declared.command.Form.TheVariants as form
use Rattle.teco_scan.specs.declared.command.Bare.{Bare}
use Rattle.teco_scan.specs.declared.command.BlockMark.{BlockMark}
use Rattle.teco_scan.specs.declared.command.RegisterCommand.{RegisterCommand}
use Rattle.teco_scan.specs.declared.command.TextCommand.{TextCommand}
use Rattle.teco_scan.specs.declared.command.Test.{Test}
use Rattle.teco_scan.specs.declared.command.Test.TheVariants as tests
use Rattle.teco_core.specs.declared.profile.Profile.{Profile}
use Rattle.teco_core.specs.declared.profile.Profile.TheVariants.{Named, Wide}
use Rattle.teco_scan.specs.declared.table.TheConstants.{ROWS, WIDE_ROWS}
use Prim.Native.Char.{code}
use Rattle.teco_core.specs.declared.ascii.TheConstants.{ESC}

-- what is a step of its own, with its operands; a register by its number, a text as its bytes
pub data Item : Type 0 where
  digits : List ℕ → Item
  bare : Bare → Item
  register : RegisterCommand → ℕ → Item
  byte : ℕ → Item
  text : TextCommand → List ℕ → Item
  set_text : ℕ → List ℕ → Item
  replace : List ℕ → List ℕ → Item

-- what a token instructs: a step, a mark of a block, the test that opens a conditional, the name of a tag, or ESC
pub data Instruction : Type 0 where
  step : Item → Instruction
  mark : BlockMark → Instruction
  decide : Test → Instruction
  tag : List ℕ → Instruction
  escape : Instruction

-- what a token means: its modifiers, and what it instructs
pub record TokenMeaning : Type 0 where
  pub modifiers : Modifiers
  pub instruction : Instruction

-- something read, and the bytes after it; or the fault
abbrev pub Reading : Type 0 → Type 0
Reading A = Result (A × List ℕ) Code

-- whether a byte is one of these letters
abbrev pub is_one_of : List ℕ → ℕ → Bool
is_one_of [] b = false
is_one_of (letter ∷ letters) b = (b == letter) || is_one_of letters b

-- the test that a capital names
abbrev pub letter_test : ℕ → Option Test
letter_test b =
    if is_one_of (codes "EFU") b then Some tests.Zero
    else (if is_one_of (codes "N") b then Some tests.NotZero
    else (if is_one_of (codes "G") b then Some tests.Above
    else (if is_one_of (codes "LST") b then Some tests.Below
    else (if is_one_of (codes "A") b then Some tests.Letter
    else (if is_one_of (codes "D") b then Some tests.Digit
    else (if is_one_of (codes "R") b then Some tests.LetterOrDigit
    else (if is_one_of (codes "V") b then Some tests.Lower
    else (if is_one_of (codes "W") b then Some tests.Upper else None))))))))

-- the test that a sign names, or a capital in Wide alone
abbrev pub more_test : ℕ → Option Test
more_test b =
    if b == code "=" then Some tests.Zero
    else (if b == code "<" then Some tests.Below
    else (if b == code ">" then Some tests.Above
    else (if b == code "C" then Some tests.NameByte else None)))

-- where no letter does that it names in Named
abbrev pub or_more : Option Test → ℕ → Option Test
or_more (Some t) b = Some t
or_more None b = more_test b

-- in Named a capital names a test, and in Wide a sign and C too
abbrev pub test_named : Profile → ℕ → Option Test
test_named Named b = letter_test b
test_named Wide b = or_more (letter_test b) b

-- the test of a letter of either case, or of a sign
unfoldable pub test_of : Profile → ℕ → Option Test
test_of p b = test_named p (upper b)

-- Operands. Where the bytes end before one does, the fault is UTC.
unfoldable pub byte_at : List ℕ → Reading ℕ
byte_at [] = Err Utc
byte_at (b ∷ bs) = Ok (b, bs)

abbrev pub or_else : {A : Type 0} → Option A → Code → Result A Code
or_else (Some x) e = Ok x
or_else None e = Err e

-- a byte that names no register is IQN
unfoldable pub register_at : List ℕ → Reading ℕ
register_at bs = do
  b ← byte_at bs
  q ← or_else (register_of b.0) Iqn
  Ok (q, b.1)

-- a byte that names no test is IQC
unfoldable pub test_at : Profile → List ℕ → Reading Test
test_at p bs = do
  b ← byte_at bs
  t ← or_else (test_of p b.0) Iqc
  Ok (t, b.1)

-- what ends a text: with @ the next byte, else the usual one
unfoldable pub delimiter_at : Modifiers → ℕ → List ℕ → Reading ℕ
delimiter_at m usual bs = if m.at then byte_at bs else Ok (usual, bs)

-- the bytes before the next delimiter, and those after it
unfoldable pub text_at : ℕ → List ℕ → Reading (List ℕ)
text_at d [] = Err Utc
text_at d (b ∷ bs) = if b == d then Ok ([], bs) else (do
  t ← text_at d bs
  Ok (b ∷ t.0, t.1))

-- what follows the name of a command; a refused name is ILL
unfoldable pub operand_at : Form → Modifiers → List ℕ → Reading Instruction
operand_at (form.Bare c) m bs = Ok (step (bare c), bs)
operand_at (form.Mark c) m bs = Ok (mark c, bs)
operand_at form.Escape m bs = Ok (escape, bs)
operand_at (form.Register c) m bs = do
  q ← register_at bs
  Ok (step (register c q.0), q.1)
operand_at form.Byte m bs = do
  b ← byte_at bs
  Ok (step (byte b.0), b.1)
operand_at form.Test m bs = do
  t ← test_at Named bs
  Ok (decide t.0, t.1)
operand_at form.WideTest m bs = do
  t ← test_at Wide bs
  Ok (decide t.0, t.1)
operand_at (form.Text c usual) m bs = do
  d ← delimiter_at m usual bs
  t ← text_at d.0 d.1
  Ok (step (text c t.0), t.1)
operand_at form.Tag m bs = do
  t ← text_at (code "!") bs
  Ok (tag t.0, t.1)
operand_at form.SetText m bs = do
  q ← register_at bs
  d ← delimiter_at m ESC q.1
  t ← text_at d.0 d.1
  Ok (step (set_text q.0 t.0), t.1)
operand_at form.Replace m bs = do
  d ← delimiter_at m ESC bs
  old ← text_at d.0 d.1
  new ← text_at d.0 old.1
  Ok (step (replace old.0 new.0), new.1)
operand_at form.Refused m bs = Err Ill

abbrev pub no_modifiers : Modifiers
no_modifiers = record { at = false; colons = 0 }

-- Modifiers: at most one @ and two colons, in any order; one more is ILL.
unfoldable pub modifiers_at : Modifiers → List ℕ → Reading Modifiers
modifiers_at m [] = Ok (m, [])
modifiers_at m (b ∷ bs) =
    if b == code "@" then (if m.at then Err Ill else modifiers_at (record m { at = true }) bs)
    else (if b == code ":" then (if m.colons == 2 then Err Ill
    else modifiers_at (record m { colons = m.colons + 1 }) bs)
    else Ok (m, b ∷ bs))

-- the command allows these modifiers
abbrev pub admits : Row → Modifiers → Bool
admits r m = (if m.at then r.allows.at else true) && nat_le m.colons r.allows.colons

-- Names: the bytes after the name, where the bytes begin with it. A letter is of either case; a control command is its byte, or a caret and its letter.
unfoldable pub after_letter : ℕ → List ℕ → Option (List ℕ)
after_letter l [] = None
after_letter l (b ∷ bs) = if upper b == l then Some bs else None

unfoldable pub after_name : Name → List ℕ → Option (List ℕ)
after_name (One l) bs = after_letter l bs
after_name (Two l k) bs = option_and_then (after_letter k) (after_letter l bs)
after_name (Three l k j) bs = option_and_then (after_letter j)
    (option_and_then (after_letter k) (after_letter l bs))
after_name (Control l) [] = None
after_name (Control l) (b ∷ bs) = if b + 64 == l then Some bs
    else (if b == code "^" then after_letter l bs else None)

-- the bytes are a front of the name, and not all of it
unfoldable pub ends_inside : Name → List ℕ → Bool
ends_inside n [] = true
ends_inside (One l) (b ∷ bs) = false
ends_inside (Two l k) (b ∷ []) = upper b == l
ends_inside (Two l k) (b ∷ c ∷ bs) = false
ends_inside (Three l k j) (b ∷ []) = upper b == l
ends_inside (Three l k j) (b ∷ c ∷ []) = upper b == l && upper c == k
ends_inside (Three l k j) (b ∷ c ∷ d ∷ bs) = false
ends_inside (Control l) (b ∷ []) = b == code "^"
ends_inside (Control l) (b ∷ c ∷ bs) = false

abbrev pub is_refused : Form → Bool
is_refused form.Refused = true
is_refused _ = false

-- the first row that admits the modifiers and by whose name the bytes begin
abbrev pub at_row : Row → Option (List ℕ) → Option (Row × List ℕ) → Option (Row × List ℕ)
at_row r (Some rest) others = Some (r, rest)
at_row r None others = others

unfoldable pub row_at : List Row → Modifiers → List ℕ → Option (Row × List ℕ)
row_at [] m bs = None
row_at (r ∷ rs) m bs = if admits r m then at_row r (after_name r.name bs) (row_at rs m bs) else row_at rs m bs

-- the bytes end inside the name of a command that admits the modifiers
unfoldable pub is_cut : List Row → Modifiers → List ℕ → Bool
is_cut [] m bs = false
is_cut (r ∷ rs) m bs = admits r m && not (is_refused r.form) && ends_inside r.name bs || is_cut rs m bs

-- a command of the rows, after its modifiers
abbrev pub of_row : List Row → Modifiers → List ℕ → Option (Row × List ℕ) → Reading Instruction
of_row rows m bs (Some found) = operand_at found.0.form m found.1
of_row rows m bs None = if is_cut rows m bs then Err Utc else Err Ill

unfoldable pub command_at : List Row → Modifiers → List ℕ → Reading Instruction
command_at rows m bs = of_row rows m bs (row_at rows m bs)

-- the run of digits at the front
unfoldable pub run_of : List ℕ → List ℕ
run_of [] = []
run_of (b ∷ bs) = if is_digit b then b ∷ run_of bs else []

unfoldable pub after_run : List ℕ → List ℕ
after_run [] = []
after_run (b ∷ bs) = if is_digit b then after_run bs else b ∷ bs

abbrev pub begins_run : List ℕ → Bool
begins_run [] = false
begins_run (b ∷ bs) = is_digit b

-- A token at the front: a run of digits, or modifiers and a command of the rows.
unfoldable pub token_from : List Row → List ℕ → Reading TokenMeaning
token_from rows bs = if begins_run bs
    then Ok (record { modifiers = no_modifiers; instruction = step (digits (run_of bs)) }, after_run bs)
    else (do
      m ← modifiers_at no_modifiers bs
      i ← command_at rows m.0 m.1
      Ok (record { modifiers = m.0; instruction = i.0 }, i.1))

-- what is found after fillers: a token and the bytes after it, the end, or a fault
pub data Scanned : Type 0 where
  found : TokenMeaning → List ℕ → Scanned
  ended : Scanned
  fault : Code → Scanned

abbrev pub scanned : Reading TokenMeaning → Scanned
scanned (Ok t) = found t.0 t.1
scanned (Err e) = fault e

unfoldable pub after_fillers : List ℕ → List ℕ
after_fillers [] = []
after_fillers (b ∷ bs) = if is_filler b then after_fillers bs else b ∷ bs

-- the table of a profile
abbrev pub rows_of : Profile → List Row
rows_of Named = ROWS
rows_of Wide = WIDE_ROWS

-- what is found where no filler is
abbrev pub scan_here : Profile → List ℕ → Scanned
scan_here p [] = ended
scan_here p (b ∷ bs) = scanned (token_from (rows_of p) (b ∷ bs))

-- the first token of the bytes, in a profile
unfoldable pub scan : Profile → List ℕ → Scanned
scan p bs = scan_here p (after_fillers bs)
