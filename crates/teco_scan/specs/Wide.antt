-- What Wide has beside what Named has.
use Rattle.std.specs.Prelude.{◌≡◌, ◌⊎◌, false, List, ℕ, [], ◌∷◌, ◌++◌, codes, nat_le}
use Rattle.std.specs.List.{filter}
use Rattle.teco_core.specs.declared.code.Code.{Code}
use Rattle.teco_core.specs.declared.code.Code.TheVariants.{Ill, Iqc}
use Rattle.teco_scan.specs.declared.command.Bare.TheVariants as group
use Rattle.teco_scan.specs.declared.command.Command.TheVariants as command
use Rattle.teco_scan.specs.declared.command.LevelCommand.TheVariants as level
use Rattle.teco_scan.specs.declared.command.RegisterCommand.TheVariants as registers
use Rattle.teco_scan.specs.declared.command.Test.TheVariants as tests
use Rattle.teco_core.specs.declared.profile.Profile.TheVariants.{Named, Wide}
use Rattle.teco_scan.specs.declared.command.TextCommand.TheVariants as texts
use Rattle.teco_scan.specs.declared.command.Row.{Row}
use Rattle.teco_scan.specs.Scan.{bare, register, replace, set_text, text, step, decide, Instruction, TokenMeaning, found, fault, is_refused, scan}
use Rattle.teco_scan.specs.declared.table.TheConstants.{ROWS, WIDE_ROWS}
use Rattle.teco_scan.specs.Written.{plain, colon, names}
use Rattle.teco_core.specs.declared.ascii.TheConstants.{ESC}

-- What Named finds, Wide finds too.
abbrev pub WideKeeps : Type 0
WideKeeps = (bs rest : List ℕ) (t : TokenMeaning) → scan Named bs ≡ found t rest → scan Wide bs ≡ found t rest

-- What Wide finds, Named finds too, or it is ILL or IQC there.
abbrev pub WideAdds : Type 0
WideAdds = (bs rest : List ℕ) (t : TokenMeaning) → scan Wide bs ≡ found t rest
    → (scan Named bs ≡ found t rest) ⊎ (scan Named bs ≡ fault Ill) ⊎ (scan Named bs ≡ fault Iqc)

-- after two colons
abbrev pub colons : Instruction → TokenMeaning
colons i = record { modifiers = record { at = false; colons = 2 }; instruction = i }

-- In Wide the bytes are this token, and nothing is left of them. In Named they are this fault.
pub record IsWideToken (bs : List ℕ) (order : TokenMeaning) (code : Code) : Type 0 where
  pub wide : scan Wide bs ≡ found order []
  pub named : scan Named bs ≡ fault code

-- the names that Named refuses, which are commands of Wide alone, and those that Wide refuses
abbrev pub refused : List Row → List (List ℕ)
refused rows = names (filter (λ r. is_refused r.form) rows)

-- the names of the commands of Wide before which an @ may stand, and of those before which so many colons may
abbrev pub wide_at : List (List ℕ)
wide_at = names (filter (λ r. r.allows.at) WIDE_ROWS)

abbrev pub wide_colons : ℕ → List (List ℕ)
wide_colons n = names (filter (λ r. nat_le n r.allows.colons) WIDE_ROWS)

-- Which commands Wide alone has, and which of its commands admit modifiers. Then each that Wide alone has or that admits a colon more,
-- and each test that Wide alone has.
pub record WideSpellings : Type 0 where
  pub named_refuses : refused ROWS ≡ codes "===" ∷ codes "^Q" ∷ codes "FD" ∷ codes "FK" ∷ []
  pub wide_refuses_none : refused WIDE_ROWS ≡ []
  pub one_colon : wide_colons 1 ≡ codes "===" ∷ codes "==" ∷ codes "=" ∷ codes "A" ∷ codes "Y" ∷ codes "P" ∷ codes "Q"
      ∷ codes "X" ∷ codes "G" ∷ codes "^U" ∷ codes ";" ∷ codes "S" ∷ codes "N" ∷ codes "_" ∷ codes "FS" ∷ codes "FD" ∷ codes "FK" ∷ []
  pub two_colons : wide_colons 2 ≡ codes "S" ∷ codes "FS" ∷ []
  pub no_more : wide_colons 3 ≡ []
  pub at : wide_at ≡ codes "^U" ∷ codes "O" ∷ codes "I" ∷ codes "S" ∷ codes "N" ∷ codes "_" ∷ codes "FS" ∷ codes "FD"
      ∷ codes "FK" ∷ codes "^A" ∷ []
  pub colon_X : IsWideToken (codes ":Xa") (colon (step (register registers.Extract 0))) Ill
  pub colon_caret_U : IsWideToken (codes ":^Uax" ++ ESC ∷ []) (colon (step (set_text 0 (codes "x")))) Ill
  pub colon_P : IsWideToken (codes ":P") (colon (step (bare (group.Command command.TurnPages)))) Ill
  pub colon_A : IsWideToken (codes ":A") (colon (step (bare (group.Level level.Append)))) Ill
  pub colon_Y : IsWideToken (codes ":Y") (colon (step (bare (group.Command command.NextPage)))) Ill
  pub FD_finds_and_deletes : IsWideToken (codes "FDab" ++ ESC ∷ []) (plain (step (text texts.FindAndDelete (codes "ab")))) Ill
  pub FK_finds_and_kills : IsWideToken (codes "FKab" ++ ESC ∷ []) (plain (step (text texts.FindAndKill (codes "ab")))) Ill
  pub colons_FS : IsWideToken (codes "::FSa" ++ ESC ∷ codes "b" ++ ESC ∷ []) (colons (step (replace (codes "a") (codes "b")))) Ill
  pub three_equals_print_hexadecimal : IsWideToken (codes "===") (plain (step (bare (group.Command command.PrintHexadecimal)))) Ill
  pub caret_Q_is_a_distance : IsWideToken (codes "^Q") (plain (step (bare (group.Level level.Distance)))) Ill
  pub colon_semicolon : IsWideToken (codes ":;") (colon (step (bare (group.Command command.Leave)))) Ill
  pub equals_is_zero : IsWideToken (codes "\"=") (plain (decide tests.Zero)) Iqc
  pub less_is_below : IsWideToken (codes "\"<") (plain (decide tests.Below)) Iqc
  pub greater_is_above : IsWideToken (codes "\">") (plain (decide tests.Above)) Iqc
  pub C_tests_a_byte_of_a_name : IsWideToken (codes "\"C") (plain (decide tests.NameByte)) Iqc
