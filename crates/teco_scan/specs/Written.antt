-- How each command of the table is written. The table is a definition: it says what commands there are, and nothing proves
-- it right; these facts are what a reader can check it by. Each row has one here, in the order of their kinds.
use Rattle.std.specs.Prelude.{◌≡◌, ℕ, ◌-◌, true, false, not, nat_le, List, [], ◌∷◌, ◌++◌, codes, map}
use Rattle.std.specs.List.{filter}
use Rattle.teco_core.specs.declared.code.Code.TheVariants.{Ill}
use Rattle.teco_core.specs.declared.number.Op.TheVariants.{Plus, Minus, Times, Over, And, Or}
use Rattle.teco_scan.specs.declared.command.Quantity.TheVariants as quantity
use Rattle.teco_scan.specs.declared.command.Arithmetic.TheVariants as arithmetic
use Rattle.teco_scan.specs.declared.command.LevelCommand.TheVariants as level
use Rattle.teco_scan.specs.declared.command.Command.{Command}
use Rattle.teco_scan.specs.declared.command.Command.TheVariants as command
use Rattle.teco_scan.specs.declared.command.Bare.{Bare}
use Rattle.teco_scan.specs.declared.command.Bare.TheVariants as group
use Rattle.teco_scan.specs.declared.command.RegisterCommand.TheVariants as registers
use Rattle.teco_scan.specs.declared.command.TextCommand.TheVariants as texts
use Rattle.teco_scan.specs.declared.command.BlockMark.TheVariants.{Iterate, EndIteration, Otherwise, EndTest}
use Rattle.teco_scan.specs.declared.command.Test.TheVariants as tests
use Rattle.teco_scan.specs.declared.command.Row.{Row}
use Rattle.teco_scan.specs.declared.command.Name.{Name}
use Rattle.teco_scan.specs.declared.command.Name.TheVariants.{One, Two, Three, Control}
use Rattle.teco_core.specs.declared.profile.Profile.TheVariants.{Named}
use Rattle.teco_scan.specs.declared.table.TheConstants.{ROWS}
use Rattle.teco_scan.specs.Scan.{digits, bare, register, byte, text, set_text, replace, Instruction, step, mark, decide, tag, escape, TokenMeaning, found, fault, is_refused, no_modifiers, scan}
use Prim.Native.Char.{code}
use Rattle.teco_core.specs.declared.ascii.TheConstants.{ESC}

abbrev pub plain : Instruction → TokenMeaning
plain i = record { modifiers = no_modifiers; instruction = i }

-- after one @, and after one colon
abbrev pub at_sign : Instruction → TokenMeaning
at_sign i = record { modifiers = record { at = true; colons = 0 }; instruction = i }

abbrev pub colon : Instruction → TokenMeaning
colon i = record { modifiers = record { at = false; colons = 1 }; instruction = i }

-- In Named the bytes are this token, and nothing is left of them.
abbrev pub IsToken : List ℕ → TokenMeaning → Type 0
IsToken bs order = scan Named bs ≡ found order []

-- The bytes are a command after which nothing follows.
abbrev pub IsBare : List ℕ → Bare → Type 0
IsBare bs b = IsToken bs (plain (step (bare b)))

abbrev pub IsCommand : List ℕ → Command → Type 0
IsCommand bs c = IsBare bs (group.Command c)

-- numbers, and what builds arguments
pub record NumbersAreSpelled : Type 0 where
  pub digits_are_a_number : IsToken (codes "907") (plain (step (digits (codes "907"))))
  pub B_is_the_beginning : IsBare (codes "B") (group.Quantity quantity.Beginning)
  pub Z_is_the_end : IsBare (codes "Z") (group.Quantity quantity.End)
  pub dot_is_the_pointer : IsBare (codes ".") (group.Quantity quantity.Pointer)
  pub caret_E_tells_of_the_form_feed : IsBare (codes "^E") (group.Quantity quantity.FormFeed)
  pub caret_N_tells_of_the_input : IsBare (codes "^N") (group.Quantity quantity.InputEnd)
  pub two_carets_take_a_byte : IsToken (codes "^^x") (plain (step (byte (code "x"))))
  pub H_is_the_whole : IsBare (codes "H") (group.Arithmetic arithmetic.Whole)
  pub plus_adds : IsBare (codes "+") (group.Arithmetic (arithmetic.Operator Plus))
  pub minus_subtracts : IsBare (codes "-") (group.Arithmetic (arithmetic.Operator Minus))
  pub star_multiplies : IsBare (codes "*") (group.Arithmetic (arithmetic.Operator Times))
  pub slash_divides : IsBare (codes "/") (group.Arithmetic (arithmetic.Operator Over))
  pub ampersand_is_and : IsBare (codes "&") (group.Arithmetic (arithmetic.Operator And))
  pub number_sign_is_or : IsBare (codes "#") (group.Arithmetic (arithmetic.Operator Or))
  pub parenthesis_opens : IsBare (codes "(") (group.Arithmetic arithmetic.Open)
  pub parenthesis_closes : IsBare (codes ")") (group.Arithmetic arithmetic.Close)
  pub comma_makes_a_pair : IsBare (codes ",") (group.Arithmetic arithmetic.Comma)
  pub A_appends : IsBare (codes "A") (group.Level level.Append)
  pub backslash_is_decimal : IsBare (codes "\\") (group.Level level.Decimal)

-- commands after which nothing follows
pub record PlainCommandsAreSpelled : Type 0 where
  pub J_jumps : IsCommand (codes "J") command.Jump
  pub j_jumps_too : IsCommand (codes "j") command.Jump
  pub C_moves_forward : IsCommand (codes "C") command.Forward
  pub R_moves_back : IsCommand (codes "R") command.Back
  pub L_moves_by_lines : IsCommand (codes "L") command.Line
  pub D_deletes : IsCommand (codes "D") command.Delete
  pub K_kills_lines : IsCommand (codes "K") command.Kill
  pub T_types : IsCommand (codes "T") command.TypeOut
  pub V_views : IsCommand (codes "V") command.View
  pub caret_T_types_a_byte : IsCommand (codes "^T") command.TypeByte
  pub equals_prints : IsCommand (codes "=") command.Print
  pub two_equals_print_octal : IsCommand (codes "==") command.PrintOctal
  pub three_equals_are_refused : scan Named (codes "===") ≡ fault Ill
  pub Y_goes_to_the_next_page : IsCommand (codes "Y") command.NextPage
  pub P_turns_pages : IsCommand (codes "P") command.TurnPages
  pub PW_writes_the_page : IsCommand (codes "PW") command.WritePage
  pub EX_exits : IsCommand (codes "EX") command.Exit
  pub semicolon_leaves : IsCommand (codes ";") command.Leave
  pub caret_X_sets_the_case_mode : IsCommand (codes "^X") command.CaseMode

-- commands on a register, a letter in either case
pub record RegisterCommandsAreSpelled : Type 0 where
  pub Q_is_a_number : IsToken (codes "Qa") (plain (step (register registers.Number 0)))
  pub percent_increments : IsToken (codes "%B") (plain (step (register registers.Increment 1)))
  pub U_sets : IsToken (codes "Ua") (plain (step (register registers.Set 0)))
  pub X_extracts : IsToken (codes "Xa") (plain (step (register registers.Extract 0)))
  pub G_gets : IsToken (codes "Ga") (plain (step (register registers.Get 0)))
  pub M_runs_a_macro : IsToken (codes "M9") (plain (step (register registers.Macro 35)))
  pub bracket_pushes : IsToken (codes "[a") (plain (step (register registers.Push 0)))
  pub bracket_pops : IsToken (codes "]a") (plain (step (register registers.Pop 0)))

-- Commands with a text. It goes up to ESC, but the text of `^A` goes up to the control byte of A; after @ it goes up to the byte
-- before it. `^U` is its control byte, or a caret and the letter, and so is each of its like.
pub record TextCommandsAreSpelled : Type 0 where
  pub I_inserts : IsToken (codes "Iab" ++ ESC ∷ []) (plain (step (text texts.Insert (codes "ab"))))
  pub at_I_has_a_delimiter : IsToken (codes "@I/x/") (at_sign (step (text texts.Insert (codes "x"))))
  pub TAB_inserts : IsToken (code "\t" ∷ codes "ab" ++ ESC ∷ []) (plain (step (text texts.InsertTab (codes "ab"))))
  pub caret_A_types : IsToken (codes "^Aab" ++ (code "A" - 64) ∷ []) (plain (step (text texts.TypeOut (codes "ab"))))
  pub S_searches : IsToken (codes "Sab" ++ ESC ∷ []) (plain (step (text texts.Search (codes "ab"))))
  pub N_searches_pages : IsToken (codes "Nab" ++ ESC ∷ []) (plain (step (text texts.SearchPages (codes "ab"))))
  pub low_line_searches_pages_quietly : IsToken (codes "_ab" ++ ESC ∷ [])
      (plain (step (text texts.SearchPagesQuietly (codes "ab"))))
  pub O_goes_to_a_tag : IsToken (codes "Oab" ++ ESC ∷ []) (plain (step (text texts.Go (codes "ab"))))
  pub FS_replaces : IsToken (codes "FSa" ++ ESC ∷ codes "b" ++ ESC ∷ [])
      (plain (step (replace (codes "a") (codes "b"))))
  pub control_U_sets_a_text : IsToken ((code "U" - 64) ∷ codes "ax" ++ ESC ∷ []) (plain (step (set_text 0 (codes "x"))))
  pub caret_U_sets_a_text : IsToken (codes "^Uax" ++ ESC ∷ []) (plain (step (set_text 0 (codes "x"))))

-- marks of blocks, tags, and ESC between commands
pub record MarksAreSpelled : Type 0 where
  pub less_iterates : IsToken (codes "<") (plain (mark Iterate))
  pub greater_ends_an_iteration : IsToken (codes ">") (plain (mark EndIteration))
  pub quote_tests : IsToken (codes "\"g") (plain (decide tests.Above))
  pub bar_divides_a_conditional : IsToken (codes "|") (plain (mark Otherwise))
  pub apostrophe_ends_a_conditional : IsToken (codes "'") (plain (mark EndTest))
  pub marks_hold_a_tag : IsToken (codes "!x!") (plain (tag (codes "x")))
  pub escape_is_a_token : IsToken (ESC ∷ []) (plain escape)

-- a command's name in letters: a control byte as a caret and its letter
abbrev pub letters : Name → List ℕ
letters (One a) = a ∷ []
letters (Two a b) = a ∷ b ∷ []
letters (Three a b c) = a ∷ b ∷ c ∷ []
letters (Control a) = codes "^" ++ a ∷ []

-- the rows that are commands: the name of another is refused
abbrev pub commands : List Row → List Row
commands rows = filter (λ r. not (is_refused r.form)) rows

abbrev pub names : List Row → List (List ℕ)
names rows = map (λ r. letters r.name) rows

-- the names of the commands before which an @ may stand, and of those before which so many colons may
abbrev pub admit_at : List (List ℕ)
admit_at = names (filter (λ r. r.allows.at) (commands ROWS))

abbrev pub admit_colons : ℕ → List (List ℕ)
admit_colons n = names (filter (λ r. nat_le n r.allows.colons) (commands ROWS))

-- Which commands admit modifiers, in the order of the rows; no other does.
pub record ModifiersAreAdmitted : Type 0 where
  pub at : admit_at ≡ codes "^U" ∷ codes "O" ∷ codes "I" ∷ codes "S" ∷ codes "N" ∷ codes "_"
      ∷ codes "FS" ∷ codes "^A" ∷ []
  pub one_colon : admit_colons 1 ≡ codes "==" ∷ codes "=" ∷ codes "Q" ∷ codes "G" ∷ codes "S"
      ∷ codes "N" ∷ codes "_" ∷ codes "FS" ∷ []
  pub two_colons : admit_colons 2 ≡ codes "S" ∷ []
  pub no_more : admit_colons 3 ≡ []
  pub colon_Q_is_a_length : IsToken (codes ":Qa") (colon (step (register registers.Number 0)))
