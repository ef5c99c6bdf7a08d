-- What a parse by the program's command gives.
use Rattle.std.proofs.Common.{◌≡◌, ◌∙◌, ◌≤◌, ℕ, true, false, refl, sym, ap, subst, arith, List, is_some, codes, Option, Some, None, Result, Ok, Err, inl, inr, []}
use Rattle.std.specs.Prelude.{IfOk, IfSome}
use Rattle.std.specs.List.{Any, slice_index_or}
use Rattle.clap.specs.Takes.{takes}
use Rattle.clap.specs.Kinds.{HasKind}
use Rattle.clap.specs.Facts.{args_of, least_values, unwrap_or_range}
use Rattle.clap.specs.Built.{IsParsedFrom}
use Rattle.clap.specs.Values.{IsUnsignedIn, kind_of}
use Rattle.clap.specs.Matches.{first_value, found_of, matched_of, one_text}
use Rattle.clap.specs.Walk.{Row, Text, first_of, one_of, rows_of}
use Rattle.clap.specs.declared.builder.action.ArgAction.TheVariants.{Set}
use Rattle.clap.specs.Simple.{HasMatchesOf, app_of, is_simple, matches_of}
use Rattle.clap.specs.Faults.{fault_of, is_simple_and_free}
use Rattle.clap.specs.declared.builder.arg.Arg.{Arg}
use Rattle.clap.specs.declared.builder.command.Command.{Command}
use Rattle.clap.specs.declared.builder.command.Command.TheViews.{out-Command}
use Rattle.clap.specs.declared.builder.value_parser.ValueParser.TheVariants as parser
use Rattle.clap.specs.declared.error.Error.{Error}
use Rattle.clap.specs.declared.error.kind.ErrorKind.{ErrorKind}
use Rattle.clap.specs.declared.error.kind.ErrorKind.TheVariants as kind
use Rattle.clap.specs.declared.parser.matches.ArgMatches.{ArgMatches}
use Rattle.clap.proofs.CallerLemmas.{required_has_value}
use Rattle.clap.proofs.SimpleLemmas.{plain_fields}
use Rattle.clap.proofs.WalkLemmas.{first_value-rows, one_text-rows}
use Rattle.teco_core.specs.declared.limits.TheConstants.{DEPTH_LIMIT}
use Rattle.teco_cli.specs.CommandLine.{IsCommandsFault, IsFaultSaid, IsTecoError, IsFaultOnceMade, IsLineBy, IsLineFault, IsMisfit, IsReadFault, IsRefusal, IsWordsFault, as_read, teco_app}
use Rattle.teco_cli.specs.Assignments.{IsNoAssignment}
use Rattle.teco_cli.specs.Options.{AreMany, HasLine, IsGiven, repeats_commands, option_texts}
use Rattle.teco_cli.specs.Conflict.{has_conflict}
use Rattle.teco_cli.specs.Parsing.{IsErrorOf}
use Rattle.teco_cli.specs.Refusals.{IsToldAs}
use Rattle.teco_cli.specs.declared.line.Line.{Line}
use Rattle.teco_cli.specs.declared.fault.LineFault.{LineFault}
use Rattle.teco_cli.specs.declared.fault.LineFault.TheVariants.{NoMemory, Refused}
use Rattle.teco_cli.specs.declared.refusal.Refusal.{Refusal}
use Rattle.teco_cli.proofs.Parses.{error_by, told_faulty, values_alike}
use Rattle.teco_cli.proofs.CommandEntries.{entry_read}
use Rattle.teco_cli.proofs.OptionRows.{IsAlone, alone_by, arg_within, is_row, is_table, place_of, plain_is, rule_at, simple_is, some_of}

-- the command is one whose matches the parser's contract says, and no argument has a rule on another
teco_is_simple : is_simple teco_app ≡ true
teco_is_simple = refl

teco_is_free : is_simple_and_free teco_app ≡ true
teco_is_free = refl

-- ---- why there is no line

teco_error : (words : List Text) (k : ErrorKind) → IsErrorOf teco_app words k → IsTecoError words k
teco_error words k (inl h) = inl h
teco_error words k (inr h) = inr (inl h)

pub fault_is : (c : Command) (words : List Text) (error : Error) (refusal : Refusal) → app_of c ≡ teco_app
    → (takes (app_of c) words ≡ true → kind_of error ≡ kind.OutOfMemory) → (is_simple_and_free (app_of c) ≡ true → HasKind (fault_of (app_of c) words) error)
    → IsToldAs refusal.refused_as (kind_of error) → IsRefusal words refusal
fault_is c words error refusal is passes kinds told = record {
  error = kind_of error;
  error_is = teco_error words (kind_of error) (error_by c teco_app words error is passes kinds teco_is_free);
  told = told;
}

-- ---- what a parse gives, for every option of the program's command

teco_is_table : is_table teco_app ≡ true
teco_is_table = refl

module _ (c : Command) (is : app_of c ≡ teco_app) (m : ArgMatches) (p : IsParsedFrom c m) where
  abbrev rows : List Row
  rows = rows_of (found_of m)

  globals_is : (out-Command c).has_globals ≡ false
  globals_is = (plain_fields c (ap (λ a. a.top.is_plain) is)).globals

  negates_is : (out-Command c).subcommand_negates_reqs ≡ false
  negates_is = ap (λ a. a.top.subcommand_negates_reqs) is

  some : (id : Text) → is_row teco_app.top.rules id ≡ true → Arg
  some id row = some_of (args_of c) _ (arg_within teco_app teco_is_table c is id row)

  abbrev place : Text → ℕ
  place id = place_of teco_app.top.rules id

  alone : (id : Text) (row : is_row teco_app.top.rules id ≡ true) → IsAlone c (place id) id (rule_at teco_app.top.rules id) (slice_index_or (args_of c) (place id) (some id row))
  alone id row = alone_by teco_app teco_is_table c is id row (some id row)

  -- a number that has a value has a text that passed its parser
  number_text : (id : Text) (row : is_row teco_app.top.rules id ≡ true) (least most : ℕ) → (rule_at teco_app.top.rules id).parser ≡ Some (parser.Unsigned least most)
      → is_some (first_value (found_of m) id) ≡ true → (t : Text) × (one_text (found_of m) id ≡ Some t) × IsUnsignedIn least most t
  number_text id row least most parsed has =
      let a = alone id row in
      let value = subst (λ t. is_some (first_value (found_of m) t) ≡ true) (sym a.id_is) has in
      let read = entry_read c m p (plain_is teco_app teco_is_table c is) globals_is (place id) (some id row) a.within a.unique a.own (parser.Unsigned least most)
      (ap (λ r. r.parser) a.rule_is ∙ parsed) a.named value in
      (read.0, subst (λ t. one_text (found_of m) t ≡ Some read.0) a.id_is read.1, read.2)

  -- an option or operand that is required has a value
  required_given : (id : Text) (row : is_row teco_app.top.rules id ≡ true) → (rule_at teco_app.top.rules id).action ≡ Some Set
      → (unwrap_or_range (rule_at teco_app.top.rules id).range).start_inclusive ≡ 1 → (rule_at teco_app.top.rules id).required ≡ true
      → is_some (first_of id rows) ≡ true
  required_given id row set start required =
      let a = alone id row in
      let arg = slice_index_or (args_of c) (place id) (some id row) in
      let one : least_values arg ≡ 1 = ap (λ r. (unwrap_or_range r.range).start_inclusive) a.rule_is ∙ start in
      let least : 1 ≤ least_values arg = rw one (omega arith) in
      let has = required_has_value c m p (plain_is teco_app teco_is_table c is) globals_is negates_is (place id) (some id row) a.within (ap (λ r. r.required) a.rule_is ∙ required)
      (ap (λ r. r.action) a.rule_is ∙ set) ((simple_is teco_app teco_is_table c is).args (place id) (some id row) a.within).delimiter least a.unique a.named a.own in
      sym (ap is_some (first_value-rows (found_of m) id)) ∙ subst (λ t. is_some (first_value (found_of m) t) ≡ true) a.id_is has

  -- a number that may be given passed its parser
  number_fits : (id : Text) (row : is_row teco_app.top.rules id ≡ true) (least most : ℕ) → (rule_at teco_app.top.rules id).parser ≡ Some (parser.Unsigned least most)
      → IfSome (one_of id rows) (IsUnsignedIn least most)
  number_fits id row least most parsed = go (one_text (found_of m) id) refl
    where
      go : (o : Option Text) → one_text (found_of m) id ≡ o → IfSome (one_of id rows) (IsUnsignedIn least most)
      go None e = rw (← one_text-rows (found_of m) id, e) tt
      go (Some t) e =
          let text = number_text id row least most parsed (sym (values_alike (matched_of (found_of m) id)) ∙ ap is_some e) in
          rw (← one_text-rows (found_of m) id, text.1) text.2

  -- what every parse gives
  pub given_is : IsGiven rows
  given_is = record {
    input = required_given (codes "input") refl refl refl refl;
    limit = number_fits (codes "limit") refl 0 1000000000000 refl;
    seconds = number_fits (codes "seconds") refl 1 1000000000000 refl;
    undo = number_fits (codes "undo") refl 1 DEPTH_LIMIT refl;
    page_lines = number_fits (codes "page-lines") refl 1 1000000000 refl;
  }

-- ---- the line

module _ (c : Command) (m : ArgMatches) (words : List Text) (is : app_of c ≡ teco_app) (matches : HasMatchesOf (app_of c) words m)
    (fault : is_simple_and_free (app_of c) ≡ true → fault_of (app_of c) words ≡ []) where
  pub rows_are : rows_of (found_of m) ≡ matches_of teco_app words
  rows_are = (matches (ap is_simple is ∙ teco_is_simple)).0 ∙ ap (λ a. matches_of a words) is

  -- the parser takes the words
  pub words_taken : fault_of teco_app words ≡ []
  words_taken = ap (λ a. fault_of a words) (sym is) ∙ fault (ap is_simple_and_free is ∙ teco_is_free)

  pub line_is : (r : Result Line LineFault) → IfOk r (HasLine (rows_of (found_of m))) → IfOk r (λ line. has_conflict line ≡ false)
      → IfOk r (IsLineBy words)
  line_is (Ok line) has fits = record { taken = words_taken; given = rw (← rows_are) has; fits = fits }
  line_is (Err fault) has fits = tt

  pub read_fault_is : (fault : LineFault) → IsReadFault (rows_of (found_of m)) fault → IsFaultOnceMade words fault
  read_fault_is NoMemory h = words_taken
  read_fault_is (Refused refusal) h = record {
    error = kind.ArgumentConflict;
    error_is = inr (inr (words_taken, (rw (← rows_are) h.0, refl)));
    told = told_faulty refusal.refused_as h.1;
  }

-- a line with a conflict is what a parse says
pub misfit_is : (parse : List Row) (line : Line) → HasLine parse line → (fault : LineFault) → IsMisfit line fault → IsReadFault parse fault
misfit_is parse line has NoMemory h = tt
misfit_is parse line has (Refused refusal) h = (inr (inr (inr (line, has, h.0))), h.1)

-- commands that are given again
pub repeated_is : (parse : List Row) (why : Text) (fault : LineFault) → repeats_commands parse ≡ true → IsFaultSaid why fault → IsReadFault parse fault
repeated_is parse why NoMemory again said = tt
repeated_is parse why (Refused refusal) again said = (inr (inl again), said.refused_as)

-- words of --assign that are no assignments
pub words_fault_is : (parse : List Row) (words : List Text) (fault : LineFault) → option_texts (codes "assign") parse ≡ words → IsWordsFault words fault → IsReadFault parse fault
words_fault_is parse words NoMemory is h = tt
words_fault_is parse words (Refused refusal) is h = (inr (inr (inl (subst (Any IsNoAssignment) (sym is) h.0))), h.1)

-- commands that are given more than once
pub commands_fault_is : (parse : List Row) (fault : LineFault)
    → IsCommandsFault (first_of (codes "execute") parse) (option_texts (codes "file") parse) (first_of (codes "pages") parse) (first_of (codes "bytes") parse) fault
    → IsReadFault parse fault
commands_fault_is parse NoMemory h = tt
commands_fault_is parse (Refused refusal) h = (inl h.0, h.1)

-- what is so of a line is so of the same line
pub same_line : (P : Line → Type 0) (r : Result Line LineFault) (line : Line) → IfOk r (λ fit. fit ≡ line) → P line → IfOk r P
same_line P (Ok fit) line same h = rw same h
same_line P (Err fault) line same h = tt

-- what the getters of commands gave, by the rows
pub by_rows : (P : Option Text → List Text → Option Text → Option Text → Type 0) {a b d : Option Text} {fs gs : List Text} {word pages bytes : Option Text}
    → a ≡ word → fs ≡ gs → b ≡ pages → d ≡ bytes → P word gs pages bytes → P a fs b d
by_rows P is_word is_files is_pages is_bytes h = rw (is_word, is_files, is_pages, is_bytes) h

-- why a line is refused once the command is made is why it is refused
pub fault_at_all : (words : List Text) (fault : LineFault) → IsFaultOnceMade (as_read words) fault → IsLineFault words fault
fault_at_all words NoMemory h = tt
fault_at_all words (Refused refusal) h = h

-- What is said of a faulty line is its fault.
pub said_many : (word : Option Text) (files : List Text) (pages bytes : Option Text) (why : Text) (fault : LineFault) → AreMany word files pages bytes → IsFaultSaid why fault → IsCommandsFault word files pages bytes fault
said_many word files pages bytes why NoMemory many said = tt
said_many word files pages bytes why (Refused refusal) many said = (many, said.refused_as)

pub said_misfit : (line : Line) (why : Text) (fault : LineFault) → has_conflict line ≡ true → IsFaultSaid why fault → IsMisfit line fault
said_misfit line why NoMemory has said = tt
said_misfit line why (Refused refusal) has said = (has, said.refused_as)
