-- What a parse by the program's command gives.
use Rattle.std.proofs.Common.{◌≡◌, ◌∙◌, true, refl, sym, ap, subst, List, [], Result, Ok, Err, inl, inr}
use Rattle.std.specs.Prelude.{IfErr, IfOk}
use Rattle.clap.specs.Words.{App, HasMatchesOf, Text, fault_of, found_of, is_simple, is_simple_and_free, matches_of, rows_of}
use Rattle.clap.specs.declared.error.kind.ErrorKind.{ErrorKind}
use Rattle.clap.specs.declared.error.kind.ErrorKind.TheVariants as kind
use Rattle.clap.specs.declared.parser.matches.ArgMatches.{ArgMatches}
use Rattle.teco_cli.specs.Parsing.{IsErrorOf, IsUnparsed}
use Rattle.teco_cli.specs.declared.fault.LineFault.{LineFault}
use Rattle.teco_cli.specs.declared.fault.LineFault.TheVariants.{NoMemory, Refused}
use Rattle.teco_cli.proofs.Parses.{told_faulty}
use Rattle.tecol_driver.specs.CommandLine.{GivesLine, IsTecolError, SayLine, SayNoLine, GivesNoLine, tecol_app}
use Rattle.tecol_driver.specs.declared.line.TecolLine.{TecolLine}

-- the command is one whose matches the parser's contract says, and no argument has a rule on another
tecol_is_simple : is_simple tecol_app ≡ true
tecol_is_simple = refl

tecol_is_free : is_simple_and_free tecol_app ≡ true
tecol_is_free = refl

-- ---- why there is no line

tecol_error : (words : List Text) (k : ErrorKind) → IsErrorOf tecol_app words k → IsTecolError words k
tecol_error words k (inl h) = inl h
tecol_error words k (inr h) = inr (inl h)

no_line : (words : List Text) (fault : LineFault) → IsUnparsed tecol_app words fault → SayNoLine words fault
no_line words NoMemory h = tt
no_line words (Refused refusal) h = record { error = h.0; error_is = tecol_error words h.0 h.1; told = h.2 }

module _ (app : App) (is : app ≡ tecol_app) where
  -- the words are not read
  pub unparsed_is : (words : List Text) (fault : LineFault) → (is_simple_and_free app ≡ true → IsUnparsed app words fault) → SayNoLine words fault
  unparsed_is words fault h = no_line words fault (subst (λ a. IsUnparsed a words fault) is (h (ap is_simple_and_free is ∙ tecol_is_free)))

  -- ---- the line

  module _ (m : ArgMatches) (words : List Text) (matches : HasMatchesOf app words m) (fault : is_simple_and_free app ≡ true → fault_of app words ≡ []) where
    rows_are : rows_of (found_of m) ≡ matches_of tecol_app words
    rows_are = (matches (ap is_simple is ∙ tecol_is_simple)).0 ∙ ap (λ a. matches_of a words) is

    -- the parser takes the words
    words_taken : fault_of tecol_app words ≡ []
    words_taken = ap (λ a. fault_of a words) (sym is) ∙ fault (ap is_simple_and_free is ∙ tecol_is_free)

    pub line_is : (r : Result TecolLine LineFault) → IfOk r (GivesLine (rows_of (found_of m))) → IfOk r (SayLine words)
    line_is (Ok line) has = record { taken = words_taken; given = rw (← rows_are) has }
    line_is (Err fault) has = tt

    read_fault_is : (fault : LineFault) → GivesNoLine (rows_of (found_of m)) fault → SayNoLine words fault
    read_fault_is NoMemory h = tt
    read_fault_is (Refused refusal) h = record {
      error = kind.ArgumentConflict;
      error_is = inr (inr (words_taken, (rw (← rows_are) h.0, refl)));
      told = told_faulty refusal.refused_as h.1;
    }

    pub refused_is : (r : Result TecolLine LineFault) → IfErr r (GivesNoLine (rows_of (found_of m))) → IfErr r (SayNoLine words)
    refused_is (Ok line) h = tt
    refused_is (Err fault) h = read_fault_is fault h
