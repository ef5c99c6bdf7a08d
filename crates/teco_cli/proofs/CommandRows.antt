-- Command lines that are written out, and what the parse gives for each.
use Rattle.std.proofs.Common.{◌≡◌, ◌++◌, refl, true, false, codes, map, List, [], ◌∷◌, Option, Some, None}
use Rattle.clap.specs.Words.{Text, all_of, fault_of, first_of, matches_of, one_of, takes}
use Rattle.clap.specs.declared.error.kind.ErrorKind.TheVariants.{DisplayHelp, InvalidValue, MissingRequiredArgument, TooManyValues, UnknownArgument, ValueValidation}
use Rattle.clap.proofs.OnLiterals.{clap_on_literals}
use Rattle.teco_cli.specs.Backups.{backups_after, with_backups}
use Rattle.teco_cli.specs.CommandLine.{on_pages, teco_app}
use Rattle.teco_cli.specs.Joining.{joined, joined_after}
use Rattle.teco_cli.specs.Options.{repeats_commands, option_texts}
use Rattle.teco_cli.specs.StreamNames.{is_standard_input, is_standard_output}

-- what the words give for the inputs, the output, the flags and the numbers
pub record Row : Type 0 where
  pub input : Option Text
  pub more : Option (List Text)
  pub output : Option Text
  pub in_place : Option Text
  pub backup : Option Text
  pub session : Option Text
  pub prompt : Option Text
  pub check : Option Text
  pub explain : Option Text
  pub quiet : Option Text
  pub wide : Option Text
  pub limit : Option Text
  pub seconds : Option Text
  pub undo : Option Text
  pub page_lines : Option Text

abbrev row_of : List Text → Row
row_of words = record {
  input = first_of (codes "input") (matches_of teco_app words);
  more = all_of (codes "more") (matches_of teco_app words);
  output = first_of (codes "output") (matches_of teco_app words);
  in_place = one_of (codes "in-place") (matches_of teco_app words);
  backup = first_of (codes "backup") (matches_of teco_app words);
  session = first_of (codes "session") (matches_of teco_app words);
  prompt = one_of (codes "prompt") (matches_of teco_app words);
  check = one_of (codes "check") (matches_of teco_app words);
  explain = one_of (codes "explain") (matches_of teco_app words);
  quiet = one_of (codes "quiet") (matches_of teco_app words);
  wide = one_of (codes "wide") (matches_of teco_app words);
  limit = one_of (codes "limit") (matches_of teco_app words);
  seconds = one_of (codes "seconds") (matches_of teco_app words);
  undo = one_of (codes "undo") (matches_of teco_app words);
  page_lines = one_of (codes "page-lines") (matches_of teco_app words);
}

-- what is so of a line with nothing but an input
abbrev plain : Text → Row
plain input = record {
  input = Some input;
  more = None;
  output = None;
  in_place = Some (codes "false");
  backup = None;
  session = None;
  prompt = Some (codes "false");
  check = Some (codes "false");
  explain = Some (codes "false");
  quiet = Some (codes "false");
  wide = Some (codes "false");
  limit = None;
  seconds = None;
  undo = None;
  page_lines = None;
}

-- teco a
alone : row_of (codes "teco" ∷ codes "a" ∷ []) ≡ plain (codes "a")
unfolding clap_on_literals
alone = refl

-- teco --limit 5 a; teco --seconds 9 a; teco --undo 1 a; teco a --page-lines=7
numbers : map row_of (
    (codes "teco" ∷ codes "--limit" ∷ codes "5" ∷ codes "a" ∷ [])
    ∷ (codes "teco" ∷ codes "--seconds" ∷ codes "9" ∷ codes "a" ∷ [])
    ∷ (codes "teco" ∷ codes "--undo" ∷ codes "1" ∷ codes "a" ∷ [])
    ∷ (codes "teco" ∷ codes "a" ∷ codes "--page-lines=7" ∷ [])
    ∷ []) ≡ record (plain (codes "a")) { limit = Some (codes "5") }
    ∷ record (plain (codes "a")) { seconds = Some (codes "9") }
    ∷ record (plain (codes "a")) { undo = Some (codes "1") }
    ∷ record (plain (codes "a")) { page_lines = Some (codes "7") }
    ∷ []
unfolding clap_on_literals
numbers = refl

-- teco a --prompt --check --explain --wide -q -ob --limit=0 --undo=100000
all_given : row_of (codes "teco" ∷ codes "a" ∷ codes "--prompt" ∷ codes "--check" ∷ codes "--explain" ∷ codes "--wide" ∷ codes "-q" ∷ codes "-ob" ∷ codes "--limit=0" ∷ codes "--undo=100000" ∷ [])
    ≡ record (plain (codes "a")) {
      output = Some (codes "b");
      prompt = Some (codes "true");
      check = Some (codes "true");
      explain = Some (codes "true");
      quiet = Some (codes "true");
      wide = Some (codes "true");
      limit = Some (codes "0");
      undo = Some (codes "100000");
    }
unfolding clap_on_literals
all_given = refl

-- teco --limit 5 --limit=6 a; teco -o b -oc a; teco -i --in-place a: of what is given again the last one stands
last_given : map row_of (
    (codes "teco" ∷ codes "--limit" ∷ codes "5" ∷ codes "--limit=6" ∷ codes "a" ∷ [])
    ∷ (codes "teco" ∷ codes "-o" ∷ codes "b" ∷ codes "-oc" ∷ codes "a" ∷ [])
    ∷ (codes "teco" ∷ codes "-i" ∷ codes "--in-place" ∷ codes "a" ∷ [])
    ∷ []) ≡ record (plain (codes "a")) { limit = Some (codes "6") }
    ∷ record (plain (codes "a")) { output = Some (codes "c") }
    ∷ record (plain (codes "a")) { in_place = Some (codes "true") }
    ∷ []
unfolding clap_on_literals
last_given = refl

-- teco -i a; teco a b c; teco a b -i c; teco a -- -i
several : map row_of (
    (codes "teco" ∷ codes "-i" ∷ codes "a" ∷ [])
    ∷ (codes "teco" ∷ codes "a" ∷ codes "b" ∷ codes "c" ∷ [])
    ∷ (codes "teco" ∷ codes "a" ∷ codes "b" ∷ codes "-i" ∷ codes "c" ∷ [])
    ∷ (codes "teco" ∷ codes "a" ∷ codes "--" ∷ codes "-i" ∷ [])
    ∷ []) ≡ record (plain (codes "a")) { in_place = Some (codes "true") }
    ∷ record (plain (codes "a")) { more = Some (codes "b" ∷ codes "c" ∷ []) }
    ∷ record (plain (codes "a")) { more = Some (codes "b" ∷ codes "c" ∷ []); in_place = Some (codes "true") }
    ∷ record (plain (codes "a")) { more = Some (codes "-i" ∷ []) }
    ∷ []
unfolding clap_on_literals
several = refl

-- what the words give for the word, the files, the word for every page and the bytes
abbrev commands_of : List Text → Option Text × Option (List Text) × Option Text × Option Text
commands_of words = (
  first_of (codes "execute") (matches_of teco_app words),
  all_of (codes "file") (matches_of teco_app words),
  first_of (codes "pages") (matches_of teco_app words),
  first_of (codes "bytes") (matches_of teco_app words),
)

-- teco a; teco -e b a; teco a --execute=b; teco -p b a; teco a --pages=b; teco -fb a; teco --file b a; teco -b c a; teco a --bytes=c
commands_given : map commands_of (
    (codes "teco" ∷ codes "a" ∷ [])
    ∷ (codes "teco" ∷ codes "-e" ∷ codes "b" ∷ codes "a" ∷ [])
    ∷ (codes "teco" ∷ codes "a" ∷ codes "--execute=b" ∷ [])
    ∷ (codes "teco" ∷ codes "-p" ∷ codes "b" ∷ codes "a" ∷ [])
    ∷ (codes "teco" ∷ codes "a" ∷ codes "--pages=b" ∷ [])
    ∷ (codes "teco" ∷ codes "-fb" ∷ codes "a" ∷ [])
    ∷ (codes "teco" ∷ codes "--file" ∷ codes "b" ∷ codes "a" ∷ [])
    ∷ (codes "teco" ∷ codes "-b" ∷ codes "c" ∷ codes "a" ∷ [])
    ∷ (codes "teco" ∷ codes "a" ∷ codes "--bytes=c" ∷ [])
    ∷ []) ≡ (None, None, None, None) ∷ (Some (codes "b"), None, None, None) ∷ (Some (codes "b"), None, None, None)
    ∷ (None, None, Some (codes "b"), None) ∷ (None, None, Some (codes "b"), None)
    ∷ (None, Some (codes "b" ∷ []), None, None) ∷ (None, Some (codes "b" ∷ []), None, None)
    ∷ (None, None, None, Some (codes "c")) ∷ (None, None, None, Some (codes "c")) ∷ []
unfolding clap_on_literals
commands_given = refl

-- teco -v A=b -vC:=1 a: the words of --assign in their order
assigned : option_texts (codes "assign") (matches_of teco_app (codes "teco" ∷ codes "-v" ∷ codes "A=b" ∷ codes "-vC:=1" ∷ codes "a" ∷ []))
    ≡ codes "A=b" ∷ codes "C:=1" ∷ []
unfolding clap_on_literals
assigned = refl

-- teco -e b -e c a; teco -bb --bytes=c a; teco -f b -f c a: the parser takes each, and the program not the first two
repeated : map (λ words. repeats_commands (matches_of teco_app words)) (
    (codes "teco" ∷ codes "-e" ∷ codes "b" ∷ codes "-e" ∷ codes "c" ∷ codes "a" ∷ [])
    ∷ (codes "teco" ∷ codes "-bb" ∷ codes "--bytes=c" ∷ codes "a" ∷ [])
    ∷ (codes "teco" ∷ codes "-f" ∷ codes "b" ∷ codes "-f" ∷ codes "c" ∷ codes "a" ∷ [])
    ∷ []) ≡ true ∷ true ∷ false ∷ []
unfolding clap_on_literals
repeated = refl

-- teco -f b -e c -f d a: the files in their order, and a word
sources_given : map commands_of ((codes "teco" ∷ codes "-f" ∷ codes "b" ∷ codes "-e" ∷ codes "c" ∷ codes "-f" ∷ codes "d" ∷ codes "a" ∷ []) ∷ [])
    ≡ (Some (codes "c"), Some (codes "b" ∷ codes "d" ∷ []), None, None) ∷ []
unfolding clap_on_literals
sources_given = refl

-- teco -p b -f c a: the parser takes it, and the program does not
both_taken : takes teco_app (codes "teco" ∷ codes "-p" ∷ codes "b" ∷ codes "-f" ∷ codes "c" ∷ codes "a" ∷ []) ≡ true
unfolding clap_on_literals
both_taken = refl

both_given : map commands_of ((codes "teco" ∷ codes "-p" ∷ codes "b" ∷ codes "-f" ∷ codes "c" ∷ codes "a" ∷ []) ∷ [])
    ≡ (None, Some (codes "c" ∷ []), Some (codes "b"), None) ∷ []
unfolding clap_on_literals
both_given = refl

-- teco -p 0K a runs Y<0K$ $-1-^N;P>EX$$, where each $ is ESC; those at the end of the strings are one
pages_are : map on_pages (codes "0K" ∷ (codes "FSa" ++ (27 ∷ codes "b") ++ (27 ∷ [])) ∷ (codes "FSa" ++ (27 ∷ codes "b") ++ (27 ∷ 27 ∷ [])) ∷ (27 ∷ []) ∷ [])
    ≡ (codes "Y<0K" ++ (27 ∷ 32 ∷ 27 ∷ codes "-1-^N;P>EX") ++ (27 ∷ 27 ∷ []))
    ∷ (codes "Y<FSa" ++ (27 ∷ codes "b") ++ (27 ∷ 32 ∷ 27 ∷ codes "-1-^N;P>EX") ++ (27 ∷ 27 ∷ []))
    ∷ (codes "Y<FSa" ++ (27 ∷ codes "b") ++ (27 ∷ 32 ∷ 27 ∷ codes "-1-^N;P>EX") ++ (27 ∷ 27 ∷ []))
    ∷ (codes "Y<" ++ (27 ∷ 32 ∷ 27 ∷ codes "-1-^N;P>EX") ++ (27 ∷ 27 ∷ []))
    ∷ []
pages_are = refl

-- teco -- --prompt
after_dashes : row_of (codes "teco" ∷ codes "--" ∷ codes "--prompt" ∷ []) ≡ plain (codes "--prompt")
unfolding clap_on_literals
after_dashes = refl

all_taken : map (takes teco_app) (
    (codes "teco" ∷ codes "a" ∷ [])
    ∷ (codes "teco" ∷ codes "--limit" ∷ codes "5" ∷ codes "a" ∷ [])
    ∷ (codes "teco" ∷ codes "a" ∷ codes "--prompt" ∷ codes "--output=b" ∷ codes "--limit=1000000000000" ∷ [])
    ∷ (codes "teco" ∷ codes "--undo" ∷ codes "1" ∷ codes "a" ∷ [])
    ∷ (codes "teco" ∷ codes "--undo" ∷ codes "100000" ∷ codes "a" ∷ [])
    ∷ []) ≡ true ∷ true ∷ true ∷ true ∷ true ∷ []
unfolding clap_on_literals
all_taken = refl

-- each of these lines has one fault
faults : map (fault_of teco_app) (
    (codes "teco" ∷ [])
    ∷ (codes "teco" ∷ codes "a" ∷ codes "--limit" ∷ [])
    ∷ (codes "teco" ∷ codes "a" ∷ codes "--limit=x" ∷ [])
    ∷ (codes "teco" ∷ codes "a" ∷ codes "--limit=1000000000001" ∷ [])
    ∷ (codes "teco" ∷ codes "a" ∷ codes "--seconds=0" ∷ [])
    ∷ (codes "teco" ∷ codes "a" ∷ codes "--seconds=1000000000001" ∷ [])
    ∷ (codes "teco" ∷ codes "a" ∷ codes "--undo=0" ∷ [])
    ∷ (codes "teco" ∷ codes "a" ∷ codes "--undo=100001" ∷ [])
    ∷ (codes "teco" ∷ codes "a" ∷ codes "--undo=x" ∷ [])
    ∷ (codes "teco" ∷ codes "a" ∷ codes "--page-lines=0" ∷ [])
    ∷ (codes "teco" ∷ codes "a" ∷ codes "--page-lines=1000000001" ∷ [])
    ∷ (codes "teco" ∷ codes "a" ∷ codes "--prompt=true" ∷ [])
    ∷ (codes "teco" ∷ codes "a" ∷ codes "--what" ∷ [])
    ∷ (codes "teco" ∷ codes "a" ∷ codes "-e" ∷ [])
    ∷ (codes "teco" ∷ codes "a" ∷ codes "-e" ∷ codes "-C" ∷ [])
    ∷ (codes "teco" ∷ codes "--help" ∷ [])
    ∷ []) ≡ (MissingRequiredArgument ∷ []) ∷ (InvalidValue ∷ []) ∷ (ValueValidation ∷ []) ∷ (ValueValidation ∷ [])
    ∷ (ValueValidation ∷ []) ∷ (ValueValidation ∷ [])
    ∷ (ValueValidation ∷ []) ∷ (ValueValidation ∷ []) ∷ (ValueValidation ∷ []) ∷ (ValueValidation ∷ []) ∷ (ValueValidation ∷ []) ∷ (TooManyValues ∷ []) ∷ (UnknownArgument ∷ [])
    ∷ (InvalidValue ∷ []) ∷ (UnknownArgument ∷ []) ∷ (DisplayHelp ∷ []) ∷ []
unfolding clap_on_literals
faults = refl

-- the names of the streams, and names that are none
input_named : map is_standard_input (codes "-" ∷ codes "/dev/stdin" ∷ codes "/dev/fd/0" ∷ codes "/proc/self/fd/0" ∷ codes "/dev/stdout" ∷ codes "./-" ∷ codes "" ∷ [])
    ≡ true ∷ true ∷ true ∷ true ∷ false ∷ false ∷ false ∷ []
input_named = refl

output_named : map is_standard_output (codes "-" ∷ codes "/dev/stdout" ∷ codes "/dev/fd/1" ∷ codes "/proc/self/fd/1" ∷ codes "/dev/stdin" ∷ codes "./-" ∷ codes "" ∷ [])
    ≡ true ∷ true ∷ true ∷ true ∷ false ∷ false ∷ false ∷ []
output_named = refl

-- teco -e -1J a; teco --limit -1 a; teco -i -e x -f; teco -- -e -1J; teco -e
joined_words : map joined (
    (codes "teco" ∷ codes "-e" ∷ codes "-1J" ∷ codes "a" ∷ [])
    ∷ (codes "teco" ∷ codes "--limit" ∷ codes "-1" ∷ codes "a" ∷ [])
    ∷ (codes "teco" ∷ codes "-i" ∷ codes "-e" ∷ codes "x" ∷ codes "-f" ∷ [])
    ∷ (codes "teco" ∷ codes "--" ∷ codes "-e" ∷ codes "-1J" ∷ [])
    ∷ (codes "teco" ∷ codes "-e" ∷ [])
    ∷ []) ≡ (codes "teco" ∷ codes "-e-1J" ∷ codes "a" ∷ [])
    ∷ (codes "teco" ∷ codes "--limit=-1" ∷ codes "a" ∷ [])
    ∷ (codes "teco" ∷ codes "-i" ∷ codes "-e" ∷ codes "x" ∷ codes "-f" ∷ [])
    ∷ (codes "teco" ∷ codes "--" ∷ codes "-e" ∷ codes "-1J" ∷ [])
    ∷ (codes "teco" ∷ codes "-e" ∷ [])
    ∷ []
unfolding joined_after
joined_words = refl

-- teco --in-place=.bak a; teco -i.bak a; teco -i a; teco -- --in-place=.bak; teco --in-place=
backup_words : map with_backups (
    (codes "teco" ∷ codes "--in-place=.bak" ∷ codes "a" ∷ [])
    ∷ (codes "teco" ∷ codes "a" ∷ codes "-i.bak" ∷ [])
    ∷ (codes "teco" ∷ codes "-i" ∷ codes "a" ∷ [])
    ∷ (codes "teco" ∷ codes "--" ∷ codes "--in-place=.bak" ∷ [])
    ∷ (codes "teco" ∷ codes "--in-place=" ∷ [])
    ∷ []) ≡ (codes "teco" ∷ codes "--backup=.bak" ∷ codes "a" ∷ [])
    ∷ (codes "teco" ∷ codes "a" ∷ codes "--backup=.bak" ∷ [])
    ∷ (codes "teco" ∷ codes "-i" ∷ codes "a" ∷ [])
    ∷ (codes "teco" ∷ codes "--" ∷ codes "--in-place=.bak" ∷ [])
    ∷ (codes "teco" ∷ codes "--backup=" ∷ [])
    ∷ []
unfolding backups_after
backup_words = refl

-- teco --session s a; teco a --session=s
sessions_given : map row_of (
    (codes "teco" ∷ codes "--session" ∷ codes "s" ∷ codes "a" ∷ [])
    ∷ (codes "teco" ∷ codes "a" ∷ codes "--session=s" ∷ [])
    ∷ []) ≡ record (plain (codes "a")) { session = Some (codes "s") }
    ∷ record (plain (codes "a")) { session = Some (codes "s") }
    ∷ []
unfolding clap_on_literals
sessions_given = refl

-- teco --backup=.bak a; teco --backup=.bak --backup .old a
backups_given : map row_of (
    (codes "teco" ∷ codes "--backup=.bak" ∷ codes "a" ∷ [])
    ∷ (codes "teco" ∷ codes "--backup=.bak" ∷ codes "--backup" ∷ codes ".old" ∷ codes "a" ∷ [])
    ∷ []) ≡ record (plain (codes "a")) { backup = Some (codes ".bak") }
    ∷ record (plain (codes "a")) { backup = Some (codes ".old") }
    ∷ []
unfolding clap_on_literals
backups_given = refl
