-- What a parse gives, and why there is none.
use Rattle.std.proofs.Common.{◌≡◌, ◌∙◌, ℕ, Bool, true, false, refl, sym, ap, subst, arith, List, [], is_some, codes, map, Option, Some, None, Result, Ok, Err, inl, inr, true≢false}
use Rattle.std.specs.Prelude.{option_and_then, option_map, slice_get, unwrap_or, IfSome, IsTrue, ◌↔◌}
use Rattle.std.specs.List.{slice_index_or}
use Rattle.std.specs.Str.Parse.{ParsesBool, ParsesUnsigned}
use Rattle.std.specs.Borrow.{Bor}
use Rattle.clap.specs.Takes.{takes}
use Rattle.clap.specs.Kinds.{HasKind, IsAmong}
use Rattle.clap.specs.Values.{kind_of, read_as}
use Rattle.clap.specs.Matches.{ReadsOne}
use Rattle.clap.specs.Walk.{Rule, Text}
use Rattle.clap.specs.Simple.{App, HasMatchesOf, app_of}
use Rattle.clap.specs.Faults.{fault_of, is_simple_and_free}
use Rattle.clap.specs.declared.builder.command.Command.{Command}
use Rattle.clap.specs.declared.builder.value_parser.Reading.{Reading}
use Rattle.clap.specs.declared.error.Error.{Error}
use Rattle.clap.specs.declared.error.kind.ErrorKind.{ErrorKind}
use Rattle.clap.specs.declared.error.kind.ErrorKind.TheVariants as kind
use Rattle.clap.specs.declared.parser.matches.ArgMatches.{ArgMatches}
use Rattle.clap.specs.declared.parser.matches.MatchedArg.{MatchedArg}
use Rattle.teco_cli.specs.Values.{IsNumber, number_of}
use Rattle.teco_cli.specs.Parsing.{program_app}
use Rattle.teco_cli.specs.OptionTable.{rule_by, with_rules}
use Rattle.teco_cli.specs.Parsing.{IsErrorOf, IsUnparsed, app_by}
use Rattle.teco_cli.specs.Refusals.{IsToldAs}
use Rattle.teco_cli.specs.declared.fault.LineFault.TheVariants.{Refused}
use Rattle.teco_cli.specs.declared.options.OptionRow.{OptionRow}
use Rattle.teco_cli.specs.declared.parsing.Program.{Program}
use Rattle.teco_cli.specs.declared.refusal.Refusal.{Refusal}
use Rattle.teco_cli.specs.declared.refusal.RefusedAs.{RefusedAs}
use Rattle.teco_cli.specs.declared.refusal.RefusedAs.TheVariants.{Faulty}

-- ---- what the getters give

-- what is read has a value
heads_alike : (how : Reading) (o : Option (Bor (List ℕ))) → is_some (option_map (λ s. read_as how s.now) o) ≡ is_some (option_map (λ s. s.now) o)
heads_alike how None = refl
heads_alike how (Some s) = refl

pub values_alike : (o : Option MatchedArg) → is_some (option_and_then (λ a. option_map (λ s. read_as a.reading s.now) (slice_get a.vals.items 0)) o)
    ≡ is_some (option_and_then (λ a. option_map (λ s. s.now) (slice_get a.vals.items 0)) o)
values_alike None = refl
values_alike (Some x) = heads_alike x.reading (slice_get x.vals.items 0)

-- a number's text reads as it
pub number_read : {E : Type 0} (G : List ℕ → Result ℕ E → Type 0) → ((u : List ℕ) (x : Result ℕ E) → G u x → ParsesUnsigned 64 10 u x)
    → (o : Option Text) (r : Option ℕ) → IfSome o IsNumber → (o ≡ None → r ≡ None) → ((t : Text) → o ≡ Some t → ReadsOne G t r) → option_map number_of o ≡ r
number_read G only None r fits none some = sym (none refl)
number_read G only (Some t) (Some n) fits none some = ap Some (sym (only t (Ok n) (some t refl)).1)
number_read G only (Some t) None fits none some =
    let err = some t refl in
    absurd (only t (Err err.0) err.1 fits)

-- the flag is up where its text is "true"
pub flag_read : {E : Type 0} (G : List ℕ → Result Bool E → Type 0) → ((u : List ℕ) (x : Result Bool E) → G u x → ParsesBool u x)
    → (o : Option Text) (r : Option Bool) → (o ≡ None → r ≡ None) → ((t : Text) → o ≡ Some t → ReadsOne G t r)
    → IsTrue (unwrap_or r false) ↔ (o ≡ Some (codes "true"))
flag_read G only None r none some =
    let no : r ≡ None = none refl in
    (λ up. absurd (true≢false (sym up ∙ ap (λ x. unwrap_or x false) no)), λ e. cc)
flag_read G only (Some t) (Some true) none some = (λ up. ap Some (only t (Ok true) (some t refl)), λ e. refl)
flag_read G only (Some t) (Some false) none some =
    let text : t ≡ codes "false" = only t (Ok false) (some t refl) in (
      λ up. absurd (true≢false (sym up)),
      λ e.
          let same : codes "false" ≡ codes "true" = sym text ∙ ap (λ x. unwrap_or x t) e in
          let bad : 102 ≡ 116 = ap (λ (x : List ℕ). slice_index_or x 0 0) same in
          absurd (omega arith),
    )
flag_read G only (Some t) None none some =
    let err = some t refl in
    let not_it = (only t (Err err.0) err.1).0 in
    (λ up. absurd (true≢false (sym up)), λ e. absurd (not_it (ap (λ x. unwrap_or x t) e)))

-- ---- why there is no line

abbrev is_memory : ErrorKind → Bool
is_memory kind.OutOfMemory = true
is_memory _ = false

at_kind : (k : ErrorKind) (app : App) (words : List Text) → (is_memory k ≡ false → (takes app words ≡ false) × IsAmong k (fault_of app words)) → IsErrorOf app words k
at_kind kind.OutOfMemory app words h = inl refl
at_kind _ app words h = inr (h refl)

not_taken : (b : Bool) (error : Error) → (b ≡ true → kind_of error ≡ kind.OutOfMemory) → is_memory (kind_of error) ≡ false → b ≡ false
not_taken true error h other = absurd (true≢false (sym (ap is_memory (h refl)) ∙ other))
not_taken false error h other = refl

among : (kinds : List ErrorKind) (error : Error) → HasKind kinds error → is_memory (kind_of error) ≡ false → IsAmong (kind_of error) kinds
among kinds error (inl h) other = absurd (true≢false (sym (ap is_memory h) ∙ other))
among kinds error (inr h) other = h

-- an error of the parser by a command
pub error_by : (c : Command) (app : App) (words : List Text) (error : Error) → app_of c ≡ app → (takes (app_of c) words ≡ true → kind_of error ≡ kind.OutOfMemory)
    → (is_simple_and_free (app_of c) ≡ true → HasKind (fault_of (app_of c) words) error) → is_simple_and_free app ≡ true → IsErrorOf app words (kind_of error)
error_by c app words error is passes kinds free =
    let kinds_are : HasKind (fault_of app words) error = subst (λ a. HasKind (fault_of a words) error) is (kinds (ap is_simple_and_free is ∙ free)) in
    at_kind (kind_of error) app words (λ other. (
      not_taken (takes app words) error (λ e. passes (ap (λ a. takes a words) is ∙ e)) other,
      among (fault_of app words) error kinds_are other,
    ))

-- ---- a program that is read by a table

module _ (c : Command) (app : App) (is : app_of c ≡ app) (words : List Text) where
  pub matches_by : (m : ArgMatches) → HasMatchesOf (app_of c) words m → HasMatchesOf app words m
  matches_by m = subst (λ a. HasMatchesOf a words m) is

  pub taken_by : (is_simple_and_free (app_of c) ≡ true → fault_of (app_of c) words ≡ []) → is_simple_and_free app ≡ true → fault_of app words ≡ []
  taken_by fault free = ap (λ a. fault_of a words) (sym is) ∙ fault (ap is_simple_and_free is ∙ free)

  pub unparsed_by : (error : Error) (refusal : Refusal) → (takes (app_of c) words ≡ true → kind_of error ≡ kind.OutOfMemory)
      → (is_simple_and_free (app_of c) ≡ true → HasKind (fault_of (app_of c) words) error) → IsToldAs refusal.refused_as (kind_of error)
      → is_simple_and_free app ≡ true → IsUnparsed app words (Refused refusal)
  unparsed_by error refusal passes kinds told free = (kind_of error, error_by c app words error is passes kinds free, told)

-- the command of a program with this name and these rules
pub app_is : (program : Program) (rows : List OptionRow) (name : Text) (rules : List Rule) → program.name.now ≡ name → map rule_by rows ≡ rules
    → app_by program rows ≡ with_rules (program_app name) rules
app_is program rows name rules name_is rules_are =
    ap (λ n. with_rules (program_app n) (map rule_by rows)) name_is ∙ ap (with_rules (program_app name)) rules_are

-- a faulty line is told as an error for what doesn't go together
pub told_faulty : (what : RefusedAs) → what ≡ Faulty → IsToldAs what kind.ArgumentConflict
told_faulty what is = subst (λ (w : RefusedAs). IsToldAs w kind.ArgumentConflict) (sym is) ((λ e. cc), (λ e. cc), (λ e. cc))
