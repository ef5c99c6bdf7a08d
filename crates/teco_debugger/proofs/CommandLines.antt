-- What a parse by the program's command gives.
use Rattle.std.proofs.Common.{◌≡◌, ◌∙◌, ℕ, true, refl, sym, ap, subst, min, inl, inr, codes, List, [], Option, Some, None, Result, Ok, Err}
use Rattle.std.specs.Prelude.{unwrap_or, IfErr, IfOk, OnOk}
use Rattle.std.specs.Str.Parse.{ParsesUnsigned}
use Rattle.teco_core.specs.declared.profile.Profile.{Profile}
use Rattle.clap.specs.Words.{App, HasMatchesOf, ReadsOne, Row, Text, fault_of, found_of, one_of, is_simple, is_simple_and_free, matches_of, rows_of}
use Rattle.clap.specs.declared.parser.matches.ArgMatches.{ArgMatches}
use Rattle.teco_cli.specs.Parsing.{IsUnparsed}
use Rattle.teco_cli.specs.Values.{IsProfile}
use Rattle.teco_cli.specs.declared.fault.LineFault.{LineFault}
use Rattle.teco_cli.specs.declared.fault.LineFault.TheVariants.{NoMemory, Refused}
use Rattle.teco_debugger.specs.CommandLine.{HasTexts, IsLimit, IsMisgiven, IsNumberIn, LacksLine, LineHas, WordsSay, WordsSayNone, debug_app, fault_in, origin_of}
use Rattle.teco_debugger.specs.declared.line.DebuggerLine.{DebuggerLine}
use Rattle.teco_debugger.specs.declared.arguments.Texts.{Texts}

-- the command is one whose matches the parser's contract says, and no argument has a rule on another
debug_is_simple : is_simple debug_app ≡ true
debug_is_simple = refl

debug_is_free : is_simple_and_free debug_app ≡ true
debug_is_free = refl

-- the limit is what its text says
pub limit_read : {E : Type 0} (G : List ℕ → Result ℕ E → Type 0) → ((u : List ℕ) (x : Result ℕ E) → G u x → ParsesUnsigned 64 10 u x)
    → (o : Option Text) (r : Option ℕ) → (o ≡ None → r ≡ None) → ((t : Text) → o ≡ Some t → ReadsOne G t r) → IsLimit o (min (unwrap_or r 1000000) 1000000000000)
limit_read G only None r none some = ap (λ x. min (unwrap_or x 1000000) 1000000000000) (none refl)
limit_read G only (Some t) (Some n) none some = λ number. ap (λ k. min k 1000000000000) (only t (Ok n) (some t refl)).1
limit_read G only (Some t) None none some = λ number.
    let err = some t refl in
    absurd (only t (Err err.0) err.1 number)

-- the number is what its text says
pub number_read : {E : Type 0} (G : List ℕ → Result ℕ E → Type 0) → ((u : List ℕ) (x : Result ℕ E) → G u x → ParsesUnsigned 64 10 u x)
    → (o : Option Text) (r : Option ℕ) → (o ≡ None → r ≡ None) → ((t : Text) → o ≡ Some t → ReadsOne G t r) → IsNumberIn o r
number_read G only None r none some = none refl
number_read G only (Some t) (Some n) none some = λ number. ap Some (only t (Ok n) (some t refl)).1
number_read G only (Some t) None none some = λ number.
    let err = some t refl in
    absurd (only t (Err err.0) err.1 number)

-- ---- why there is no line

no_line : (words : List Text) (fault : LineFault) → IsUnparsed debug_app words fault → WordsSayNone words fault
no_line words NoMemory h = tt
no_line words (Refused refusal) h = inl h

-- ---- what the texts of a parse give

pub has_line : (rows : List Row) (r : Result DebuggerLine LineFault) (p : Profile) (t : Texts) (number : Option ℕ) (limit : ℕ) → IsProfile rows p
    → HasTexts rows t → IsNumberIn (one_of (codes "string") rows) number → IsLimit (one_of (codes "limit") rows) limit
    → IfOk r (λ line. line.limit ≡ limit) → IfOk r (λ line. line.profile ≡ p) → OnOk r (fault_in p t number ≡ None)
    → IfOk r (λ line. line.origin ≡ origin_of t.session t.bytes t.files t.word number) → IfOk r (λ line. line.input ≡ t.input) → IfOk r (LineHas rows)
has_line rows (Err fault) p t number limit is_profile texts is_number is l q fits o i = tt
has_line rows (Ok line) p t number limit is_profile texts is_number is l q fits o i = record {
  texts = t;
  texts_are = texts;
  number = number;
  number_is = is_number;
  profile = subst (IsProfile rows) (sym q) is_profile;
  fits = subst (λ p. fault_in p t number ≡ None) (sym q) fits;
  limit = subst (IsLimit (one_of (codes "limit") rows)) (sym l) is;
  origin = o;
  input = i;
}

pub read_fault : (rows : List Row) (r : Result DebuggerLine LineFault) (p : Profile) (t : Texts) (number : Option ℕ) → IsProfile rows p → HasTexts rows t
    → IsNumberIn (one_of (codes "string") rows) number → IfErr r (IsMisgiven p t number) → IfErr r (LacksLine rows)
read_fault rows (Ok line) p t number is_profile texts is_number h = tt
read_fault rows (Err NoMemory) p t number is_profile texts is_number h = tt
read_fault rows (Err (Refused refusal)) p t number is_profile texts is_number h = (p, is_profile, t, texts, number, is_number, h)

module _ (app : App) (is : app ≡ debug_app) where
  -- the words are not read
  pub unparsed_is : (words : List Text) (fault : LineFault) → (is_simple_and_free app ≡ true → IsUnparsed app words fault) → WordsSayNone words fault
  unparsed_is words fault h = no_line words fault (subst (λ a. IsUnparsed a words fault) is (h (ap is_simple_and_free is ∙ debug_is_free)))

  -- ---- the line

  module _ (m : ArgMatches) (words : List Text) (matches : HasMatchesOf app words m) (fault : is_simple_and_free app ≡ true → fault_of app words ≡ []) where
    rows_are : rows_of (found_of m) ≡ matches_of debug_app words
    rows_are = (matches (ap is_simple is ∙ debug_is_simple)).0 ∙ ap (λ a. matches_of a words) is

    -- the parser takes the words
    words_taken : fault_of debug_app words ≡ []
    words_taken = ap (λ a. fault_of a words) (sym is) ∙ fault (ap is_simple_and_free is ∙ debug_is_free)

    pub line_is : (r : Result DebuggerLine LineFault) → IfOk r (LineHas (rows_of (found_of m))) → IfOk r (WordsSay words)
    line_is (Ok line) has = record { taken = words_taken; given = rw (← rows_are) has }
    line_is (Err fault) has = tt

    -- they give no line
    pub refused_is : (r : Result DebuggerLine LineFault) → IfErr r (LacksLine (rows_of (found_of m))) → IfErr r (WordsSayNone words)
    refused_is (Ok line) h = tt
    refused_is (Err NoMemory) h = tt
    refused_is (Err (Refused refusal)) h = inr (words_taken, rw (← rows_are) h)
