use Rattle.std.proofs.Common.{◌≡◌, ◌∙◌, ◌≤◌, ℕ, sym, ap, subst, Option, Some, None, codes, rules}
use Rattle.std.specs.Prelude.{IfSome, option_map}
use Rattle.std.specs.String.{string_bytes}
use Rattle.clap.proofs.CallerLemmas.{some_of_text}
use Rattle.clap.proofs.WalkLemmas.{first_value-rows}
use Rattle.clap.specs.Words.{IsUnsignedIn, Text, first_of, found_of, rows_of}
use Rattle.teco_cli.specs.Values.{IsNumber, number_of}
use Rattle.teco_cli.proofs.line.line_in.Goals as goal

-- the input is required
pub unwrap-requires : goal.unwrap-requires
unwrap-requires c =
    some_of_text _ c.get_str.result _ (c.get_str.ensures ∙ first_value-rows (found_of c.args.matches.now) (codes "input")) c.requires.given.input

-- searched, so that a flag or a text that comes to a line needs no line here
pub returns-clause-line : goal.returns-clause-line
returns-clause-line c =
    let rows = rows_of (found_of c.args.matches.now) in
    let input : first_of (codes "input") rows ≡ Some (string_bytes c.in_ok-input.input) =
    sym (first_value-rows (found_of c.args.matches.now) (codes "input")) ∙ (sym c.get_str.ensures ∙ ap (option_map (λ s. s.now)) c.unwrap.ensures ∙ ap Some (sym c.in_ok-input.ensures.ok)) in
    search (rules, input)

-- what every parse gives for a number
is_number : (text : Option Text) (low high : ℕ) → IfSome text (IsUnsignedIn low high) → IfSome text IsNumber
is_number None low high h = tt
is_number (Some text) low high h = (h.0, h.1)

within : (text : Option Text) (low high : ℕ) (number : Option ℕ) → option_map number_of text ≡ number → IfSome text (IsUnsignedIn low high)
    → IfSome number (λ n. (low ≤ n) × (n ≤ high))
within text low high number is h = subst (λ o. IfSome o (λ n. (low ≤ n) × (n ≤ high))) is (so text h)
  where
    so : (t : Option Text) → IfSome t (IsUnsignedIn low high) → IfSome (option_map number_of t) (λ n. (low ≤ n) × (n ≤ high))
    so None h = tt
    so (Some t) h = (h.2, h.3)

most : (number : Option ℕ) (low high : ℕ) → IfSome number (λ n. (low ≤ n) × (n ≤ high)) → IfSome number (λ n. n ≤ high)
most None low high h = tt
most (Some number) low high h = h.1

pub number_at-limit-requires : goal.number_at-limit-requires
number_at-limit-requires c = is_number _ _ _ c.requires.given.limit

pub number_at-seconds-requires : goal.number_at-seconds-requires
number_at-seconds-requires c = is_number _ _ _ c.requires.given.seconds

pub number_at-undo-requires : goal.number_at-undo-requires
number_at-undo-requires c = is_number _ _ _ c.requires.given.undo

pub number_at-page_lines-requires : goal.number_at-page_lines-requires
number_at-page_lines-requires c = is_number _ _ _ c.requires.given.page_lines

pub returns-clause-range : goal.returns-clause-range
returns-clause-range c =
    (most _ _ _ (within _ _ _ _ c.number_at-limit.ensures c.requires.given.limit), within _ _ _ _ c.number_at-undo.ensures c.requires.given.undo)

pub returns-clause-page_lines : goal.returns-clause-page_lines
returns-clause-page_lines c = within _ _ _ _ c.number_at-page_lines.ensures c.requires.given.page_lines

pub returns-clause-seconds : goal.returns-clause-seconds
returns-clause-seconds c = within _ _ _ _ c.number_at-seconds.ensures c.requires.given.seconds
