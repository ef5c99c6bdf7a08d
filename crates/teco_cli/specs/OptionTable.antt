-- The rules that the parser has for the rows of a table of options.
use Rattle.std.specs.Prelude.{ℕ, List, [], ◌∷◌, true, Option, Some}
use Rattle.clap.specs.Words.{App, Rule, new_rule, with_rule}
use Rattle.clap.specs.declared.builder.action.ArgAction.{ArgAction}
use Rattle.clap.specs.declared.builder.action.ArgAction.TheVariants.{Append, Set, SetTrue}
use Rattle.clap.specs.declared.builder.value_parser.ValueParser.TheVariants as parser
use Rattle.teco_cli.specs.declared.options.OptionRow.{OptionRow}
use Rattle.teco_cli.specs.declared.options.Takes.{Takes}
use Rattle.teco_cli.specs.declared.options.Takes.TheVariants.{Nothing, Text, Texts, Number, Operand, MaybeOperand, Operands}

-- an option by its names: --name, and -x where it has a letter
abbrev pub option : List ℕ → Option ℕ → Rule
option name short = record (new_rule name) { long = Some name; short = short }

-- a flag
abbrev pub flag : List ℕ → Option ℕ → Rule
flag name short = record (option name short) { action = Some SetTrue }

-- an option with a text
abbrev pub with_text : List ℕ → Option ℕ → Rule
with_text name short = record (option name short) { action = Some Set; value_names = 1 }

-- an option with a text, which may be given more than once
abbrev pub with_texts : List ℕ → Option ℕ → Rule
with_texts name short = record (option name short) { action = Some Append; value_names = 1 }

-- an option with a number in a range
abbrev pub with_number : List ℕ → Option ℕ → ℕ → ℕ → Rule
with_number name short least most = record (with_text name short) { parser = Some (parser.Unsigned least most) }

-- what the parser does where an option is given that takes this: it sets a flag, keeps each text, or keeps the last one
abbrev pub action_of : Takes → ArgAction
action_of Nothing = SetTrue
action_of Text = Set
action_of Texts = Append
action_of (Number least most) = Set
action_of Operand = Set
action_of MaybeOperand = Set
action_of Operands = Append

-- an option by its names, and what the parser does where it is given
abbrev pub option_taking : Takes → List ℕ → Option ℕ → Rule
option_taking takes name short = record (option name short) { action = Some (action_of takes) }

-- one with a number in a range
abbrev pub option_in_range : Takes → List ℕ → Option ℕ → ℕ → ℕ → Rule
option_in_range takes name short least most = record (option_taking takes name short) { value_names = 1; parser = Some (parser.Unsigned least most) }

-- a word by itself
abbrev pub operand : Takes → List ℕ → Rule
operand takes name = record (new_rule name) { value_names = 1; action = Some (action_of takes) }

-- the rule of a row
abbrev pub rule_taking : Takes → List ℕ → Option ℕ → Rule
rule_taking Nothing name short = flag name short
rule_taking Text name short = with_text name short
rule_taking Texts name short = with_texts name short
rule_taking (Number least most) name short = with_number name short least most
rule_taking Operand name short = record (operand Operand name) { required = true }
rule_taking MaybeOperand name short = operand MaybeOperand name
rule_taking Operands name short = operand Operands name

abbrev pub rule_by : OptionRow → Rule
rule_by row = rule_taking row.takes row.name.now row.short

-- the command with one argument after another
abbrev pub with_rules : App → List Rule → App
with_rules app [] = app
with_rules app (rule ∷ rules) = with_rules (with_rule app rule) rules
