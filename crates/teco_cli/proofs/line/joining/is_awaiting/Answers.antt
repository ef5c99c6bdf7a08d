use Rattle.std.proofs.Common.{◌∙◌, [], ◌∷◌, ap, refl}
use Rattle.std.specs.List.{list_any}
use Rattle.clap.proofs.WalkLemmas.{list_any-map}
use Rattle.teco_cli.specs.CommandLine.{input_rule, more_rule}
use Rattle.teco_cli.specs.Joining.{wants_value}
use Rattle.teco_cli.specs.Options.{option_rules}
use Rattle.teco_cli.specs.OptionTable.{rule_by}
use Rattle.teco_cli.proofs.Joinings.{any_front}
use Rattle.teco_cli.proofs.line.joining.is_awaiting.Goals as goal

-- the rows are the rules, and no operand takes a value
pub returns : goal.returns
returns c =
    c.one_is_option.ensures ∙ (list_any-map (wants_value c.args.word.now) rule_by c.options.result.now
    ∙ (ap (list_any (wants_value c.args.word.now)) c.options.ensures ∙ any_front (wants_value c.args.word.now) option_rules (input_rule ∷ more_rule ∷ []) refl))
