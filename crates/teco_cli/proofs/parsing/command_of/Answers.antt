use Rattle.std.proofs.Common.{map, ap, ◌∙◌}
use Rattle.std.proofs.lemmas.Result.{IfOk-weaker}
use Rattle.teco_cli.specs.OptionTable.{rule_by, with_rules}
use Rattle.teco_cli.proofs.parsing.command_of.Goals as goal

pub returns : goal.returns
returns c = IfOk-weaker c.with_table.result _ _ (λ made e. e ∙ ap (λ app. with_rules app (map rule_by c.args.rows.now)) c.described.ensures) c.with_table.ensures
