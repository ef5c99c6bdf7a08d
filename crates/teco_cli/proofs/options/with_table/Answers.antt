use Rattle.std.proofs.Common.{◌≡◌, ◌∙◌, ◌+◌, ◌<◌, ℕ, List, length, refl, ap, drop, map, get_or, add-one, drop-cons, arith}
use Rattle.std.proofs.lemmas.Grind.{common_steps}
use Rattle.clap.specs.Words.{App, app_of, with_rule}
use Rattle.teco_cli.specs.OptionTable.{rule_by, with_rules}
use Rattle.teco_cli.specs.declared.options.OptionRow.{OptionRow}
use Rattle.teco_cli.proofs.options.with_table.Goals as goal

one_row_more : (app : App) (rows : List OptionRow) (i : ℕ) (d : OptionRow) → i < length rows
    → with_rules (with_rule app (rule_by (get_or rows i d))) (map rule_by (drop (i + 1) rows)) ≡ with_rules app (map rule_by (drop i rows))
one_row_more app rows i d within = rw (add-one, drop-cons rows i d) refl

pub loop-row-preserved : goal.loop-row-preserved
loop-row-preserved c =
    let added = c.in_ok-command.ensures.shape c.arg_by.ensures.local ∙ ap (with_rule (app_of c.loop-row.command)) c.arg_by.ensures.rule in
    ap (λ app. with_rules app (map rule_by (drop (c.loop-row.row-index + 1) c.args.rows.now))) added
    ∙ (one_row_more (app_of c.loop-row.command) c.args.rows.now c.loop-row.row-index _ c.loop-row-test.true ∙ c.loop-row.invariant)

pub returns : goal.returns
returns c = grind (arith, common_steps)
