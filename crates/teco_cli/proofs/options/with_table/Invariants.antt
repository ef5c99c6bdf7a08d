use Rattle.std.proofs.Common.{◌≡◌, drop, map}
use Rattle.clap.specs.Words.{app_of}
use Rattle.teco_cli.specs.OptionTable.{rule_by, with_rules}
use Rattle.teco_cli.proofs.options.with_table.Given as goal

-- the rows that are left make of the command what all make of the first one
abbrev pub invariant-loop-row : goal.invariant-loop-row
invariant-loop-row l = with_rules (app_of l.command) (map rule_by (drop l.row-index l.rows)) ≡ with_rules (app_of l.initial.command) (map rule_by l.rows)
