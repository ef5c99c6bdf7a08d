use Rattle.std.proofs.Common.{◌≡◌, ◌∙◌, codes, map, rules, subst, arith}
use Rattle.std.proofs.lemmas.Grind.{common_steps}
use Rattle.std.specs.Prelude.{IfErr}
use Rattle.std.specs.String.{string_bytes}
use Rattle.std.proofs.lemmas.Result.{IfErr-weaker}
use Rattle.teco_cli.specs.CommandLine.{IsFaultOnceMade, as_read, teco_rules}
use Rattle.teco_cli.proofs.Parses.{app_is}
use Rattle.teco_cli.proofs.CommandLines.{fault_at_all}
use Rattle.teco_cli.proofs.line.line_of.Goals as goal

pub returns-clause-refused : goal.returns-clause-refused
returns-clause-refused c =
    let words = map (λ x. string_bytes x) c.args.words.items in
    let same : map (λ x. string_bytes x) c.as_slice.result.now ≡ as_read words = search rules in
    IfErr-weaker c.line_by.result _ _ (fault_at_all words) (subst (λ ws. IfErr c.line_by.result (IsFaultOnceMade ws)) same c.line_by.ensures.refused)

-- the program's name and its rows are those of its command
pub line_by-requires : goal.line_by-requires
line_by-requires c = record { command = c.in_ok-command.ensures ∙ app_is c.program.result.now c.options.result.now (codes "teco") teco_rules c.program.ensures c.options.ensures }

pub returns-clause-line : goal.returns-clause-line
returns-clause-line c = grind (arith, common_steps)
