use Rattle.std.proofs.Common.{◌∙◌, sym, ap, [], unwrap_or}
use Rattle.std.proofs.lemmas.Result.{IfErr-weaker, IfOk-weaker}
use Rattle.clap.proofs.WalkLemmas.{first_value-rows, raw_values-rows}
use Rattle.clap.specs.Words.{found_of, rows_of}
use Rattle.teco_cli.specs.CommandLine.{IsCommandsFault}
use Rattle.teco_cli.specs.Options.{IsCommands}
use Rattle.teco_cli.proofs.CommandLines.{by_rows, commands_fault_is}
use Rattle.teco_cli.proofs.line.commands_in.Goals as goal

pub returns-clause-commands : goal.returns-clause-commands
returns-clause-commands c =
    let at = first_value-rows (found_of c.args.matches.now) in
    let files = ap (λ o. unwrap_or o []) (sym (c.get_strs-files.ensures ∙ raw_values-rows (found_of c.args.matches.now) _)) in
    IfOk-weaker c.commands_of.result _ _ (λ commands. by_rows (λ w fs p b. IsCommands w fs p b commands)
    (sym (at _) ∙ sym c.get_str-word.ensures) files (sym (at _) ∙ sym c.get_str-pages.ensures) (sym (at _) ∙ sym c.get_str-bytes.ensures)) c.commands_of.ensures.commands

pub returns-clause-fault : goal.returns-clause-fault
returns-clause-fault c =
    let at = first_value-rows (found_of c.args.matches.now) in
    let files = ap (λ o. unwrap_or o []) (sym (c.get_strs-files.ensures ∙ raw_values-rows (found_of c.args.matches.now) _)) in
    IfErr-weaker c.commands_of.result _ _ (λ fault h. commands_fault_is (rows_of (found_of c.args.matches.now)) fault (by_rows (λ w fs p b. IsCommandsFault w fs p b fault)
    (sym (at _) ∙ sym c.get_str-word.ensures) files (sym (at _) ∙ sym c.get_str-pages.ensures) (sym (at _) ∙ sym c.get_str-bytes.ensures) h)) c.commands_of.ensures.fault
