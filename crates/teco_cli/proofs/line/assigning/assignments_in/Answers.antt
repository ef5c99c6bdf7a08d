use Rattle.std.proofs.Common.{◌∙◌, sym, ap, subst, [], unwrap_or}
use Rattle.std.specs.List.{AllZip}
use Rattle.std.proofs.lemmas.Result.{IfErr-weaker, IfOk-weaker}
use Rattle.clap.proofs.WalkLemmas.{raw_values-rows}
use Rattle.clap.specs.Words.{found_of, rows_of}
use Rattle.teco_cli.specs.Assignments.{IsAssignment}
use Rattle.teco_cli.proofs.CommandLines.{words_fault_is}
use Rattle.teco_cli.proofs.line.assigning.assignments_in.Goals as goal

pub returns-clause-assignments : goal.returns-clause-assignments
returns-clause-assignments c =
    let words = ap (λ o. unwrap_or o []) (c.get_strs.ensures ∙ raw_values-rows (found_of c.args.matches.now) _) in
    IfOk-weaker c.assignments_given.result _ _ (λ made. subst (λ ws. AllZip IsAssignment ws made.items) words) c.assignments_given.ensures.assignments

pub returns-clause-fault : goal.returns-clause-fault
returns-clause-fault c =
    let words = ap (λ o. unwrap_or o []) (sym (c.get_strs.ensures ∙ raw_values-rows (found_of c.args.matches.now) _)) in
    IfErr-weaker c.assignments_given.result _ _ (λ fault. words_fault_is (rows_of (found_of c.args.matches.now)) _ fault words) c.assignments_given.ensures.fault
