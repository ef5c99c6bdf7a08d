use Rattle.std.proofs.Common.{Bool, false, cond, ap, sym, ◌∙◌, arith}
use Rattle.teco_lint.specs.Faults.{has_fault}
use Rattle.teco_lint.specs.declared.faults.TheConstants.{MOST_FAULTS}
use Rattle.teco_lint.proofs.FirstFaults.{none_among}
use Rattle.teco_lint.proofs.checking.check_string.Goals as goal

pub returns-in_default-clause-found : goal.returns-in_default-clause-found
returns-in_default-clause-found c =
    let p = c.args.profile in
    let code = c.args.uses.now.called in
    let string = c.args.string.now in
    sym (ap (λ (asks : Bool). cond asks false (has_fault p code string)) (sym c.is_request.ensures ∙ c.if-is_request.false)
    ∙ none_among p MOST_FAULTS code string (omega arith) c.in_default.ensures.first)
