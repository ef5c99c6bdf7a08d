use Rattle.std.proofs.lemmas.Grind.{common_steps}
use Rattle.std.proofs.Common.{◌∙◌, ◌++◌, [], ℕ, List, codes, arith}
use Rattle.std.specs.Prelude.{◌≢◌}
use Rattle.std.proofs.lemmas.Result.{IfOk-from_err}
use Rattle.teco_fs.specs.Reasons.{with_reason}
use Rattle.teco_serve.specs.Ending.{backup_of, commands_name, output_of, said}
use Rattle.teco_fs.proofs.Writings.{on_err_by}
use Rattle.teco_serve.proofs.fate.text.Goals as goal

-- a line that is told has bytes
said_some : (words : List ℕ) → said words ≢ []
said_some words e = cc

pub returns-in-NotRegular : goal.returns-in-NotRegular
returns-in-NotRegular c = record { ok = rw c.in-NotRegular.is c.said_of.ensures; err = rw c.in-NotRegular.is (on_err_by c.said_of.result (said_some _)) }

pub returns-in-LargeInput : goal.returns-in-LargeInput
returns-in-LargeInput c = record { ok = rw c.in-LargeInput.is c.said_of-in-LargeInput.ensures; err = rw c.in-LargeInput.is (on_err_by c.said_of-in-LargeInput.result (said_some _)) }

pub returns-in-Changed : goal.returns-in-Changed
returns-in-Changed c = record { ok = rw c.in-Changed.is c.said_of-in-Changed.ensures; err = rw c.in-Changed.is (on_err_by c.said_of-in-Changed.result (said_some _)) }

pub returns-in-Ended-ReadFault : goal.returns-in-Ended-ReadFault
returns-in-Ended-ReadFault c =
    let fault = rw c.in-Ended-ReadFault.is at c.in-Ended-ReadFault.field-0-is in
    record { ok = rw (c.in-Ended-ReadFault.is, fault) c.said_about.ensures; err = rw (c.in-Ended-ReadFault.is, fault) (on_err_by c.said_about.result (said_some _)) }

pub returns-in-Ended-ShowFault : goal.returns-in-Ended-ShowFault
returns-in-Ended-ShowFault c =
    let fault = rw c.in-Ended-ShowFault.is at c.in-Ended-ShowFault.field-0-is in
    record { ok = rw (c.in-Ended-ShowFault.is, fault) c.said_about-in-Ended-ShowFault.ensures; err = rw (c.in-Ended-ShowFault.is, fault) (on_err_by c.said_about-in-Ended-ShowFault.result (said_some _)) }

pub returns-in_err-name-in-NoOutput : goal.returns-in_err-name-in-NoOutput
returns-in_err-name-in-NoOutput c = record {
  ok = IfOk-from_err c.from_residual.result _ c.from_residual.ensures.0;
  err = rw c.in-NoOutput.is (on_err_by c.from_residual.result (said_some (with_reason (codes "cannot write ") (output_of c.args.line.now c.args.input.now) c.in-NoOutput.reason)));
}

pub returns-in-NoCommands : goal.returns-in-NoCommands
returns-in-NoCommands c = record {
  ok = rw (c.in-NoCommands.is, ← c.commands_name.ensures) c.said_why.ensures;
  err = rw c.in-NoCommands.is (on_err_by c.said_why.result (said_some (with_reason (codes "cannot read ") (commands_name c.args.line.now) c.in-NoCommands.reason)));
}

pub returns-in-NoInput : goal.returns-in-NoInput
returns-in-NoInput c = record { ok = rw c.in-NoInput.is c.said_why-in-NoInput.ensures; err = rw c.in-NoInput.is (on_err_by c.said_why-in-NoInput.result (said_some (with_reason (codes "cannot read ") c.args.input.now c.in-NoInput.reason))) }

pub returns-in_ok-name-in-NoOutput : goal.returns-in_ok-name-in-NoOutput
returns-in_ok-name-in-NoOutput c = record {
  ok = rw (c.in-NoOutput.is, ← (c.as_str.ensures.value ∙ c.in_ok-name-in-NoOutput.ensures)) c.said_why-in-NoOutput.ensures;
  err = rw c.in-NoOutput.is (on_err_by c.said_why-in-NoOutput.result (said_some (with_reason (codes "cannot write ") (output_of c.args.line.now c.args.input.now) c.in-NoOutput.reason)));
}

pub returns-in-NoBackup : goal.returns-in-NoBackup
returns-in-NoBackup c = record {
  ok = rw c.in-NoBackup.is c.said_of_backup.ensures;
  err = rw c.in-NoBackup.is (on_err_by c.said_of_backup.result (said_some (c.args.input.now ++ with_reason (codes ": no backup ") (backup_of c.args.line.now c.args.input.now) c.in-NoBackup.reason)));
}

pub returns-in_err-name-in-Lacking : goal.returns-in_err-name-in-Lacking
returns-in_err-name-in-Lacking c = record {
  ok = IfOk-from_err c.from_residual-in_err-name-in-Lacking.result _ c.from_residual-in_err-name-in-Lacking.ensures.0;
  err = rw c.in-Lacking.is (on_err_by c.from_residual-in_err-name-in-Lacking.result (said_some _));
}

pub returns-in_ok-name-in-Lacking : goal.returns-in_ok-name-in-Lacking
returns-in_ok-name-in-Lacking c = record {
  ok = rw (c.in-Lacking.is, ← (c.as_str-in-Lacking.ensures.value ∙ c.in_ok-name-in-Lacking.ensures), ← c.words.ensures) c.said_of-in-Lacking.ensures;
  err = rw c.in-Lacking.is (on_err_by c.said_of-in-Lacking.result (said_some _));
}

pub returns-in-Unchanged : goal.returns-in-Unchanged
returns-in-Unchanged c = record { ok = grind (arith, common_steps); err = grind (arith, common_steps) }

pub returns-in-NoMemory : goal.returns-in-NoMemory
returns-in-NoMemory c = record { ok = grind (arith, common_steps); err = grind (arith, common_steps, said_some) }
