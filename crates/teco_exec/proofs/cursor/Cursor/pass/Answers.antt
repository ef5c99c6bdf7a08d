use Rattle.std.proofs.Common.{ap, refl, sym, ◌∙◌, drop}
use Rattle.teco_scan.specs.Seen.{found_in}
use Rattle.teco_exec.specs.CursorMoves.{pass_scanned}
use Rattle.teco_exec.specs.View.{cursor}
use Rattle.teco_exec.proofs.Frames.{no_block, some_block}
use Rattle.teco_exec.proofs.Refused.{fault_is_finished}
use Rattle.teco_exec.proofs.cursor.Cursor.pass.Goals as goal

pub returns-then-len-eq0-clause-comes : goal.returns-then-len-eq0-clause-comes
returns-then-len-eq0-clause-comes c =
    let s = c.args.self.now in
    no_block s.text.bytes.now s.blocks (sym c.len.ensures.value ∙ c.if-len-eq0.true)
    ∙ ap (λ x. pass_scanned s.text.profile x (cursor s)) (sym (ap (found_in s.text.bytes.now) c.in-End.is) ∙ c.requires.read)

pub returns-else-len-eq0-clause-comes : goal.returns-else-len-eq0-clause-comes
returns-else-len-eq0-clause-comes c =
    let s = c.args.self.now in
    some_block s.text.bytes.now s.blocks (λ e. c.if-len-eq0.false (c.len.ensures.value ∙ e))
    ∙ ap (λ x. pass_scanned s.text.profile x (cursor s)) (sym (ap (found_in s.text.bytes.now) c.in-End.is) ∙ c.requires.read)

pub returns-in-Fault-clause-told : goal.returns-in-Fault-clause-told
returns-in-Fault-clause-told c =
    let s = c.args.self.now in
    (fault_is_finished c.in-Fault.code ((c.block_laws.ensures s.text.profile).scan_faults (drop s.at s.text.bytes.now) c.in-Fault.code (sym c.requires.read ∙ ap (found_in s.text.bytes.now) c.in-Fault.is)), refl)

pub returns-in-Test-clause-told : goal.returns-in-Test-clause-told
returns-in-Test-clause-told c = c.pass_opening.ensures.told c.args.found.now

pub returns-in-Mark-clause-told : goal.returns-in-Mark-clause-told
returns-in-Mark-clause-told c = c.pass_mark.ensures.told c.args.found.now
