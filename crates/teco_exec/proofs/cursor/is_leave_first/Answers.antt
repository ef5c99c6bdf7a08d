use Rattle.std.proofs.Common.{◌∙◌, ap, arith, sym}
use Rattle.teco_exec.specs.Semicolon.{is_semicolon}
use Rattle.teco_exec.proofs.Semicolons.{all_fillers, no_filler, passed_filler}
use Rattle.teco_exec.proofs.cursor.is_leave_first.Goals as goal

pub returns-then-not-is_filler : goal.returns-then-not-is_filler
returns-then-not-is_filler c =
    let i = c.loop-byte.byte-index in
    sym (no_filler c.args.text.now i 0 (omega (arith, c.loop-byte-test.true)) (sym c.is_filler.ensures ∙ c.if-not-is_filler.true)) ∙ ap is_semicolon c.loop-byte.invariant

pub loop-byte-preserved : goal.loop-byte-preserved
loop-byte-preserved c =
    let i = c.loop-byte.byte-index in
    sym (passed_filler c.args.text.now i 0 (omega (arith, c.loop-byte-test.true)) (sym c.is_filler.ensures ∙ c.if-not-is_filler.false)) ∙ c.loop-byte.invariant

pub returns : goal.returns
returns c = sym (ap is_semicolon (all_fillers c.args.text.now c.loop-byte.byte-index (omega (arith, c.loop-byte-test.false)))) ∙ ap is_semicolon c.loop-byte.invariant
