use Rattle.std.proofs.Common.{◌≡◌, drop, sym, ◌∙◌, arith}
use Rattle.std.proofs.lemmas.Grind.{common_steps}
use Rattle.teco_scan.specs.Scan.{after_run}
use Rattle.teco_scan.proofs.Places.{run_is, front, no_front}
use Rattle.teco_scan.proofs.leads.digits_end.Goals as goal

pub returns-else-is_ascii_digit-clause-run : goal.returns-else-is_ascii_digit-clause-run
unfolding after_run
returns-else-is_ascii_digit-clause-run c =
    let stop : after_run (drop c.loop-to.to c.args.text.now) ≡ drop c.loop-to.to c.args.text.now = grind (arith, front, common_steps) in
    run_is c.args.text.now c.args.at c.loop-to.to (omega arith) (omega arith) (sym stop ∙ c.loop-to.invariant.rest)

pub returns-after-loop-to-clause-run : goal.returns-after-loop-to-clause-run
unfolding after_run
returns-after-loop-to-clause-run c =
    let stop : after_run (drop c.loop-to.to c.args.text.now) ≡ drop c.loop-to.to c.args.text.now = grind (arith, no_front, common_steps) in
    run_is c.args.text.now c.args.at c.loop-to.to (omega arith) (omega arith) (sym stop ∙ c.loop-to.invariant.rest)

pub loop-to-preserved : goal.loop-to-preserved
unfolding after_run
loop-to-preserved c = grind (arith, front)

pub returns-else-is_ascii_digit-clause-read : goal.returns-else-is_ascii_digit-clause-read
unfolding after_run
returns-else-is_ascii_digit-clause-read c = grind (arith, front)

pub returns-after-loop-to-clause-read : goal.returns-after-loop-to-clause-read
unfolding after_run
returns-after-loop-to-clause-read c = grind (arith, no_front)
