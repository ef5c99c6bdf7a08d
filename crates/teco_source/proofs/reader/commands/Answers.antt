use Rattle.std.proofs.Common.{◌≡◌, ℕ, ◌+◌, true, false, List, length, drop, get_or, Err, Result, sym, ap, subst, ◌∙◌, arith}
use Rattle.teco_source.specs.Source.{State, step, is_wrong, ended, commands_of, commands_from}
use Rattle.teco_source.specs.Seen.{state_of, IsReadAs}
use Rattle.teco_source.proofs.Reading.{one_read, one_wrong, all_read}
use Rattle.teco_source.proofs.reader.commands.Goals as goal

pub returns-then-is_wrong : goal.returns-then-is_wrong
returns-then-is_wrong c =
    let w : is_wrong (step (state_of c.loop-at.reader) (get_or c.args.source.now c.loop-at.at 0)).mode ≡ true
    = ap (λ (s : State). is_wrong s.mode) (sym c.in_ok-step.ensures) ∙ sym c.is_wrong.ensures ∙ c.if-is_wrong.true in
    record { reads = c.loop-at.invariant ∙ one_wrong (state_of c.loop-at.reader) c.loop-at.at c.args.source.now (omega arith) w ∙ ap Err (sym c.saturating_sub.ensures) }

pub loop-at-preserved : goal.loop-at-preserved
loop-at-preserved c =
    let w : is_wrong (step (state_of c.loop-at.reader) (get_or c.args.source.now c.loop-at.at 0)).mode ≡ false
    = ap (λ (s : State). is_wrong s.mode) (sym c.in_ok-step.ensures) ∙ sym c.is_wrong.ensures ∙ c.if-is_wrong.false in
    c.loop-at.invariant ∙ one_read (state_of c.loop-at.reader) c.loop-at.at c.args.source.now (omega arith) w
    ∙ ap (λ (s : State). commands_from s (c.loop-at.at + 1) (drop (c.loop-at.at + 1) c.args.source.now)) (sym c.in_ok-step.ensures)

pub returns : goal.returns
returns c =
    let at_end : c.loop-at.at ≡ length c.args.source.now = omega arith in
    let e : commands_of c.args.source.now ≡ ended (state_of c.loop-at.reader) (length c.args.source.now)
    = c.loop-at.invariant ∙ all_read (state_of c.loop-at.reader) c.loop-at.at c.args.source.now (omega arith) ∙ ap (ended (state_of c.loop-at.reader)) at_end in
    record { reads = subst (λ (r : Result (List ℕ) ℕ). IsReadAs r c.finish.result) (sym e) c.finish.ensures }
