use Rattle.std.proofs.Common.{◌∙◌, ◌+◌, None, ap, drop, subst, sym}
use Rattle.teco_journal.specs.Events.{events_of}
use Rattle.teco_recorder.specs.Opening.{last_output}
use Rattle.teco_session.specs.Kept.{history_of}
use Rattle.teco_recorder.proofs.LastOutputs.{IsLastSoFar, after_exit, after_other, is_last_of_all, is_led_to, leads_on}
use Rattle.teco_recorder.proofs.outputs.is_last_again.Goals as goal
use Rattle.teco_recorder.proofs.outputs.is_last_again.Goals.{then-is_exit, else-is_exit}

pub loop-told-preserved : goal.loop-told-preserved
loop-told-preserved c =
    let h = history_of c.loop-told.session in
    let k = history_of c.replay.new.session in
    let was = c.done-was_done.ensures ∙ ap (λ s. s.is_done) c.editor.ensures.present in
    let is = c.done.ensures ∙ ap (λ s. s.is_done) c.editor-in-loop-told.ensures.present in (
      elim c.if-is_exit.branch [
        | then-is_exit w ↦
            after_exit h k c.args.records.now _ c.loop-told.told-index c.told-item.result _ _ _ c.loop-told.is_last c.if-is_exit.is_last
            c.args.bytes.now _ c.loop-told-test.true c.told-item.is c.from_ref.ensures.value c.in_default.ensures.told c.is_exit.ensures was is
            w.if-is_exit.true
            (λ holds. sym (ap (λ s. s.output) w.editor-then-is_exit.ensures.present) ∙ sym w.output.ensures.joined
            ∙ w.are-is_last.ensures (sym w.is_last-is ∙ holds))
            c.loop-told.invariant.0
        | else-is_exit w ↦
            subst (λ b. IsLastSoFar k (drop (c.loop-told.told-index + 1) c.args.records.now) b c.args.bytes.now
            (last_output (history_of c.args.session.now) (events_of c.args.records.now) None)) (sym w.is_last-is)
            (after_other h k c.args.records.now _ c.loop-told.told-index c.told-item.result _ _ _ c.loop-told.is_last c.args.bytes.now _
            c.loop-told-test.true c.told-item.is c.from_ref.ensures.value c.in_default.ensures.told c.is_exit.ensures was is
            w.if-is_exit.false c.loop-told.invariant.0)
      ],
      leads_on h k c.args.records.now _ c.loop-told.told-index c.told-item.result _ c.loop-told-test.true c.told-item.is c.from_ref.ensures.value
          c.in_default.ensures.told c.loop-told.invariant.1,
    )

pub returns-clause-last : goal.returns-clause-last
returns-clause-last c = is_last_of_all _ c.args.records.now c.loop-told.told-index c.loop-told.is_last c.args.bytes.now _ c.loop-told-test.false c.loop-told.invariant.0

pub returns-clause-told : goal.returns-clause-told
returns-clause-told c = is_led_to _ c.args.records.now c.loop-told.told-index _ c.loop-told-test.false c.loop-told.invariant.1
