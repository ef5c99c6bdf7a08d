use Rattle.std.proofs.Common.{◌≡◌, ◌∙◌, ◌++◌, ◌&&◌, false, ap, codes, not, sym}
use Rattle.std.specs.Prelude.{is_none}
use Rattle.teco_exec.specs.StringMeaning.{StringMeaning}
use Rattle.teco_store.specs.State.{State, state_of}
use Rattle.teco_session.specs.History.{present}
use Rattle.teco_session.specs.Kept.{history_of}
use Rattle.teco_debugger.specs.Testing.{holds_number, tried}
use Rattle.teco_debugger.specs.Walk.{lacks_memory}
use Rattle.teco_debugger.specs.declared.testing.TheConstants.{TEST_STEPS}
use Rattle.teco_debugger.proofs.WalkEnds.{ended_state, well_ended}
use Rattle.teco_debugger.proofs.testing.gives_number.Goals as goal

pub returns : goal.returns
returns c =
    let old = history_of c.args.session.now in
    let m : StringMeaning = tried (present old) c.args.test.now in
    let string : c.as_slice.result.now ≡ c.args.test.now ++ codes "UZ" = c.as_slice.ensures.value ∙ c.in_ok-string.ensures in
    let has : lacks_memory c.in-Ended.outcome.code ≡ false = sym c.lacks_memory.ensures ∙ c.if-lacks_memory.false in
    let code = (well_ended TEST_STEPS old _ _ c.as_slice.result.now c.run.result c.in-Ended.outcome _ string c.in-Ended.is c.run.ensures.step.1 has).code in
    let state : state_of c.editor.result.now ≡ m.state =
    c.editor.ensures.present ∙ ended_state TEST_STEPS old _ _ c.as_slice.result.now c.run.result c.in-Ended.outcome _ string c.in-Ended.is c.run.ensures.step.1 c.editor-within.ensures.history.within has in
    c.is_yes.ensures ∙ ap (λ k. is_none k && (not (state_of c.editor.result.now).is_done && holds_number (state_of c.editor.result.now))) code
    ∙ ap (λ (s : State). is_none m.code && (not s.is_done && holds_number s)) state
