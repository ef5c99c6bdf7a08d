use Rattle.std.proofs.Common.{◌≡◌, ◌∙◌, ap, subst}
use Rattle.teco_store.specs.State.{state_of}
use Rattle.teco_session.specs.History.{present}
use Rattle.teco_session.specs.Kept.{history_of}
use Rattle.teco_debugger.specs.Walk.{KeptWalk, before_last, state_there, walk_first}
use Rattle.teco_debugger.proofs.Walked.{present_walked}
use Rattle.teco_debugger.proofs.walk.Walk.editor.Goals as goal

pub returns : goal.returns
returns c =
    let walk = c.self.inside in
    subst (λ (w : KeptWalk). state_of c.editor.result.now ≡ state_there w) c.self.view_is
    (c.editor.ensures.present ∙ ap present c.self.invariant.came
    ∙ present_walked (walk_first walk) (before_last (history_of walk.session)) walk.text.items walk.steps)
