use Rattle.std.proofs.Common.{◌≡◌, ◌∙◌, ◌+◌, ◌<◌, ap, length, subst, sym, take}
use Rattle.teco_session.specs.Kept.{history_of}
use Rattle.teco_debugger.specs.Walk.{KeptWalk, kept_walk, led}
use Rattle.teco_debugger.proofs.Walked.{run_again}
use Rattle.teco_debugger.proofs.walk.Walk.run_before.Goals as goal

pub returns-in-Ok : goal.returns-in-Ok
returns-in-Ok c =
    let walk = c.self.inside in
    let w : KeptWalk = kept_walk walk in
    let less = subst (λ (v : KeptWalk). c.args.i < length v.before) (sym c.self.view_is) c.requires.within in
    let was = subst (λ (v : KeptWalk). history_of c.args.session.now ≡ led v.first (take c.args.i v.before)) (sym c.self.view_is) c.requires.led in
    subst (λ (v : KeptWalk). history_of c.replay.new.session ≡ led v.first (take (c.args.i + 1) v.before)) c.self.view_is
    (run_again (history_of walk.session) _ _ w.first c.args.i c.steps-steps.result c.in_ok-text.text.items _ (ap (λ h. h.first) c.self.invariant.came) c.editor-leads.ensures.history.states
    less was (c.in_ok-text.ensures.items ∙ c.string.ensures.history) c.steps-steps.ensures.history c.in-Ok.ensures.told)
