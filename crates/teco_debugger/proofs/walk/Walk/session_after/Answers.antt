use Rattle.std.proofs.Common.{◌≡◌, ◌≤◌, ◌∙◌, false, ap, arith, length, subst, sym}
use Rattle.teco_session.specs.History.{History, present}
use Rattle.teco_session.specs.Kept.{history_of}
use Rattle.teco_debugger.specs.Walk.{KeptWalk, lacks_memory, led, meant}
use Rattle.teco_debugger.proofs.WalkEnds.{ended_state}
use Rattle.teco_debugger.proofs.walk.Walk.session_after.Goals as goal

pub returns : goal.returns
returns c =
    let w = c.args.self.now in
    let text : c.as_slice.result.now ≡ w.text = c.as_slice.ensures.value ∙ ap (λ (v : KeptWalk). v.text) c.self.view_is in
    let there : history_of c.in_ok-session.session ≡ led w.first w.before = c.in_ok-session.ensures in
    let has : lacks_memory c.in-Ended.outcome.code ≡ false = sym c.lacks_memory.ensures ∙ c.if-lacks_memory.false in
    ended_state c.args.n _ _ w.text c.as_slice.result.now c.run.result c.in-Ended.outcome _ text c.in-Ended.is c.run.ensures.step.1
    (subst (λ (h : History). h.cursor ≤ length h.notes) (sym there) (omega arith)) has
    ∙ ap (λ s. (meant s w.text c.args.n).state) (ap present there)
