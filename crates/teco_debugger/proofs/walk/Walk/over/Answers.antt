use Rattle.std.proofs.Common.{◌≡◌, List, refl, subst, sym, take, arith}
use Rattle.teco_replay.specs.Begun.{begun_state}
use Rattle.teco_store.specs.State.{State}
use Rattle.teco_session.specs.History.{History, NotedString}
use Rattle.teco_session.specs.Kept.{history_of}
use Rattle.teco_debugger.specs.Walk.{walked}
use Rattle.teco_debugger.proofs.WalkEnds.{began, began_steps}
use Rattle.teco_debugger.proofs.Walked.{before_is, is_walked}
use Rattle.teco_debugger.proofs.walk.Walk.over.Goals as goal

pub invariant_of-result : goal.invariant_of-result
invariant_of-result c =
    let h : History = history_of c.args.session in
    let o = c.args.opening in
    let first : State = begun_state o.profile o.lines o.input.items in
    let before : List NotedString = take h.cursor h.notes in
    let came : history_of c.run.new.self ≡ walked h.first before c.args.text.items c.in-Ended.outcome.steps =
    began h _ c.args.text.items c.as_slice.result.now c.run.result c.in-Ended.outcome _ c.as_slice.ensures.value c.in-Ended.is c.run.ensures.step.1 c.requires.depth c.editor-leads.ensures.history.within in
    record {
      small = omega (arith, c.requires.small, o.input.ok.0);
      came = is_walked _ first before c.args.text.items c.in-Ended.outcome.steps
          (subst (λ (s : State). history_of c.run.new.self ≡ walked s before c.args.text.items c.in-Ended.outcome.steps) c.requires.first came);
    }

pub returns-in-Ended : goal.returns-in-Ended
returns-in-Ended c =
    let h : History = history_of c.args.session in
    let before : List NotedString = take h.cursor h.notes in
    let came : history_of c.run.new.self ≡ walked h.first before c.args.text.items c.in-Ended.outcome.steps =
    began h _ c.args.text.items c.as_slice.result.now c.run.result c.in-Ended.outcome _ c.as_slice.ensures.value c.in-Ended.is c.run.ensures.step.1 c.requires.depth c.editor-leads.ensures.history.within in
    record {
      first = sym c.requires.first;
      before = before_is _ h.first before c.args.text.items c.in-Ended.outcome.steps came;
      text = refl;
      steps = began_steps h _ c.args.text.items c.as_slice.result.now c.run.result c.in-Ended.outcome _ c.as_slice.ensures.value c.in-Ended.is c.run.ensures.step.1;
    }
